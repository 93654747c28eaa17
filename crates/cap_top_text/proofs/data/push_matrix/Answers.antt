use Rattle.cap_top_text.proofs.data.push_matrix.Goals as goal

pub push_rows-requires : goal.push_rows-requires
push_rows-requires c = c.field-field.ensures.matrix.shaped
