use Rattle.cap_names.proofs.WordTexts.{written_word}
use Rattle.cap_names.proofs.name.Name.new.Goals as goal

pub invariant_of-result : goal.invariant_of-result
invariant_of-result c = written_word c.args.word.now c.copy_from_slice.new.self (c.is_word.ensures.0 c.if-not-is_word.false) c.copy_from_slice.ensures.after
