use Rattle.std.proofs.Common.{◌-◌, get_or, sym, ap, ◌∙◌, arith, ⊎_elim}
use Rattle.std.proofs.lemmas.Bool.{cases_eq}
use Rattle.cap_reduce.specs.Flat.{cell}
use Rattle.cap_reduce.specs.NullTable.{null_entry}
use Rattle.cap_reduce.proofs.nulls.write_null_rows.Goals as goal

pub loop-i-preserved : goal.loop-i-preserved
loop-i-preserved c = λ k q lt below.
    ⊎_elim
    (λ same. ap (λ y. cell c.write_null_row.new.out c.args.cols y q) same ∙ c.write_null_row.ensures.written q below
    ∙ ap (λ y. null_entry c.args.p c.args.rank c.args.cols (cell c.args.cells.now c.args.cols) (λ j. get_or c.args.place.now j 0)
    (get_or c.args.free.now (c.args.cols - c.args.rank - 1 - y) 0) q) (sym same))
    (λ ne. c.write_null_row.ensures.others k q below ne ∙ c.loop-i.invariant k q (omega arith) below)
    (cases_eq k c.loop-i.i)
