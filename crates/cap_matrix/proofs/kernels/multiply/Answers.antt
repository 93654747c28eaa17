use Rattle.std.proofs.Common.{◌+◌, ◌*◌, ◌%◌, get_or, ap, ◌∙◌, sym, ⊎_elim, arith}
use Rattle.std.proofs.lemmas.Bool.{cases_eq}
use Rattle.cap_matrix.specs.Grid.{total}
use Rattle.cap_matrix.proofs.kernels.multiply.Goals as goal

pub loop-i-preserved : goal.loop-i-preserved
loop-i-preserved c = λ k j lt below.
    ⊎_elim
    (λ same. ap (λ y. get_or c.store_row.new.out (y * c.args.cols + j) 0) same
    ∙ c.store_row.ensures.stored j below
    ∙ ap (λ y. y % c.args.p) (c.sum_row.ensures j below)
    ∙ ap (λ y. total c.args.shape.cols (λ q. get_or c.args.a.now (y * c.args.shape.cols + q) 0 * get_or c.args.b.now (q * c.args.cols + j) 0) % c.args.p) (sym same))
    (λ other. c.store_row.ensures.others k j below other ∙ c.loop-i.invariant k j (omega arith) below)
    (cases_eq k c.loop-i.i)
