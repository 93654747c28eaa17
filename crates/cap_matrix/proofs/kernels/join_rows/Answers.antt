use Rattle.std.proofs.Common.{◌+◌, ◌*◌, ◌-◌, get_or, ltb, cond, ap, ◌∙◌, arith}
use Rattle.std.proofs.lemmas.Nat.{mul-le}
use Rattle.cap_matrix.proofs.Writes.{rows_more, joined-at}
use Rattle.cap_matrix.proofs.kernels.join_rows.Goals as goal

pub loop-i-preserved : goal.loop-i-preserved
loop-i-preserved c =
    rows_more (c.args.left + c.args.right) c.loop-i.i c.args.rows _ c.loop-i.out c.join.new.out
    (λ i j. cond (ltb j c.args.left) (get_or c.args.a.now (i * c.args.left + j) 0) (get_or c.args.b.now (i * c.args.right + (j - c.args.left)) 0))
    c.loop-i.invariant (omega arith) (omega arith) (omega arith)
    (λ j below. ap (λ xs. get_or xs j 0) c.join.ensures
    ∙ joined-at c.args.a.now c.args.b.now c.loop-i.i c.args.left c.args.right j (omega (arith, mul-le (c.loop-i.i + 1) c.args.left c.args.rows c.args.left (omega arith) (omega arith))) below)
