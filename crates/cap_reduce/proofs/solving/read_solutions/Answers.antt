use Rattle.std.proofs.Common.{◌+◌, ◌*◌, cond, ltb, get_or, length, arith}
use Rattle.cap_matrix.proofs.Writes.{rows_more}
use Rattle.cap_reduce.specs.Flat.{cell}
use Rattle.cap_reduce.proofs.solving.read_solutions.Goals as goal

pub loop-k-preserved : goal.loop-k-preserved
loop-k-preserved c =
    let n = length c.args.place.now in
    let t = c.loop-k.k in let y = c.loop-k.auto in let z = c.read_solution.auto in
    rows_more n t c.args.count _ c.loop-k.xs c.read_solution.new.x
    (λ k i. cond (ltb (get_or c.args.place.now i 0) c.args.rank) (cell c.args.table.now c.args.width (get_or c.args.place.now i 0) (n + k)) 0)
    c.loop-k.invariant (omega arith) (omega arith) (omega arith) (λ i below. c.read_solution.ensures i below)
