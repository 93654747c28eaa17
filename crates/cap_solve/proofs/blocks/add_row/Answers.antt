use Rattle.std.proofs.Common.{◌≡◌, ◌+◌, ◌%◌, get_or, arith}
use Rattle.cap_matrix.proofs.Writes.{sum_kept, sum_reduced}
use Rattle.cap_solve.proofs.Additions.{added_start, added_more}
use Rattle.cap_solve.proofs.blocks.add_row.Goals as goal
use Rattle.cap_solve.proofs.blocks.add_row.Goals.{then-sum-p, else-sum-p}

pub loop-k-init : goal.loop-k-init
loop-k-init c = added_start c.args.p c.args.cells.now c.args.at (λ k. get_or c.args.source.now k 0) c.requires.small

pub loop-k-preserved : goal.loop-k-preserved
loop-k-preserved c =
    let p = c.args.p in
    let k = c.loop-k.k in
    let x = get_or c.loop-k.cells (c.args.at + k) 0 in
    let y = get_or c.args.source.now k 0 in
    let left = c.loop-k.invariant.small (c.args.at + k) in
    let right = c.requires.source_small k in
    let value : c.if-sum-p.cells ≡ (x + y) % p = elim c.if-sum-p.branch [
      | then-sum-p w ↦ let e = sum_kept p (x + y) (omega arith) in omega arith
      | else-sum-p w ↦ let e = sum_reduced p (x + y) (omega arith) (omega arith) in omega arith
    ] in
    added_more p c.args.cells.now c.loop-k.cells c.args.at k c.if-sum-p.cells (λ j. get_or c.args.source.now j 0) (omega (arith, left)) (omega arith) value c.loop-k.invariant
