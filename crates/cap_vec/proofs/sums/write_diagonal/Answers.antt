use Rattle.std.proofs.Common.{◌≡◌, ◌+◌, ◌-◌, ◌*◌, ◌<◌, List, ℕ, length, sym, subst, arith}
use Rattle.std.proofs.lemmas.Nat.{mul-add-lt}
use Rattle.cap_vec.proofs.Diagonals.{IsSoFar, diagonal_more, diagonal_skip}
use Rattle.cap_vec.proofs.sums.write_diagonal.Goals as goal
use Rattle.cap_vec.proofs.sums.write_diagonal.Goals.{then-i-col+then-i-col-2, else-i-col, else-i-col-via-then-i-col+else-i-col-2, else-i-col-via-else-i-col}

pub loop-i-preserved : goal.loop-i-preserved
loop-i-preserved c =
    let i = c.loop-i.i in
    let row = c.args.row in
    let col = c.args.col in
    let cols = c.args.cols in
    let before = c.loop-i.cells in
    let so_far = λ (xs : List ℕ). IsSoFar cols row col (i + 1) xs in
    elim c.if-i-col.branch [
      | then-i-col+then-i-col-2 w ↦
          let t = i + col - row in
          let within : t < cols = w.if-i-col-2.true in
          let over = w.if-i-col.true in
          let here : i + col ≡ t + row = omega arith in
          let under : i < c.args.rows = c.loop-i-test.true in
          let place : i * cols + t < length before = omega (arith, mul-add-lt i cols t c.args.rows under within) in
          subst so_far (sym w.cells-is) (diagonal_more cols row col i t before here within place c.loop-i.invariant)
      | else-i-col w ↦ subst so_far (sym w.cells-is) (elim w.else-i-col.branch [
        | else-i-col-via-then-i-col+else-i-col-2 w' ↦
            let beyond = w'.if-i-col-2.false in
            let over = w'.if-i-col.true in
            diagonal_skip cols row col i before (λ t lt. λ e. omega (arith, beyond, over, e, lt)) c.loop-i.invariant
        | else-i-col-via-else-i-col w' ↦
            let short = w'.if-i-col.false in
            diagonal_skip cols row col i before (λ t lt. λ e. omega (arith, short, e)) c.loop-i.invariant
      ])
    ]
