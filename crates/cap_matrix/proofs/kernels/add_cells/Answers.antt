use Rattle.std.proofs.Common.{◌≡◌, ◌+◌, ◌%◌, ◌<◌, length, get_or, set, sym, ap, ◌∙◌, arith, ⊎_elim}
use Rattle.std.proofs.lemmas.List.{get_or-set_same, get_or-set_other}
use Rattle.std.proofs.lemmas.Bool.{cases_eq}
use Rattle.cap_matrix.proofs.Writes.{sum_kept, sum_reduced}
use Rattle.cap_matrix.proofs.kernels.add_cells.Goals as goal
use Rattle.cap_matrix.proofs.kernels.add_cells.Goals.{then-sum-p, else-sum-p}

pub loop-k-preserved : goal.loop-k-preserved
loop-k-preserved c =
    let place : c.loop-k.k < length c.loop-k.sums = omega arith in
    let x = get_or c.args.sums.now c.loop-k.k 0 in
    let y = get_or c.args.b.now c.loop-k.k 0 in
    let left = c.requires.left_small c.loop-k.k (omega arith) in
    let right = c.requires.right_small c.loop-k.k (omega arith) in
    let now = c.loop-k.invariant.rest c.loop-k.k (omega arith) in
    let value : c.if-sum-p.sums ≡ (x + y) % c.args.p = elim c.if-sum-p.branch [
      | then-sum-p w ↦ let e = sum_kept c.args.p (x + y) (omega arith) in omega arith
      | else-sum-p w ↦ let e = sum_reduced c.args.p (x + y) (omega arith) (omega arith) in omega arith
    ] in
    record {
      done = λ q lt. ⊎_elim
          (λ same. ap (λ y. get_or (set c.loop-k.sums c.loop-k.k c.if-sum-p.sums) y 0) same
          ∙ get_or-set_same c.loop-k.sums c.loop-k.k c.if-sum-p.sums 0 place ∙ value
          ∙ sym (ap (λ y. (get_or c.args.sums.now y 0 + get_or c.args.b.now y 0) % c.args.p) same))
          (λ other. get_or-set_other c.loop-k.sums c.loop-k.k q c.if-sum-p.sums 0 other ∙ c.loop-k.invariant.done q (omega arith))
          (cases_eq q c.loop-k.k);
      rest = λ q lt. get_or-set_other c.loop-k.sums c.loop-k.k q c.if-sum-p.sums 0 (omega arith) ∙ c.loop-k.invariant.rest q (omega arith);
    }
