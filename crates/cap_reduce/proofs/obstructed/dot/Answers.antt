use Rattle.std.proofs.Common.{◌+◌, ◌*◌, get_or, sym, ap, ◌∙◌, arith}
use Rattle.std.proofs.lemmas.Nat.{mul-le}
use Rattle.cap_matrix.proofs.Writes.{total-more}
use Rattle.cap_reduce.proofs.obstructed.dot.Goals as goal

pub overflow_add-sum : goal.overflow_add-sum
overflow_add-sum c =
    let x = mul-le (get_or c.args.v.now c.loop-c.c 0) (get_or c.args.y.now c.loop-c.c 0) 250 250 (c.requires.row_small c.loop-c.c (omega arith)) (c.requires.column_small c.loop-c.c (omega arith)) in
    omega arith

pub loop-c-preserved : goal.loop-c-preserved
loop-c-preserved c =
    let x = mul-le (get_or c.args.v.now c.loop-c.c 0) (get_or c.args.y.now c.loop-c.c 0) 250 250 (c.requires.row_small c.loop-c.c (omega arith)) (c.requires.column_small c.loop-c.c (omega arith)) in
    record {
      value = ap (λ s. s + get_or c.args.v.now c.loop-c.c 0 * get_or c.args.y.now c.loop-c.c 0) c.loop-c.invariant.value
          ∙ sym (total-more c.loop-c.c (λ q. get_or c.args.v.now q 0 * get_or c.args.y.now q 0));
      small = omega arith;
    }
