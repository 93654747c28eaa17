use Rattle.std.proofs.Common.{◌≢◌, ◌<◌, length, arith, get_or-set_other, get_or-set_same, below_more, length-set}
use Rattle.cap_plan.proofs.plan.Goals as goal

pub loop-op-preserved : goal.loop-op-preserved
loop-op-preserved c =
    let lt : c.loop-op.op < length c.loop-op.choices = omega (arith, c.loop-op.invariant.long) in
    record {
      long = rw length-set c.loop-op.invariant.long;
      each = below_more _ _
          (λ k h. let ne : k ≢ c.loop-op.op = omega arith in rw get_or-set_other (c.loop-op.invariant.each k h))
          (rw get_or-set_same c.choice_of.ensures);
    }
