use Rattle.std.proofs.Common.{◌≡◌, ◌+◌, ◌*◌, ◌≤◌, drop}
use Rattle.cap_ops.specs.Derivations.{charge}
use Rattle.cap_ops.specs.declared.plans.TheConstants.{NO_PLAN}
use Rattle.cap_plan.proofs.bounds.sum_of_calls.Given as goal

abbrev pub invariant-loop-op : goal.invariant-loop-op
invariant-loop-op l =
    record {
      told : l.sum + charge (drop l.op l.calls) (drop l.op l.bounds) ≡ charge l.calls l.bounds;
      small : l.sum ≤ l.op * (255 * NO_PLAN);
    }
