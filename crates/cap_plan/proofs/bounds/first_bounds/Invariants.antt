use Rattle.std.proofs.Common.{◌≡◌, ℕ, ◌<◌, ◌≤◌, None, get_or, length}
use Rattle.cap_plan.specs.Rounds.{weight_or_none}
use Rattle.cap_ops.specs.declared.plans.TheConstants.{NO_PLAN}
use Rattle.cap_plan.proofs.bounds.first_bounds.Given as goal

abbrev pub invariant-loop-op : goal.invariant-loop-op
invariant-loop-op l =
    record {
      long : length l.bounds ≡ 44;
      done : (k : ℕ) → k < l.op → get_or l.bounds k 0 ≡ weight_or_none (get_or l.regs.weights k None);
      rest : (k : ℕ) → l.op ≤ k → k < 44 → get_or l.bounds k 0 ≡ NO_PLAN;
    }
