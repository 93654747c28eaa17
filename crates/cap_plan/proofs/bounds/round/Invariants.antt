use Rattle.std.proofs.Common.{◌≡◌, ◌≤◌, length}
use Rattle.std.specs.List.{All}
use Rattle.cap_ops.specs.declared.plans.TheConstants.{NO_PLAN}
use Rattle.cap_plan.proofs.Rounds.{WalkedSoFar}
use Rattle.cap_plan.proofs.bounds.round.Given as goal

abbrev pub invariant-loop-rule : goal.invariant-loop-rule
invariant-loop-rule l =
    record {
      long : length l.bounds ≡ 44;
      capped : All (λ b. b ≤ NO_PLAN) l.bounds;
      walked : WalkedSoFar l.kind l.rules l.rule-index l.fn.bounds l.bounds l.changed;
    }
