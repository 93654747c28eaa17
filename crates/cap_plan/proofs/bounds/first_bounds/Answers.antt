use Rattle.std.proofs.Common.{◌≡◌, refl, arith}
use Rattle.std.proofs.lemmas.List.Elements.{All-replicate}
use Rattle.cap_ops.specs.declared.plans.TheConstants.{NO_PLAN}
use Rattle.cap_plan.proofs.bounds.first_bounds.Goals as goal

pub loop-op-init : goal.loop-op-init
loop-op-init c = record { long = refl; done = λ k h. absurd (omega (arith, h)); rest = λ k h h'. All-replicate (λ b. b ≡ NO_PLAN) 44 NO_PLAN refl k 0 h' }
