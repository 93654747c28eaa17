use Rattle.std.proofs.Common.{◌≡◌, drop}
use Rattle.cap_terms.specs.Run.{all_at, has_none}
use Rattle.cap_steps.specs.Slots.{slots}
use Rattle.cap_steps.proofs.steps.any_nothing.Given as goal

abbrev pub invariant-loop-x : goal.invariant-loop-x
invariant-loop-x g l = has_none (all_at (slots l.env) l.xs) ≡ has_none (all_at (slots l.env) (drop l.x-index l.xs))
