use Rattle.std.proofs.Common.{◌≡◌, take}
use Rattle.cap_ops.specs.Arrows.{arguments}
use Rattle.cap_terms.specs.Run.{all_at}
use Rattle.cap_steps.specs.Slots.{slots}
use Rattle.cap_steps.proofs.steps.arguments_at.Given as goal

abbrev pub invariant-loop-x : goal.invariant-loop-x
invariant-loop-x g l = arguments l.args.items ≡ all_at (slots l.env) (take l.x-index l.xs)
