use Rattle.std.proofs.Common.{◌≡◌, take}
use Rattle.cap_ops.specs.Arrows.{arguments}
use Rattle.cap_steps.specs.Slots.{slots}
use Rattle.cap_steps.proofs.steps.parameters.Given as goal

abbrev pub invariant-loop-arg : goal.invariant-loop-arg
invariant-loop-arg g l = slots l.env.items ≡ arguments (take l.arg-index l.args)
