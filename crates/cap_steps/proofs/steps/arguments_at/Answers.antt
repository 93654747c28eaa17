use Rattle.std.proofs.Common.{arith}
use Rattle.cap_steps.specs.Slots.{slots}
use Rattle.cap_steps.proofs.SlotsAt.{are-argument}
use Rattle.cap_steps.proofs.steps.arguments_at.Goals as goal

pub argument_at-requires : goal.argument_at-requires
argument_at-requires g c = let t = c.loop-x-test.true in are-argument (slots c.args.env.now) c.args.xs.now c.loop-x.x-index (record { 0 = 0 }) c.requires (omega (arith, t))
