use Rattle.std.proofs.Common.{◌≡◌, take}
use Rattle.cap_session.proofs.answers.copy_arrows.Given as goal

abbrev pub invariant-loop-f : goal.invariant-loop-f
invariant-loop-f g l = l.copy.items ≡ take l.f-index l.arrows
