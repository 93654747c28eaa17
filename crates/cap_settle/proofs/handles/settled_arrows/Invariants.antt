use Rattle.std.proofs.Common.{◌≡◌, take, map}
use Rattle.cap_settle.specs.Settled.{settled_arrow}
use Rattle.cap_settle.proofs.handles.settled_arrows.Given as goal

abbrev pub invariant-loop-f : goal.invariant-loop-f
invariant-loop-f g l = l.all.items ≡ map (settled_arrow l.count) (take l.f-index l.arrows)
