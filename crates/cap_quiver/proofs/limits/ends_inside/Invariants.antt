use Rattle.std.proofs.Common.{ℕ, ◌<◌, get_or}
use Rattle.cap_quiver.proofs.limits.ends_inside.Given as goal

abbrev pub invariant-loop-a : goal.invariant-loop-a
invariant-loop-a l = (a : ℕ) → a < l.a → ((get_or l.arrows a (0, 0)).0 < l.fn.objects) × ((get_or l.arrows a (0, 0)).1 < l.fn.objects)
