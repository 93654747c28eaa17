use Rattle.std.proofs.Common.{◌≡◌, ◌++◌, take, map, Some}
use Rattle.std.specs.List.{All}
use Rattle.cap_ops.specs.Told.{told_in}
use Rattle.cap_store.proofs.telling.told_objects.Given as goal

abbrev pub invariant-loop-h : goal.invariant-loop-h
invariant-loop-h g l = (map (λ x. x.0) l.told.items ≡ take l.h-index l.handles) × All (λ x. told_in (l.objects ++ l.fresh) x.0 ≡ Some x.1) l.told.items
