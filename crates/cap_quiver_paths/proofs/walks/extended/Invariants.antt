use Rattle.std.proofs.Common.{◌≤◌, length}
use Rattle.cap_quiver_laws.specs.Paths.{IsExtendedSoFar}
use Rattle.cap_quiver_paths.specs.Data.{quiver}
use Rattle.cap_quiver_paths.proofs.walks.extended.Given as goal

abbrev pub invariant-loop-a : goal.invariant-loop-a
invariant-loop-a l = record { so_far : IsExtendedSoFar (quiver l.fn.objects l.arrows 0) l.level l.next.items l.a 0; few : length l.next.items ≤ 128 }

abbrev pub invariant-loop-x : goal.invariant-loop-x
invariant-loop-x l = record { so_far : IsExtendedSoFar (quiver l.fn.objects l.arrows 0) l.level l.next.items l.a l.x; few : length l.next.items ≤ 128 }
