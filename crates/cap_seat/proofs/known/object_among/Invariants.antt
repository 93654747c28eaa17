use Rattle.std.proofs.Common.{◌≡◌, drop}
use Rattle.std.specs.List.{flat_map}
use Rattle.cap_seat.specs.Seats.{told_among}
use Rattle.cap_seat.proofs.known.object_among.Given as goal

abbrev pub invariant-loop-i : goal.invariant-loop-i
invariant-loop-i g l = told_among (flat_map (λ told. told) l.known) l.h ≡ told_among (flat_map (λ told. told) (drop l.i l.known)) l.h
