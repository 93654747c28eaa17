use Rattle.std.proofs.Common.{◌≡◌, drop}
use Rattle.cap_seat.specs.Seats.{told_among}
use Rattle.cap_seat.proofs.known.object_in.Given as goal

abbrev pub invariant-loop-i : goal.invariant-loop-i
invariant-loop-i g l = told_among l.told l.h ≡ told_among (drop l.i l.told) l.h
