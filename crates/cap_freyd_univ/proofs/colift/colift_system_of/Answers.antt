use Rattle.std.proofs.Common.{refl}
use Rattle.cap_freyd.proofs.Sizes.{either}
use Rattle.cap_freyd_univ.proofs.colift.colift_system_of.Goals as goal

pub returns : goal.returns
returns g c = (
  rw c.in_ok-equations.ensures (rw c.in_ok-unknowns.ensures (rw c.in_ok-first.ensures.0 (rw c.in_ok-second.ensures.0 refl))),
  either c.in_ok-first.ensures.1 c.in_ok-second.ensures.1,
)
