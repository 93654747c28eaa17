use Rattle.std.proofs.Common.{◌≡◌, [], take}
use Rattle.cap_check.specs.Unbuilt.{unbuilt}
use Rattle.cap_check.proofs.building.parts_built.Given as goal

abbrev pub invariant-parts : goal.invariant-parts
invariant-parts l = unbuilt (take l.part-index l.parts) ≡ []
