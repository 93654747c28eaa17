use Rattle.std.proofs.Common.{◌≡◌, map, take}
use Rattle.cap_add_literals.specs.Combinations.{residue_in}
use Rattle.cap_add_literals.proofs.combinations.residues.Given as goal

abbrev pub invariant-loop-n : goal.invariant-loop-n
invariant-loop-n l = l.row.items ≡ map (residue_in l.field) (take l.n-index l.coefficients)
