use Rattle.std.proofs.Common.{◌≡◌, take}
use Rattle.cap_add_literals.specs.Combinations.{lists_of}
use Rattle.cap_add_literals.proofs.combinations.all_residues.Given as goal

abbrev pub invariant-loop-row : goal.invariant-loop-row
invariant-loop-row l = l.entries.items ≡ lists_of l.field (take l.row-index l.rows)
