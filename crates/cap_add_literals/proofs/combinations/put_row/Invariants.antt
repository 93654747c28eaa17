use Rattle.std.proofs.Common.{◌≡◌, ◌++◌, map, take}
use Rattle.cap_add_literals.specs.Combinations.{residues_of_entry}
use Rattle.cap_add_literals.proofs.combinations.put_row.Given as goal

abbrev pub invariant-loop-entry : goal.invariant-loop-entry
invariant-loop-entry l = l.entries.items ≡ l.fn.entries.items ++ map (residues_of_entry l.field) (take l.entry-index l.row)
