use Rattle.std.proofs.Common.{◌≡◌, ◌++◌, map, take}
use Rattle.cap_offer.specs.Cells.{residue_of}
use Rattle.cap_offer.proofs.matrices.put_row.Given as goal

abbrev pub invariant-loop-entry : goal.invariant-loop-entry
invariant-loop-entry l = l.cells.items ≡ l.fn.cells.items ++ map (residue_of l.field) (take l.entry-index l.row)
