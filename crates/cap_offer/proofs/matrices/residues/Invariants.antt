use Rattle.std.proofs.Common.{◌≡◌, take}
use Rattle.cap_offer.specs.Cells.{residues_of}
use Rattle.cap_offer.proofs.matrices.residues.Given as goal

abbrev pub invariant-loop-row : goal.invariant-loop-row
invariant-loop-row l = l.cells.items ≡ residues_of l.field (take l.row-index l.rows)
