use Rattle.std.proofs.Common.{◌≡◌, take}
use Rattle.cap_data.specs.Cells.{coefficients}
use Rattle.cap_data.proofs.lists.count_coefficients.Given as goal

abbrev pub invariant-loop-entry : goal.invariant-loop-entry
invariant-loop-entry l = l.count ≡ coefficients (take l.entry-index l.entries)
