use Rattle.std.proofs.Common.{◌≡◌, take}
use Rattle.cap_add_laws.specs.Closure.{joined}
use Rattle.cap_addclosure.proofs.rows.all_coefficients.Given as goal

abbrev pub invariant-loop-entry : goal.invariant-loop-entry
invariant-loop-entry l = l.row.items ≡ joined (take l.entry-index l.entries)
