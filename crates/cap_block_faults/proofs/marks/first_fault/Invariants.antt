use Rattle.std.proofs.Common.{◌≡◌, drop}
use Rattle.cap_block_faults.specs.Marks.{faults, first}
use Rattle.cap_block_faults.proofs.marks.first_fault.Given as goal

abbrev pub invariant-tokens : goal.invariant-tokens
invariant-tokens l = first (faults (drop l.i l.places) (drop l.i l.marks)) ≡ first (faults l.places l.marks)
