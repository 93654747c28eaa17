use Rattle.std.proofs.Common.{◌≡◌, [], take}
use Rattle.cap_block_faults.specs.Marks.{each}
use Rattle.cap_faults.specs.Scripts.{part_faults, values_behind, bound_by_part}
use Rattle.cap_faults.proofs.parts.prelude_values.Given as goal

abbrev pub invariant-parts : goal.invariant-parts
invariant-parts l = record {
  none : each (part_faults l.parts) (take l.i l.parts) ≡ [];
  bound : l.values.items ≡ values_behind bound_by_part [] (take l.i l.parts);
}
