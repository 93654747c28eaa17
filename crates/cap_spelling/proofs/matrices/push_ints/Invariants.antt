use Rattle.std.proofs.Common.{◌≡◌, ◌++◌, take}
use Rattle.std.specs.List.{flat_map}
use Rattle.cap_spelling.specs.Spelling.{int_symbols}
use Rattle.cap_spelling.proofs.matrices.push_ints.Given as goal

abbrev pub invariant-integers : goal.invariant-integers
invariant-integers l = l.out.items ≡ l.fn.out.items ++ flat_map int_symbols (take l.integer-index l.integers)
