use Rattle.std.proofs.Common.{◌≡◌, ◌++◌, take}
use Rattle.std.specs.List.{flat_map}
use Rattle.cap_spelling.specs.Spelling.{rows_symbols}
use Rattle.cap_spelling.proofs.matrices.push_matrices.Given as goal

abbrev pub invariant-matrices : goal.invariant-matrices
invariant-matrices l = l.out.items ≡ l.fn.out.items ++ flat_map rows_symbols (take l.matrix-index l.matrices)
