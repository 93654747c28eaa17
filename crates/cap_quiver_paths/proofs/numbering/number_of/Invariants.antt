use Rattle.std.proofs.Common.{◌≡◌, ℕ, ◌<◌, ◌++◌}
use Rattle.cap_quiver_laws.specs.Paths.{path_of}
use Rattle.cap_quiver_paths.proofs.numbering.number_of.Given as goal

abbrev pub invariant-loop-a : goal.invariant-loop-a
invariant-loop-a l = (b : ℕ) → b < l.a → path_of l.paths b ≡ record { start = l.start; arrows = l.first ++ l.second } → ⊥
