use Rattle.std.proofs.Common.{ℕ, ◌<◌, [], get_or}
use Rattle.cap_quiver.proofs.limits.are_residues.Given as goal

abbrev pub invariant-loop-k : goal.invariant-loop-k
invariant-loop-k l = (i : ℕ) → i < l.k → (get_or l.terms i (0, [])).0 < l.fn.field
