use Rattle.std.proofs.Common.{ℕ, ◌<◌, ◌≤◌, get_or}
use Rattle.cap_quiver_paths.specs.Read.{numbers_in}
use Rattle.cap_quiver_ideal.proofs.products.some_fits.Given as goal

abbrev pub invariant-loop-k : goal.invariant-loop-k
invariant-loop-k l = (i : ℕ) → i < l.k → (numbers_in l.numbers).count ≤ (numbers_in l.numbers).join ((numbers_in l.numbers).join l.u (get_or l.list i 0)) l.v
