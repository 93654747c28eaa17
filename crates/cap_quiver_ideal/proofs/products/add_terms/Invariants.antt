use Rattle.std.proofs.Common.{◌≡◌, ℕ, ◌*◌, ◌%◌, ◌<◌, [], get_or}
use Rattle.cap_matrix.specs.Grid.{total}
use Rattle.cap_quiver_laws.specs.Quotient.{path_at}
use Rattle.cap_quiver_paths.specs.Read.{numbers_in}
use Rattle.cap_quiver_ideal.proofs.products.add_terms.Given as goal

abbrev pub invariant-loop-k : goal.invariant-loop-k
invariant-loop-k l =
    let A = numbers_in l.numbers in
    (q : ℕ) → q < A.count → get_or l.row q 0 ≡ total l.k (λ i. (get_or l.terms i (0, [])).0 * path_at (A.join (A.join l.u (get_or l.list i 0)) l.v) q) % l.field
