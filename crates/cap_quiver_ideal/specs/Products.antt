-- The products u·r·v of a relation with paths, as rows.
use Rattle.std.specs.Prelude.{◌≡◌, ℕ, ◌*◌, ◌%◌, ◌<◌, ◌≤◌, List, [], length, slice_index, slice_index_or}
use Rattle.cap_matrix.specs.Grid.{total}
use Rattle.cap_quiver_laws.specs.Quotient.{path_at, PathNumbers}

-- the coefficient of path q in u·r·v, modulo p, where the terms of r have these coefficients, and their paths the listed numbers
abbrev pub product_at : ℕ → PathNumbers → List (ℕ × List ℕ) → List ℕ → ℕ → ℕ → ℕ → ℕ
product_at p A terms list u v q = total (length terms) (λ k. (slice_index_or terms k (0, [])).0 * path_at (A.join (A.join u (slice_index list k)) v) q) % p

-- the row has the coefficient of each path
pub record IsProductRow (p : ℕ) (A : PathNumbers) (terms : List (ℕ × List ℕ)) (list : List ℕ) (u v : ℕ) (row : List ℕ) : Type 0 where
  pub long : length row ≡ A.count
  pub at : (q : ℕ) → q < A.count → slice_index row q ≡ product_at p A terms list u v q

-- the coefficients are residues modulo p
abbrev pub AreResidueTerms : ℕ → List (ℕ × List ℕ) → Type 0
AreResidueTerms p terms = (k : ℕ) → k < length terms → (slice_index_or terms k (0, [])).0 < p

-- none of the listed paths can follow u, and none fits between u and v
abbrev pub NoneFollows : PathNumbers → List ℕ → ℕ → Type 0
NoneFollows A list u = (k : ℕ) → k < length list → A.count ≤ A.join u (slice_index list k)

abbrev pub NoneFits : PathNumbers → List ℕ → ℕ → ℕ → Type 0
NoneFits A list u v = (k : ℕ) → k < length list → A.count ≤ A.join (A.join u (slice_index list k)) v
