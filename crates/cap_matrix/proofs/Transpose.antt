-- Transposes, which turn products round.
use Rattle.std.proofs.Common.{◌≡◌, ℕ, ◌+◌, ◌*◌, ◌%◌, ◌<◌, ◌≤◌, sym, ap, ◌∙◌, ⊎_elim}
use Rattle.std.proofs.Math.Nat.{mul_comm}
use Rattle.std.proofs.lemmas.Bool.{cases_eq}
use Rattle.cap_matrix.specs.Grid.{Grid, IsMatrixOf, entry, matrix_by, product_of, sum_of, scaled_of, zero_of, unit_of, transposed_of}
use Rattle.cap_matrix.proofs.Sums.{total-same}
use Rattle.cap_matrix.proofs.Entries.{matrix_ext, matrix_by-at, matrix_by-is, matrix-same, small-at, product-matrix, sum-matrix, scaled-matrix, zero-matrix, unit-matrix, product-at, sum-at, scaled-at, zero-at, unit-at, delta, delta-other}

pub transposed-is : {p a b : ℕ} {f : Grid} → IsMatrixOf p a b f → transposed_of f ≡ matrix_by p b a (λ i j. entry f.entries j i)
transposed-is {p} {a} {b} {f} F =
    ap (λ q. matrix_by q f.column_count f.row_count (λ i j. entry f.entries j i)) F.is.prime
    ∙ ap (λ n. matrix_by p n f.row_count (λ i j. entry f.entries j i)) F.to
    ∙ ap (λ m. matrix_by p b m (λ i j. entry f.entries j i)) F.from

pub transposed-matrix : {p a b : ℕ} {f : Grid} → IsMatrixOf p a b f → IsMatrixOf p b a (transposed_of f)
transposed-matrix {p} {a} {b} {f} F = matrix-same (transposed-is F) (matrix_by-is p b a (λ i j. entry f.entries j i) (λ i j lt below. small-at F j i below lt))

pub transposed-at : {p a b : ℕ} {f : Grid} → IsMatrixOf p a b f → (i j : ℕ) → i < b → j < a → entry (transposed_of f).entries i j ≡ entry f.entries j i
transposed-at {p} {a} {b} {f} F i j lt below = ap (λ (x : Grid). entry x.entries i j) (transposed-is F) ∙ matrix_by-at p b a (λ i j. entry f.entries j i) i j lt below

pub transposed-twice : {p a b : ℕ} {f : Grid} → IsMatrixOf p a b f → transposed_of (transposed_of f) ≡ f
transposed-twice F =
    let T = transposed-matrix F in
    matrix_ext (transposed-matrix T) F (λ i j lt below. transposed-at T i j lt below ∙ transposed-at F j i below lt)

-- (f·g)' = g'·f'
pub transposed-product : {p a b c : ℕ} {f g : Grid} → 1 ≤ p → IsMatrixOf p a b f → IsMatrixOf p b c g
    → transposed_of (product_of f g) ≡ product_of (transposed_of g) (transposed_of f)
transposed-product {p} {a} {b} {c} {f} {g} pos F G =
    let FG = product-matrix pos F G in
    let TF = transposed-matrix F in
    let TG = transposed-matrix G in
    matrix_ext (transposed-matrix FG) (product-matrix pos TG TF)
    (λ i j lt below. transposed-at FG i j lt below ∙ product-at F G j i below lt
    ∙ ap (λ s. s % p) (total-same b (λ k. entry f.entries j k * entry g.entries k i) (λ k. entry (transposed_of g).entries i k * entry (transposed_of f).entries k j)
    (λ k inner. mul_comm (entry f.entries j k) (entry g.entries k i)
    ∙ ap (λ s. s * entry f.entries j k) (sym (transposed-at G i k lt inner))
    ∙ ap (λ s. entry (transposed_of g).entries i k * s) (sym (transposed-at F k j inner below))))
    ∙ sym (product-at TG TF i j lt below))

pub transposed-zero : (p a b : ℕ) → 1 ≤ p → transposed_of (zero_of p a b) ≡ zero_of p b a
transposed-zero p a b pos =
    let Z = zero-matrix p a b pos in
    matrix_ext (transposed-matrix Z) (zero-matrix p b a pos) (λ i j lt below. transposed-at Z i j lt below ∙ zero-at p a b j i below lt ∙ sym (zero-at p b a i j lt below))

delta-comm : (i j : ℕ) → delta i j ≡ delta j i
delta-comm i j = ⊎_elim (λ e. ap (λ x. delta x j) e ∙ sym (ap (λ x. delta j x) e)) (λ ne. delta-other i j ne ∙ sym (delta-other j i (λ e. ne (sym e)))) (cases_eq i j)

pub transposed-unit : (p a : ℕ) → 2 ≤ p → transposed_of (unit_of p a) ≡ unit_of p a
transposed-unit p a big =
    let U = unit-matrix p a big in
    matrix_ext (transposed-matrix U) U (λ i j lt below. transposed-at U i j lt below ∙ unit-at p a j i below lt ∙ delta-comm j i ∙ sym (unit-at p a i j lt below))

pub transposed-sum : {p a b : ℕ} {f g : Grid} → 1 ≤ p → IsMatrixOf p a b f → IsMatrixOf p a b g → transposed_of (sum_of f g) ≡ sum_of (transposed_of f) (transposed_of g)
transposed-sum {p} {a} {b} {f} {g} pos F G =
    let FG = sum-matrix g pos F in
    let TF = transposed-matrix F in
    matrix_ext (transposed-matrix FG) (sum-matrix (transposed_of g) pos TF)
    (λ i j lt below. transposed-at FG i j lt below ∙ sum-at g F j i below lt
    ∙ ap (λ s. (s + entry g.entries j i) % p) (sym (transposed-at F i j lt below))
    ∙ ap (λ s. (entry (transposed_of f).entries i j + s) % p) (sym (transposed-at G i j lt below))
    ∙ sym (sum-at (transposed_of g) TF i j lt below))

pub transposed-scaled : {p a b : ℕ} {f : Grid} (n : ℕ) → 1 ≤ p → IsMatrixOf p a b f → transposed_of (scaled_of n f) ≡ scaled_of n (transposed_of f)
transposed-scaled {p} {a} {b} {f} n pos F =
    let N = scaled-matrix n pos F in
    let TF = transposed-matrix F in
    matrix_ext (transposed-matrix N) (scaled-matrix n pos TF)
    (λ i j lt below. transposed-at N i j lt below ∙ scaled-at n F j i below lt
    ∙ ap (λ s. n * s % p) (sym (transposed-at F i j lt below)) ∙ sym (scaled-at n TF i j lt below))
