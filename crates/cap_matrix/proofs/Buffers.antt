-- A matrix and the flat buffer that holds it.
use Rattle.std.proofs.Common.{◌≡◌, ℕ, ◌+◌, ◌*◌, ◌/◌, ◌%◌, ◌<◌, List, length, get_or, sym, ap, ◌∙◌, subst, arith, ⊎_elim}
use Rattle.std.proofs.lemmas.List.{ext_get_or}
use Rattle.std.proofs.lemmas.Nat.{mul-add-lt, div_below, mod_below}
use Rattle.std.proofs.Math.Nat.{mul-zero, div-add-mod'}
use Rattle.std.proofs.lemmas.Bool.{cases_eq}
use Rattle.cap_matrix.specs.Grid.{Grid, IsMatrixOf, entry}
use Rattle.cap_matrix.specs.Buffer.{rows_of, matrix_of, IsFlat, IsBufferOf}
use Rattle.cap_matrix.proofs.Entries.{matrix_by-is, same-at}
use Rattle.cap_matrix.proofs.Flat.{entry-rows_of}

-- what holds at each row and column holds at each place
pub each_place : (n m : ℕ) (P : ℕ → Type 0) → ((i j : ℕ) → i < n → j < m → P (i * m + j)) → (k : ℕ) → k < n * m → P k
each_place n m P h k lt =
    ⊎_elim (λ z. absurd (let e : n * m ≡ 0 = ap (λ y. n * y) z ∙ mul-zero n in omega arith))
    (λ ne. let some : 0 < m = omega arith in
    subst P (div-add-mod' k m) (h (k / m) (k % m) (div_below k m n some lt) (mod_below k m some)))
    (cases_eq m 0)

-- a flat buffer is fixed by its rows
pub cells_same : (n m : ℕ) (a b : List ℕ) → length a ≡ n * m → length b ≡ n * m → rows_of n m a ≡ rows_of n m b → a ≡ b
cells_same n m a b la lb e =
    ext_get_or 0 a b (la ∙ sym lb)
    (λ k lt. each_place n m (λ k. get_or a k 0 ≡ get_or b k 0)
    (λ i j p q. sym (entry-rows_of n m a i j p q) ∙ ap (λ rs. entry rs i j) e ∙ entry-rows_of n m b i j p q)
    k (omega arith))

pub matrix_of-same : (p q n k m l : ℕ) (a b : List ℕ) → p ≡ q → n ≡ k → m ≡ l → a ≡ b → matrix_of p n m a ≡ matrix_of q k l b
matrix_of-same p q n k m l a b ep en em e =
    ap (λ x. matrix_of x n m a) ep ∙ ap (λ x. matrix_of q x m a) en ∙ ap (λ x. matrix_of q k x a) em ∙ ap (matrix_of q k l) e

pub matrix_of_cells : (p q n k m l : ℕ) (a b : List ℕ) → n ≡ k → m ≡ l → length a ≡ n * m → length b ≡ k * l
    → matrix_of p n m a ≡ matrix_of q k l b → a ≡ b
matrix_of_cells p q n k m l a b en em la lb e =
    cells_same n m a b la (lb ∙ sym (ap (λ x. x * m) en ∙ ap (λ x. k * x) em))
    (ap (λ (g : Grid). g.entries) e ∙ sym (ap (λ x. rows_of x m b) en ∙ ap (λ x. rows_of k x b) em))

pub flat_matrix : (p n m : ℕ) (cells : List ℕ) → IsFlat p n m cells → IsMatrixOf p n m (matrix_of p n m cells)
flat_matrix p n m cells h =
    matrix_by-is p n m (λ i j. get_or cells (i * m + j) 0)
    (λ i j a b. h.residues (i * m + j) (omega (arith, mul-add-lt i m j n a b)))

-- a matrix with a buffer is one, and its entries are the cells
pub buffer_matrix : (g : Grid) (cells : List ℕ) → IsBufferOf g cells → IsMatrixOf g.prime g.row_count g.column_count g
buffer_matrix g cells h =
    subst (λ x. IsMatrixOf g.prime g.row_count g.column_count x) h.same
    (flat_matrix g.prime g.row_count g.column_count cells h.flat)

pub buffer-at : (g : Grid) (cells : List ℕ) → IsBufferOf g cells → (i j : ℕ) → i < g.row_count → j < g.column_count
    → entry g.entries i j ≡ get_or cells (i * g.column_count + j) 0
buffer-at g cells h i j a b = sym (same-at h.same i j) ∙ entry-rows_of g.row_count g.column_count cells i j a b
