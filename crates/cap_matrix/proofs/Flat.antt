-- A flat buffer and its rows.
use Rattle.std.proofs.Common.{◌≡◌, ℕ, ◌+◌, ◌*◌, ◌%◌, ◌<◌, List, [], length, get_or, set, sym, ap, ◌∙◌, arith, ⊎_elim}
use Rattle.std.proofs.lemmas.List.{length-set, get_or-set_same, get_or-set_other}
use Rattle.std.proofs.lemmas.Nat.{mul-add-lt, same_from_place}
use Rattle.std.proofs.lemmas.Bool.{cases_eq}
use Rattle.cap_matrix.specs.Grid.{Grid, total, product_of, entry, row_by}
use Rattle.cap_matrix.specs.Buffer.{rows_of}
use Rattle.cap_matrix.proofs.Sums.{total-same}
use Rattle.cap_matrix.proofs.Rows.{length-row_by, row_by-at, row_by_is, row_by-same, length-rows_by, rows_by-at, rows_by_is, rows_by-same, entry-rows_by}

pub entry-rows_of : (n m : ℕ) (cells : List ℕ) (i j : ℕ) → i < n → j < m → entry (rows_of n m cells) i j ≡ get_or cells (i * m + j) 0
entry-rows_of n m cells i j a b = entry-rows_by n m (λ u v. get_or cells (u * m + v) 0) i j a b

-- a write to one cell
pub rows_of-set : (n m : ℕ) (cells : List ℕ) (i j v : ℕ) → length cells ≡ n * m → i < n → j < m
    → rows_of n m (set cells (i * m + j) v) ≡ set (rows_of n m cells) i (set (get_or (rows_of n m cells) i []) j v)
rows_of-set n m cells i j v long a b =
    let old = λ (u w : ℕ). get_or cells (u * m + w) 0 in
    let new = λ (u w : ℕ). get_or (set cells (i * m + j) v) (u * m + w) 0 in
    let changed = set (get_or (rows_of n m cells) i []) j v in
    let place : i * m + j < length cells = omega (arith, mul-add-lt i m j n a b) in
    let width : length (get_or (rows_of n m cells) i []) ≡ m = ap length (rows_by-at n m old i a) ∙ length-row_by m (old i) in
    let apart : (k c : ℕ) → c < m → (k * m + c ≡ i * m + j → ⊥) → new k c ≡ old k c
    = λ k c lt ne. get_or-set_other cells (i * m + j) (k * m + c) v 0 ne in
    let row_is : changed ≡ row_by m (new i) =
    row_by_is m (new i) changed (length-set (get_or (rows_of n m cells) i []) j v ∙ width)
    (λ c lt. ⊎_elim
    (λ same. ap (λ w. get_or changed w 0) same
    ∙ get_or-set_same (get_or (rows_of n m cells) i []) j v 0 (omega arith)
    ∙ sym (get_or-set_same cells (i * m + j) v 0 place)
    ∙ sym (ap (λ w. new i w) same))
    (λ other. get_or-set_other (get_or (rows_of n m cells) i []) j c v 0 other
    ∙ ap (λ r. get_or r c 0) (rows_by-at n m old i a)
    ∙ row_by-at m (old i) c lt
    ∙ sym (apart i c lt (λ e. other (same_from_place i c i j m lt b e).1)))
    (cases_eq c j)) in
    sym (rows_by_is n m new (set (rows_of n m cells) i changed)
    (length-set (rows_of n m cells) i changed ∙ length-rows_by n m old)
    (λ k lt. ⊎_elim
    (λ same. ap (λ w. get_or (set (rows_of n m cells) i changed) w []) same
    ∙ get_or-set_same (rows_of n m cells) i changed [] (omega (arith, length-rows_by n m old))
    ∙ row_is
    ∙ sym (ap (λ w. row_by m (new w)) same))
    (λ other. get_or-set_other (rows_of n m cells) i k changed [] other
    ∙ rows_by-at n m old k lt
    ∙ row_by-same m (old k) (new k) (λ c below. sym (apart k c below (λ e. other (same_from_place k c i j m below b e).0))))
    (cases_eq k i)))

abbrev pub grid : ℕ → ℕ → ℕ → List ℕ → Grid
grid p n m cells = record { prime = p; row_count = n; column_count = m; entries = rows_of n m cells }

-- a buffer with the sums of products is the product of matrices
pub rows_of-product : (p q n k l m : ℕ) (a b out : List ℕ) → k ≡ l
    → ((i j : ℕ) → i < n → j < m → get_or out (i * m + j) 0 ≡ total k (λ c. get_or a (i * k + c) 0 * get_or b (c * m + j) 0) % p)
    → rows_of n m out ≡ (product_of (grid p n k a) (grid q l m b)).entries
rows_of-product p q n k l m a b out same h =
    rows_by-same n m (λ i j. get_or out (i * m + j) 0)
    (λ i j. total k (λ c. entry (rows_of n k a) i c * entry (rows_of l m b) c j) % p)
    (λ i j lt below. h i j lt below
    ∙ ap (λ y. y % p) (total-same k (λ c. get_or a (i * k + c) 0 * get_or b (c * m + j) 0)
    (λ c. entry (rows_of n k a) i c * entry (rows_of l m b) c j)
    (λ c inner. ap (λ y. y * get_or b (c * m + j) 0) (sym (entry-rows_of n k a i c lt inner))
    ∙ ap (λ y. entry (rows_of n k a) i c * y) (sym (entry-rows_of l m b c j (omega arith) below)))))
