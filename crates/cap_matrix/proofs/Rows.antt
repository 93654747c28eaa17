-- Rows and lists of rows that are given by a formula, and the product of a row with matrices.
use Rattle.std.proofs.Common.{◌≡◌, ℕ, ◌*◌, ◌%◌, ◌<◌, List, [], length, get_or, sym, ap, ◌∙◌, arith}
use Rattle.std.specs.Prelude.{slice_index}
use Rattle.std.proofs.lemmas.List.{ext_get_or}
use Rattle.std.proofs.lemmas.List.FromFn.{length-map-range_with_len, get_or-map-range_with_len}
use Rattle.std.proofs.Math.Nat.{zero-add}
use Rattle.cap_matrix.specs.Grid.{total, entry, row_by, rows_by, Grid, product_of, row_times}
use Rattle.cap_matrix.proofs.Sums.{total-same, times_assoc}

pub length-row_by : (n : ℕ) (f : ℕ → ℕ) → length (row_by n f) ≡ n
length-row_by n f = length-map-range_with_len f 0 n

pub row_by-at : (n : ℕ) (f : ℕ → ℕ) (i : ℕ) → i < n → get_or (row_by n f) i 0 ≡ f i
row_by-at n f i lt = get_or-map-range_with_len f 0 n i i 0 lt (zero-add i)

-- a row is fixed by its length and its entries
pub row_by_is : (n : ℕ) (f : ℕ → ℕ) (xs : List ℕ) → length xs ≡ n → ((i : ℕ) → i < n → get_or xs i 0 ≡ f i) → xs ≡ row_by n f
row_by_is n f xs long h =
    ext_get_or 0 xs (row_by n f) (long ∙ sym (length-row_by n f))
    (λ i lt. let below : i < n = omega arith in h i below ∙ sym (row_by-at n f i below))

pub row_by-same : (n : ℕ) (f g : ℕ → ℕ) → ((i : ℕ) → i < n → f i ≡ g i) → row_by n f ≡ row_by n g
row_by-same n f g h = row_by_is n g (row_by n f) (length-row_by n f) (λ i lt. row_by-at n f i lt ∙ h i lt)

pub length-rows_by : (n m : ℕ) (f : ℕ → ℕ → ℕ) → length (rows_by n m f) ≡ n
length-rows_by n m f = length-map-range_with_len (λ i. row_by m (f i)) 0 n

pub rows_by-at : (n m : ℕ) (f : ℕ → ℕ → ℕ) (i : ℕ) → i < n → get_or (rows_by n m f) i [] ≡ row_by m (f i)
rows_by-at n m f i lt = get_or-map-range_with_len (λ k. row_by m (f k)) 0 n i i [] lt (zero-add i)

pub entry-rows_by : (n m : ℕ) (f : ℕ → ℕ → ℕ) (i j : ℕ) → i < n → j < m → entry (rows_by n m f) i j ≡ f i j
entry-rows_by n m f i j a b = ap (λ r. get_or r j 0) (rows_by-at n m f i a) ∙ row_by-at m (f i) j b

pub rows_by_is : (n m : ℕ) (f : ℕ → ℕ → ℕ) (rs : List (List ℕ)) → length rs ≡ n → ((i : ℕ) → i < n → get_or rs i [] ≡ row_by m (f i)) → rs ≡ rows_by n m f
rows_by_is n m f rs long h =
    ext_get_or [] rs (rows_by n m f) (long ∙ sym (length-rows_by n m f))
    (λ i lt. let below : i < n = omega arith in h i below ∙ sym (rows_by-at n m f i below))

pub rows_by-same : (n m : ℕ) (f g : ℕ → ℕ → ℕ) → ((i j : ℕ) → i < n → j < m → f i j ≡ g i j) → rows_by n m f ≡ rows_by n m g
rows_by-same n m f g h =
    rows_by_is n m g (rows_by n m f) (length-rows_by n m f)
    (λ i lt. rows_by-at n m f i lt ∙ row_by-same m (f i) (g i) (λ j b. h i j lt b))

-- (x·A)·B is x·(A·B)
pub row_times_assoc : (x : List ℕ) (a b : Grid) → a.prime ≡ b.prime → a.column_count ≡ b.row_count
    → row_times (row_times x a) b ≡ row_times x (product_of a b)
row_times_assoc x a b same meet =
    row_by-same b.column_count
    (λ j. total b.row_count (λ l. slice_index (row_times x a) l * entry b.entries l j) % b.prime)
    (λ j. total a.row_count (λ i. slice_index x i * entry (product_of a b).entries i j) % a.prime)
    (λ j lt.
    ap (λ p. total b.row_count (λ l. slice_index (row_times x a) l * entry b.entries l j) % p) (sym same)
    ∙ ap (λ n. total n (λ l. slice_index (row_times x a) l * entry b.entries l j) % a.prime) (sym meet)
    ∙ ap (λ s. s % a.prime)
    (total-same a.column_count (λ l. slice_index (row_times x a) l * entry b.entries l j)
    (λ l. (total a.row_count (λ i. slice_index x i * entry a.entries i l) % a.prime) * entry b.entries l j)
    (λ l m. ap (λ s. s * entry b.entries l j) (row_by-at a.column_count (λ c. total a.row_count (λ i. slice_index x i * entry a.entries i c) % a.prime) l m)))
    ∙ times_assoc a.prime a.row_count a.column_count (λ i. slice_index x i) (λ i l. entry a.entries i l) (λ l c. entry b.entries l c) j
    ∙ ap (λ s. s % a.prime)
    (total-same a.row_count
    (λ i. slice_index x i * (total a.column_count (λ l. entry a.entries i l * entry b.entries l j) % a.prime))
    (λ i. slice_index x i * entry (product_of a b).entries i j)
    (λ i below. ap (λ s. slice_index x i * s)
    (sym (entry-rows_by a.row_count b.column_count (λ u v. total a.column_count (λ k. entry a.entries u k * entry b.entries k v) % a.prime) i j below lt)))))
