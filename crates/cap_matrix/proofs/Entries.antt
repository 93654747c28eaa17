-- Matrices and the entries of sums, multiples and products of them.
use Rattle.std.proofs.Common.{◌≡◌, ◌≢◌, ℕ, ◌+◌, ◌*◌, ◌%◌, ◌<◌, ◌≤◌, cond, eqb, List, [], length, get_or, refl, sym, ap, ◌∙◌, subst, arith, ⊎_elim}
use Rattle.std.proofs.lemmas.List.{ext_get_or}
use Rattle.std.proofs.lemmas.Bool.{cases_eq, eq-eqb, ne_eqb, cond-true, cond-false}
use Rattle.std.proofs.Math.Nat.{mod-lt}
use Rattle.cap_matrix.specs.Grid.{Grid, IsMatrixOf, entry, total, matrix_by, product_of, sum_of, scaled_of, zero_of, unit_of}
use Rattle.cap_matrix.proofs.Rows.{length-row_by, length-rows_by, rows_by-at, entry-rows_by}

abbrev make : ℕ → ℕ → ℕ → List (List ℕ) → Grid
make p n m e = record { prime = p; row_count = n; column_count = m; entries = e }

-- a matrix is fixed by its counts and its entries
pub matrix_ext : {p a b : ℕ} {f g : Grid} → IsMatrixOf p a b f → IsMatrixOf p a b g
    → ((i j : ℕ) → i < a → j < b → entry f.entries i j ≡ entry g.entries i j) → f ≡ g
matrix_ext {p} {a} {b} {f} {g} F G h =
    let sf = F.is.shaped in
    let sg = G.is.shaped in
    let rows_same : f.row_count ≡ g.row_count = F.from ∙ sym G.from in
    let columns_same : f.column_count ≡ g.column_count = F.to ∙ sym G.to in
    let entries_same : f.entries ≡ g.entries =
    ext_get_or [] f.entries g.entries (sf.row_many ∙ rows_same ∙ sym sg.row_many)
    (λ i lt.
    let below : i < f.row_count = omega (arith, sf.row_many) in
    let below2 : i < g.row_count = omega (arith, rows_same) in
    let wf = sf.column_many i below in
    let wg = sg.column_many i below2 in
    ext_get_or 0 (get_or f.entries i []) (get_or g.entries i []) (wf ∙ columns_same ∙ sym wg)
    (λ j inner. h i j (omega (arith, F.from)) (omega (arith, F.to, wf)))) in
    ap (λ x. make x f.row_count f.column_count f.entries) (F.is.prime ∙ sym G.is.prime)
    ∙ ap (λ x. make g.prime x f.column_count f.entries) rows_same
    ∙ ap (λ x. make g.prime g.row_count x f.entries) columns_same
    ∙ ap (λ x. make g.prime g.row_count g.column_count x) entries_same

pub matrix_by-at : (p n m : ℕ) (f : ℕ → ℕ → ℕ) (i j : ℕ) → i < n → j < m → entry (matrix_by p n m f).entries i j ≡ f i j
matrix_by-at p n m f i j a b = entry-rows_by n m f i j a b

pub matrix_by-is : (p n m : ℕ) (f : ℕ → ℕ → ℕ) → ((i j : ℕ) → i < n → j < m → f i j < p) → IsMatrixOf p n m (matrix_by p n m f)
matrix_by-is p n m f h = record {
  is = record {
    prime = refl;
    shaped = record {
      row_many = length-rows_by n m f;
      column_many = λ i lt. ap length (rows_by-at n m f i lt) ∙ length-row_by m (f i);
    };
    residues = λ i j a b. subst (λ x. x < p) (sym (entry-rows_by n m f i j a b)) (h i j a b);
  };
  from = refl;
  to = refl;
}

pub same-at : {f g : Grid} → f ≡ g → (i j : ℕ) → entry f.entries i j ≡ entry g.entries i j
same-at e i j = ap (λ (x : Grid). entry x.entries i j) e

pub small-at : {p a b : ℕ} {f : Grid} → IsMatrixOf p a b f → (i j : ℕ) → i < a → j < b → entry f.entries i j < p
small-at {p} {a} {b} {f} F i j lt below = F.is.residues i j (omega (arith, F.from)) (omega (arith, F.to))

-- the operations, at the ends of their arguments
pub product-is : {p a b c : ℕ} {f g : Grid} → IsMatrixOf p a b f → IsMatrixOf p b c g
    → product_of f g ≡ matrix_by p a c (λ i j. total b (λ k. entry f.entries i k * entry g.entries k j) % p)
product-is {p} {a} {b} {c} {f} {g} F G =
    ap (λ q. matrix_by q f.row_count g.column_count (λ i j. total f.column_count (λ k. entry f.entries i k * entry g.entries k j) % q)) F.is.prime
    ∙ ap (λ n. matrix_by p n g.column_count (λ i j. total f.column_count (λ k. entry f.entries i k * entry g.entries k j) % p)) F.from
    ∙ ap (λ m. matrix_by p a m (λ i j. total f.column_count (λ k. entry f.entries i k * entry g.entries k j) % p)) G.to
    ∙ ap (λ n. matrix_by p a c (λ i j. total n (λ k. entry f.entries i k * entry g.entries k j) % p)) F.to

pub sum-is : {p a b : ℕ} {f : Grid} (g : Grid) → IsMatrixOf p a b f
    → sum_of f g ≡ matrix_by p a b (λ i j. (entry f.entries i j + entry g.entries i j) % p)
sum-is {p} {a} {b} {f} g F =
    ap (λ q. matrix_by q f.row_count f.column_count (λ i j. (entry f.entries i j + entry g.entries i j) % q)) F.is.prime
    ∙ ap (λ n. matrix_by p n f.column_count (λ i j. (entry f.entries i j + entry g.entries i j) % p)) F.from
    ∙ ap (λ m. matrix_by p a m (λ i j. (entry f.entries i j + entry g.entries i j) % p)) F.to

pub scaled-is : {p a b : ℕ} {f : Grid} (n : ℕ) → IsMatrixOf p a b f → scaled_of n f ≡ matrix_by p a b (λ i j. n * entry f.entries i j % p)
scaled-is {p} {a} {b} {f} n F =
    ap (λ q. matrix_by q f.row_count f.column_count (λ i j. n * entry f.entries i j % q)) F.is.prime
    ∙ ap (λ k. matrix_by p k f.column_count (λ i j. n * entry f.entries i j % p)) F.from
    ∙ ap (λ m. matrix_by p a m (λ i j. n * entry f.entries i j % p)) F.to

pub matrix-same : {p a b : ℕ} {f g : Grid} → f ≡ g → IsMatrixOf p a b g → IsMatrixOf p a b f
matrix-same {p} {a} {b} e G = subst (λ x. IsMatrixOf p a b x) (sym e) G

pub product-matrix : {p a b c : ℕ} {f g : Grid} → 1 ≤ p → IsMatrixOf p a b f → IsMatrixOf p b c g → IsMatrixOf p a c (product_of f g)
product-matrix {p} {a} {b} {c} {f} {g} pos F G =
    matrix-same (product-is F G) (matrix_by-is p a c (λ i j. total b (λ k. entry f.entries i k * entry g.entries k j) % p) (λ i j lt below. mod-lt (total b (λ k. entry f.entries i k * entry g.entries k j)) pos))

pub sum-matrix : {p a b : ℕ} {f : Grid} (g : Grid) → 1 ≤ p → IsMatrixOf p a b f → IsMatrixOf p a b (sum_of f g)
sum-matrix {p} {a} {b} {f} g pos F =
    matrix-same (sum-is g F) (matrix_by-is p a b (λ i j. (entry f.entries i j + entry g.entries i j) % p) (λ i j lt below. mod-lt (entry f.entries i j + entry g.entries i j) pos))

pub scaled-matrix : {p a b : ℕ} {f : Grid} (n : ℕ) → 1 ≤ p → IsMatrixOf p a b f → IsMatrixOf p a b (scaled_of n f)
scaled-matrix {p} {a} {b} {f} n pos F =
    matrix-same (scaled-is n F) (matrix_by-is p a b (λ i j. n * entry f.entries i j % p) (λ i j lt below. mod-lt (n * entry f.entries i j) pos))

pub zero-matrix : (p a b : ℕ) → 1 ≤ p → IsMatrixOf p a b (zero_of p a b)
zero-matrix p a b pos = matrix_by-is p a b (λ i j. 0) (λ i j lt below. pos)

abbrev pub delta : ℕ → ℕ → ℕ
delta i j = cond (eqb i j) 1 0

pub delta-same : (i : ℕ) → delta i i ≡ 1
delta-same i = cond-true (eqb i i) 1 0 (eq-eqb i i refl)

pub delta-other : (i j : ℕ) → i ≢ j → delta i j ≡ 0
delta-other i j ne = cond-false (eqb i j) 1 0 (ne_eqb i j ne)

pub delta-small : (p i j : ℕ) → 2 ≤ p → delta i j < p
delta-small p i j big = ⊎_elim
    (λ e. let x : delta i j ≡ 1 = cond-true (eqb i j) 1 0 (eq-eqb i j e) in omega arith)
    (λ ne. let x = delta-other i j ne in omega arith)
    (cases_eq i j)

pub unit-matrix : (p a : ℕ) → 2 ≤ p → IsMatrixOf p a a (unit_of p a)
unit-matrix p a big = matrix_by-is p a a (λ i j. cond (eqb i j) 1 0) (λ i j lt below. delta-small p i j big)

pub product-at : {p a b c : ℕ} {f g : Grid} → IsMatrixOf p a b f → IsMatrixOf p b c g → (i j : ℕ) → i < a → j < c
    → entry (product_of f g).entries i j ≡ total b (λ k. entry f.entries i k * entry g.entries k j) % p
product-at {p} {a} {b} {c} {f} {g} F G i j lt below =
    ap (λ (x : Grid). entry x.entries i j) (product-is F G) ∙ matrix_by-at p a c (λ i j. total b (λ k. entry f.entries i k * entry g.entries k j) % p) i j lt below

pub sum-at : {p a b : ℕ} {f : Grid} (g : Grid) → IsMatrixOf p a b f → (i j : ℕ) → i < a → j < b
    → entry (sum_of f g).entries i j ≡ (entry f.entries i j + entry g.entries i j) % p
sum-at {p} {a} {b} {f} g F i j lt below =
    ap (λ (x : Grid). entry x.entries i j) (sum-is g F) ∙ matrix_by-at p a b (λ i j. (entry f.entries i j + entry g.entries i j) % p) i j lt below

pub scaled-at : {p a b : ℕ} {f : Grid} (n : ℕ) → IsMatrixOf p a b f → (i j : ℕ) → i < a → j < b
    → entry (scaled_of n f).entries i j ≡ n * entry f.entries i j % p
scaled-at {p} {a} {b} {f} n F i j lt below =
    ap (λ (x : Grid). entry x.entries i j) (scaled-is n F) ∙ matrix_by-at p a b (λ i j. n * entry f.entries i j % p) i j lt below

pub zero-at : (p a b i j : ℕ) → i < a → j < b → entry (zero_of p a b).entries i j ≡ 0
zero-at p a b i j lt below = matrix_by-at p a b (λ i j. 0) i j lt below

pub unit-at : (p a i j : ℕ) → i < a → j < a → entry (unit_of p a).entries i j ≡ delta i j
unit-at p a i j lt below = matrix_by-at p a a (λ i j. cond (eqb i j) 1 0) i j lt below
