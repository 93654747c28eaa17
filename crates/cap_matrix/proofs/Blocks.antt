-- Matrices above one another, beside one another, and blocks, and their products.
use Rattle.std.proofs.Common.{◌≡◌, ℕ, zero, suc, ◌+◌, ◌-◌, ◌*◌, ◌%◌, ◌<◌, ◌≤◌, cond, ltb, sym, ap, ◌∙◌, subst, arith, ⊎_elim}
use Rattle.std.proofs.lemmas.Bool.{cases_lt, cond_below, cond_above, cond-true, cond-false, lt-ltb, le-ltb}
use Rattle.std.proofs.Math.Nat.{add-mod, add-zero, zero-add, add_assoc}
use Rattle.cap_matrix.specs.Grid.{Grid, IsMatrixOf, entry, total, matrix_by, product_of, sum_of, stacked_of, beside_of, block_of, transposed_of}
use Rattle.cap_matrix.proofs.Sums.{total-same}
use Rattle.cap_matrix.proofs.Entries.{matrix_ext, matrix_by-at, matrix_by-is, matrix-same, same-at, small-at, product-matrix, product-at, sum-matrix, sum-at}
use Rattle.cap_matrix.proofs.Transpose.{transposed-matrix, transposed-at}

-- a sum in two parts
pub total-append : (n m : ℕ) (f : ℕ → ℕ) → total (n + m) f ≡ total n f + total m (λ i. f (n + i))
total-append n zero f = ap (λ k. total k f) (add-zero n) ∙ sym (add-zero (total n f))
total-append n (suc m) f =
    let e : n + suc m ≡ suc (n + m) = omega arith in
    ap (λ k. total k f) e ∙ ap (λ s. s + f (n + m)) (total-append n m f) ∙ add_assoc (total n f) (total m (λ i. f (n + i))) (f (n + m))

-- f above g
pub stacked-is : {p a b c : ℕ} {f g : Grid} → IsMatrixOf p a c f → IsMatrixOf p b c g
    → stacked_of f g ≡ matrix_by p (a + b) c (λ i j. cond (ltb i a) (entry f.entries i j) (entry g.entries (i - a) j))
stacked-is {p} {a} {b} {c} {f} {g} F G =
    ap (λ q. matrix_by q (f.row_count + g.row_count) f.column_count (λ i j. cond (ltb i f.row_count) (entry f.entries i j) (entry g.entries (i - f.row_count) j))) F.is.prime
    ∙ ap (λ n. matrix_by p (n + g.row_count) f.column_count (λ i j. cond (ltb i n) (entry f.entries i j) (entry g.entries (i - n) j))) F.from
    ∙ ap (λ n. matrix_by p (a + n) f.column_count (λ i j. cond (ltb i a) (entry f.entries i j) (entry g.entries (i - a) j))) G.from
    ∙ ap (λ n. matrix_by p (a + b) n (λ i j. cond (ltb i a) (entry f.entries i j) (entry g.entries (i - a) j))) F.to

module _ {p a b c : ℕ} {f g : Grid} (F : IsMatrixOf p a c f) (G : IsMatrixOf p b c g) where
  pub stacked-low : (i j : ℕ) → i < a → j < c → entry (stacked_of f g).entries i j ≡ entry f.entries i j
  stacked-low i j lt below =
      same-at (stacked-is F G) i j
      ∙ matrix_by-at p (a + b) c (λ i j. cond (ltb i a) (entry f.entries i j) (entry g.entries (i - a) j)) i j (omega arith) below
      ∙ cond-true (ltb i a) (entry f.entries i j) (entry g.entries (i - a) j) (lt-ltb i a lt)

  pub stacked-high : (i j : ℕ) → a ≤ i → i < a + b → j < c → entry (stacked_of f g).entries i j ≡ entry g.entries (i - a) j
  stacked-high i j ge lt below =
      same-at (stacked-is F G) i j
      ∙ matrix_by-at p (a + b) c (λ i j. cond (ltb i a) (entry f.entries i j) (entry g.entries (i - a) j)) i j lt below
      ∙ cond-false (ltb i a) (entry f.entries i j) (entry g.entries (i - a) j) (le-ltb i a ge)

  pub stacked-matrix : IsMatrixOf p (a + b) c (stacked_of f g)
  stacked-matrix = matrix-same (stacked-is F G) (matrix_by-is p (a + b) c (λ i j. cond (ltb i a) (entry f.entries i j) (entry g.entries (i - a) j))
      (λ i j lt below. ⊎_elim
      (λ low. subst (λ x. x < p) (cond_below i a (entry f.entries i j) (entry g.entries (i - a) j) low) (small-at F i j low below))
      (λ high. subst (λ x. x < p) (cond_above i a (entry f.entries i j) (entry g.entries (i - a) j) (entry g.entries (i - a) j) high (λ k. entry g.entries (i - a) j))
      (small-at G (i - a) j (omega arith) below))
      (cases_lt i a)))

-- f left of g
pub beside-is : {p a b c : ℕ} {f g : Grid} → IsMatrixOf p a b f → IsMatrixOf p a c g
    → beside_of f g ≡ matrix_by p a (b + c) (λ i j. cond (ltb j b) (entry f.entries i j) (entry g.entries i (j - b)))
beside-is {p} {a} {b} {c} {f} {g} F G =
    ap (λ q. matrix_by q f.row_count (f.column_count + g.column_count) (λ i j. cond (ltb j f.column_count) (entry f.entries i j) (entry g.entries i (j - f.column_count)))) F.is.prime
    ∙ ap (λ n. matrix_by p n (f.column_count + g.column_count) (λ i j. cond (ltb j f.column_count) (entry f.entries i j) (entry g.entries i (j - f.column_count)))) F.from
    ∙ ap (λ n. matrix_by p a (n + g.column_count) (λ i j. cond (ltb j n) (entry f.entries i j) (entry g.entries i (j - n)))) F.to
    ∙ ap (λ n. matrix_by p a (b + n) (λ i j. cond (ltb j b) (entry f.entries i j) (entry g.entries i (j - b)))) G.to

module _ {p a b c : ℕ} {f g : Grid} (F : IsMatrixOf p a b f) (G : IsMatrixOf p a c g) where
  pub beside-left : (i j : ℕ) → i < a → j < b → entry (beside_of f g).entries i j ≡ entry f.entries i j
  beside-left i j lt below =
      same-at (beside-is F G) i j
      ∙ matrix_by-at p a (b + c) (λ i j. cond (ltb j b) (entry f.entries i j) (entry g.entries i (j - b))) i j lt (omega arith)
      ∙ cond-true (ltb j b) (entry f.entries i j) (entry g.entries i (j - b)) (lt-ltb j b below)

  pub beside-right : (i j : ℕ) → i < a → b ≤ j → j < b + c → entry (beside_of f g).entries i j ≡ entry g.entries i (j - b)
  beside-right i j lt ge below =
      same-at (beside-is F G) i j
      ∙ matrix_by-at p a (b + c) (λ i j. cond (ltb j b) (entry f.entries i j) (entry g.entries i (j - b))) i j lt below
      ∙ cond-false (ltb j b) (entry f.entries i j) (entry g.entries i (j - b)) (le-ltb j b ge)

  pub beside-matrix : IsMatrixOf p a (b + c) (beside_of f g)
  beside-matrix = matrix-same (beside-is F G) (matrix_by-is p a (b + c) (λ i j. cond (ltb j b) (entry f.entries i j) (entry g.entries i (j - b)))
      (λ i j lt below. ⊎_elim
      (λ left. subst (λ x. x < p) (cond_below j b (entry f.entries i j) (entry g.entries i (j - b)) left) (small-at F i j lt left))
      (λ right. subst (λ x. x < p) (cond_above j b (entry f.entries i j) (entry g.entries i (j - b)) (entry g.entries i (j - b)) right (λ k. entry g.entries i (j - b)))
      (small-at G i (j - b) lt (omega arith)))
      (cases_lt j b)))

-- n rows and m columns of f, from row r and column s on
pub block-is : {p a b : ℕ} {f : Grid} (r s n m : ℕ) → IsMatrixOf p a b f → block_of r s n m f ≡ matrix_by p n m (λ i j. entry f.entries (r + i) (s + j))
block-is {f = f} r s n m F = ap (λ q. matrix_by q n m (λ i j. entry f.entries (r + i) (s + j))) F.is.prime

pub block-at : {p a b : ℕ} {f : Grid} (r s n m : ℕ) → IsMatrixOf p a b f → (i j : ℕ) → i < n → j < m → entry (block_of r s n m f).entries i j ≡ entry f.entries (r + i) (s + j)
block-at {p} {f = f} r s n m F i j lt below = same-at (block-is r s n m F) i j ∙ matrix_by-at p n m (λ i j. entry f.entries (r + i) (s + j)) i j lt below

pub block-matrix : {p a b : ℕ} {f : Grid} (r s n m : ℕ) → r + n ≤ a → s + m ≤ b → IsMatrixOf p a b f → IsMatrixOf p n m (block_of r s n m f)
block-matrix {p} {f = f} r s n m rows columns F =
    matrix-same (block-is r s n m F) (matrix_by-is p n m (λ i j. entry f.entries (r + i) (s + j)) (λ i j lt below. small-at F (r + i) (s + j) (omega arith) (omega arith)))

-- the parts of what was put together
pub block-whole : {p a b : ℕ} {f : Grid} → IsMatrixOf p a b f → block_of 0 0 a b f ≡ f
block-whole {p} {a} {b} {f} F =
    matrix_ext (block-matrix 0 0 a b (omega arith) (omega arith) F) F
    (λ i j lt below. block-at 0 0 a b F i j lt below ∙ ap (λ x. entry f.entries x (0 + j)) (zero-add i) ∙ ap (λ x. entry f.entries i x) (zero-add j))

pub block-stacked_first : {p a b c : ℕ} {f g : Grid} → IsMatrixOf p a c f → IsMatrixOf p b c g → block_of 0 0 a c (stacked_of f g) ≡ f
block-stacked_first {p} {a} {b} {c} {f} {g} F G =
    let S = stacked-matrix F G in
    matrix_ext (block-matrix 0 0 a c (omega arith) (omega arith) S) F
    (λ i j lt below. block-at 0 0 a c S i j lt below ∙ stacked-low F G (0 + i) (0 + j) (omega arith) (omega arith)
    ∙ ap (λ x. entry f.entries x (0 + j)) (zero-add i) ∙ ap (λ x. entry f.entries i x) (zero-add j))

pub block-stacked_second : {p a b c : ℕ} {f g : Grid} → IsMatrixOf p a c f → IsMatrixOf p b c g → block_of a 0 b c (stacked_of f g) ≡ g
block-stacked_second {p} {a} {b} {c} {f} {g} F G =
    let S = stacked-matrix F G in
    matrix_ext (block-matrix a 0 b c (omega arith) (omega arith) S) G
    (λ i j lt below. block-at a 0 b c S i j lt below ∙ stacked-high F G (a + i) (0 + j) (omega arith) (omega arith) (omega arith)
    ∙ ap (λ x. entry g.entries x (0 + j)) (let e : a + i - a ≡ i = omega arith in e) ∙ ap (λ x. entry g.entries i x) (zero-add j))

pub block-beside_first : {p a b c : ℕ} {f g : Grid} → IsMatrixOf p a b f → IsMatrixOf p a c g → block_of 0 0 a b (beside_of f g) ≡ f
block-beside_first {p} {a} {b} {c} {f} {g} F G =
    let S = beside-matrix F G in
    matrix_ext (block-matrix 0 0 a b (omega arith) (omega arith) S) F
    (λ i j lt below. block-at 0 0 a b S i j lt below ∙ beside-left F G (0 + i) (0 + j) (omega arith) (omega arith)
    ∙ ap (λ x. entry f.entries x (0 + j)) (zero-add i) ∙ ap (λ x. entry f.entries i x) (zero-add j))

pub block-beside_second : {p a b c : ℕ} {f g : Grid} → IsMatrixOf p a b f → IsMatrixOf p a c g → block_of 0 b a c (beside_of f g) ≡ g
block-beside_second {p} {a} {b} {c} {f} {g} F G =
    let S = beside-matrix F G in
    matrix_ext (block-matrix 0 b a c (omega arith) (omega arith) S) G
    (λ i j lt below. block-at 0 b a c S i j lt below ∙ beside-right F G (0 + i) (b + j) (omega arith) (omega arith) (omega arith)
    ∙ ap (λ x. entry g.entries x (b + j - b)) (zero-add i) ∙ ap (λ x. entry g.entries i x) (let e : b + j - b ≡ j = omega arith in e))

-- a matrix is its first rows above the rest, and its first columns left of the rest
pub stacked-blocks : {p c : ℕ} {f : Grid} (a b : ℕ) → IsMatrixOf p (a + b) c f → stacked_of (block_of 0 0 a c f) (block_of a 0 b c f) ≡ f
stacked-blocks {p} {c} {f} a b F =
    let X = block-matrix 0 0 a c (omega arith) (omega arith) F in
    let Y = block-matrix a 0 b c (omega arith) (omega arith) F in
    matrix_ext (stacked-matrix X Y) F
    (λ i j lt below. ⊎_elim
    (λ low. stacked-low X Y i j low below ∙ block-at 0 0 a c F i j low below ∙ ap (λ x. entry f.entries x (0 + j)) (zero-add i) ∙ ap (λ x. entry f.entries i x) (zero-add j))
    (λ high. stacked-high X Y i j high lt below ∙ block-at a 0 b c F (i - a) j (omega arith) below
    ∙ ap (λ x. entry f.entries x (0 + j)) (let e : a + (i - a) ≡ i = omega arith in e) ∙ ap (λ x. entry f.entries i x) (zero-add j))
    (cases_lt i a))

pub beside-blocks : {p a : ℕ} {f : Grid} (b c : ℕ) → IsMatrixOf p a (b + c) f → beside_of (block_of 0 0 a b f) (block_of 0 b a c f) ≡ f
beside-blocks {p} {a} {f} b c F =
    let X = block-matrix 0 0 a b (omega arith) (omega arith) F in
    let Y = block-matrix 0 b a c (omega arith) (omega arith) F in
    matrix_ext (beside-matrix X Y) F
    (λ i j lt below. ⊎_elim
    (λ left. beside-left X Y i j lt left ∙ block-at 0 0 a b F i j lt left ∙ ap (λ x. entry f.entries x (0 + j)) (zero-add i) ∙ ap (λ x. entry f.entries i x) (zero-add j))
    (λ right. beside-right X Y i j lt right below ∙ block-at 0 b a c F i (j - b) lt (omega arith)
    ∙ ap (λ x. entry f.entries x (b + (j - b))) (zero-add i) ∙ ap (λ x. entry f.entries i x) (let e : b + (j - b) ≡ j = omega arith in e))
    (cases_lt j b))

-- products with matrices that were put together
pub stacked-product : {p a b c d : ℕ} {f g h : Grid} → 1 ≤ p → IsMatrixOf p a c f → IsMatrixOf p b c g → IsMatrixOf p c d h
    → product_of (stacked_of f g) h ≡ stacked_of (product_of f h) (product_of g h)
stacked-product {p} {a} {b} {c} {d} {f} {g} {h} pos F G H =
    let S = stacked-matrix F G in
    let FH = product-matrix pos F H in
    let GH = product-matrix pos G H in
    matrix_ext (product-matrix pos S H) (stacked-matrix FH GH)
    (λ i j lt below. product-at S H i j lt below ∙ ⊎_elim
    (λ low.
    ap (λ s. s % p) (total-same c (λ k. entry (stacked_of f g).entries i k * entry h.entries k j) (λ k. entry f.entries i k * entry h.entries k j)
    (λ k inner. ap (λ s. s * entry h.entries k j) (stacked-low F G i k low inner)))
    ∙ sym (stacked-low FH GH i j low below ∙ product-at F H i j low below))
    (λ high.
    ap (λ s. s % p) (total-same c (λ k. entry (stacked_of f g).entries i k * entry h.entries k j) (λ k. entry g.entries (i - a) k * entry h.entries k j)
    (λ k inner. ap (λ s. s * entry h.entries k j) (stacked-high F G i k high lt inner)))
    ∙ sym (stacked-high FH GH i j high lt below ∙ product-at G H (i - a) j (omega arith) below))
    (cases_lt i a))

pub product-beside : {p a b c d : ℕ} {f g h : Grid} → 1 ≤ p → IsMatrixOf p a b f → IsMatrixOf p b c g → IsMatrixOf p b d h
    → product_of f (beside_of g h) ≡ beside_of (product_of f g) (product_of f h)
product-beside {p} {a} {b} {c} {d} {f} {g} {h} pos F G H =
    let S = beside-matrix G H in
    let FG = product-matrix pos F G in
    let FH = product-matrix pos F H in
    matrix_ext (product-matrix pos F S) (beside-matrix FG FH)
    (λ i j lt below. product-at F S i j lt below ∙ ⊎_elim
    (λ left.
    ap (λ s. s % p) (total-same b (λ k. entry f.entries i k * entry (beside_of g h).entries k j) (λ k. entry f.entries i k * entry g.entries k j)
    (λ k inner. ap (λ s. entry f.entries i k * s) (beside-left G H k j inner left)))
    ∙ sym (beside-left FG FH i j lt left ∙ product-at F G i j lt left))
    (λ right.
    ap (λ s. s % p) (total-same b (λ k. entry f.entries i k * entry (beside_of g h).entries k j) (λ k. entry f.entries i k * entry h.entries k (j - c))
    (λ k inner. ap (λ s. entry f.entries i k * s) (beside-right G H k j inner right below)))
    ∙ sym (beside-right FG FH i j lt right below ∙ product-at F H i (j - c) lt (omega arith)))
    (cases_lt j c))

-- (f beside g)·(x above y) is f·x + g·y
pub beside-product-stacked : {p a b c d : ℕ} {f g x y : Grid} → 1 ≤ p → IsMatrixOf p a b f → IsMatrixOf p a c g → IsMatrixOf p b d x → IsMatrixOf p c d y
    → product_of (beside_of f g) (stacked_of x y) ≡ sum_of (product_of f x) (product_of g y)
beside-product-stacked {p} {a} {b} {c} {d} {f} {g} {x} {y} pos F G X Y =
    let S = beside-matrix F G in
    let T = stacked-matrix X Y in
    let FX = product-matrix pos F X in
    let GY = product-matrix pos G Y in
    matrix_ext (product-matrix pos S T) (sum-matrix (product_of g y) pos FX)
    (λ i j lt below.
    let terms = λ (k : ℕ). entry (beside_of f g).entries i k * entry (stacked_of x y).entries k j in
    let first = λ (k : ℕ). entry f.entries i k * entry x.entries k j in
    let second = λ (k : ℕ). entry g.entries i k * entry y.entries k j in
    let back : (k : ℕ) → b + k - b ≡ k = λ k. omega arith in
    product-at S T i j lt below
    ∙ ap (λ s. s % p) (total-append b c terms
    ∙ ap (λ s. s + total c (λ k. terms (b + k))) (total-same b terms first
    (λ k inner. ap (λ s. s * entry (stacked_of x y).entries k j) (beside-left F G i k lt inner)
    ∙ ap (λ s. entry f.entries i k * s) (stacked-low X Y k j inner below)))
    ∙ ap (λ s. total b first + s) (total-same c (λ k. terms (b + k)) second
    (λ k inner. ap (λ s. s * entry (stacked_of x y).entries (b + k) j) (beside-right F G i (b + k) lt (omega arith) (omega arith) ∙ ap (λ w. entry g.entries i w) (back k))
    ∙ ap (λ s. entry g.entries i k * s) (stacked-high X Y (b + k) j (omega arith) (omega arith) below ∙ ap (λ w. entry y.entries w j) (back k)))))
    ∙ add-mod (total b first) (total c second) p
    ∙ ap (λ s. (s + total c second % p) % p) (sym (product-at F X i j lt below))
    ∙ ap (λ s. (entry (product_of f x).entries i j + s) % p) (sym (product-at G Y i j lt below))
    ∙ sym (sum-at (product_of g y) FX i j lt below))

-- rows of a product, and columns of one
pub block-product_rows : {p a b c : ℕ} {f g : Grid} (r n : ℕ) → 1 ≤ p → r + n ≤ a → IsMatrixOf p a b f → IsMatrixOf p b c g
    → block_of r 0 n c (product_of f g) ≡ product_of (block_of r 0 n b f) g
block-product_rows {p} {a} {b} {c} {f} {g} r n pos fits F G =
    let FG = product-matrix pos F G in
    let R = block-matrix r 0 n b fits (omega arith) F in
    matrix_ext (block-matrix r 0 n c fits (omega arith) FG) (product-matrix pos R G)
    (λ i j lt below. block-at r 0 n c FG i j lt below ∙ product-at F G (r + i) (0 + j) (omega arith) (omega arith)
    ∙ ap (λ s. s % p) (total-same b (λ k. entry f.entries (r + i) k * entry g.entries k (0 + j)) (λ k. entry (block_of r 0 n b f).entries i k * entry g.entries k j)
    (λ k inner. ap (λ s. entry f.entries (r + i) k * entry g.entries k s) (zero-add j)
    ∙ ap (λ s. s * entry g.entries k j) (sym (block-at r 0 n b F i k lt inner ∙ ap (λ w. entry f.entries (r + i) w) (zero-add k)))))
    ∙ sym (product-at R G i j lt below))

pub block-product_columns : {p a b c : ℕ} {f g : Grid} (s m : ℕ) → 1 ≤ p → s + m ≤ c → IsMatrixOf p a b f → IsMatrixOf p b c g
    → block_of 0 s a m (product_of f g) ≡ product_of f (block_of 0 s b m g)
block-product_columns {p} {a} {b} {c} {f} {g} s m pos fits F G =
    let FG = product-matrix pos F G in
    let R = block-matrix 0 s b m (omega arith) fits G in
    matrix_ext (block-matrix 0 s a m (omega arith) fits FG) (product-matrix pos F R)
    (λ i j lt below. block-at 0 s a m FG i j lt below ∙ product-at F G (0 + i) (s + j) (omega arith) (omega arith)
    ∙ ap (λ s. s % p) (total-same b (λ k. entry f.entries (0 + i) k * entry g.entries k (s + j)) (λ k. entry f.entries i k * entry (block_of 0 s b m g).entries k j)
    (λ k inner. ap (λ w. entry f.entries w k * entry g.entries k (s + j)) (zero-add i)
    ∙ ap (λ w. entry f.entries i k * w) (sym (block-at 0 s b m G k j inner below ∙ ap (λ w. entry g.entries w (s + j)) (zero-add k)))))
    ∙ sym (product-at F R i j lt below))

-- transposes
pub transposed-stacked : {p a b c : ℕ} {f g : Grid} → IsMatrixOf p a c f → IsMatrixOf p b c g → transposed_of (stacked_of f g) ≡ beside_of (transposed_of f) (transposed_of g)
transposed-stacked {p} {a} {b} {c} {f} {g} F G =
    let S = stacked-matrix F G in
    let TF = transposed-matrix F in
    let TG = transposed-matrix G in
    matrix_ext (transposed-matrix S) (beside-matrix TF TG)
    (λ i j lt below. transposed-at S i j lt below ∙ ⊎_elim
    (λ left. stacked-low F G j i left lt ∙ sym (beside-left TF TG i j lt left ∙ transposed-at F i j lt left))
    (λ right. stacked-high F G j i right below lt ∙ sym (beside-right TF TG i j lt right below ∙ transposed-at G i (j - a) lt (omega arith)))
    (cases_lt j a))

pub transposed-beside : {p a b c : ℕ} {f g : Grid} → IsMatrixOf p a b f → IsMatrixOf p a c g → transposed_of (beside_of f g) ≡ stacked_of (transposed_of f) (transposed_of g)
transposed-beside {p} {a} {b} {c} {f} {g} F G =
    let S = beside-matrix F G in
    let TF = transposed-matrix F in
    let TG = transposed-matrix G in
    matrix_ext (transposed-matrix S) (stacked-matrix TF TG)
    (λ i j lt below. transposed-at S i j lt below ∙ ⊎_elim
    (λ low. beside-left F G j i below low ∙ sym (stacked-low TF TG i j low below ∙ transposed-at F i j low below))
    (λ high. beside-right F G j i below high lt ∙ sym (stacked-high TF TG i j high lt below ∙ transposed-at G (i - b) j (omega arith) below))
    (cases_lt i b))
