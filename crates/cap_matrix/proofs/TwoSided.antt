-- Sums over a flat table, Kronecker products, and the product of three matrices as one row times a matrix.
use Rattle.std.proofs.Common.{◌≡◌, ℕ, zero, suc, ◌+◌, ◌*◌, ◌/◌, ◌%◌, ◌<◌, ◌≤◌, sym, ap, ◌∙◌, arith}
use Rattle.std.proofs.lemmas.Nat.{mul-mod_second, mul-mod, mod_below, div_below, div-mul-add, mod-mul-add}
use Rattle.std.proofs.Math.Nat.{mod-lt, mul_left_comm, mul_assoc, zero-mul}
use Rattle.cap_matrix.specs.Grid.{Grid, IsMatrixOf, entry, total, matrix_by, product_of, transposed_of, kron_of}
use Rattle.cap_matrix.specs.Flat.{flat_row}
use Rattle.cap_matrix.proofs.Sums.{total-same, total-scale, total-scale_right, total-mod, times_assoc}
use Rattle.cap_matrix.proofs.Writes.{some_below}
use Rattle.cap_matrix.proofs.Entries.{matrix_ext, matrix_by-at, matrix_by-is, matrix-same, same-at, small-at, product-matrix, product-at}
use Rattle.cap_matrix.proofs.Transpose.{transposed-matrix, transposed-at}
use Rattle.cap_matrix.proofs.Blocks.{total-append}

-- a sum over the places of a table is one over its rows and columns
pub total-flat : (n m : ℕ) (f : ℕ → ℕ → ℕ) → total (n * m) (λ k. f (k / m) (k % m)) ≡ total n (λ a. total m (λ b. f a b))
total-flat zero m f = ap (λ k. total k (λ k. f (k / m) (k % m))) (zero-mul m)
total-flat (suc n) m f =
    let e : suc n * m ≡ n * m + m = omega arith in
    ap (λ k. total k (λ k. f (k / m) (k % m))) e
    ∙ total-append (n * m) m (λ k. f (k / m) (k % m))
    ∙ ap (λ s. s + total m (λ i. f ((n * m + i) / m) ((n * m + i) % m))) (total-flat n m f)
    ∙ ap (λ s. total n (λ a. total m (λ b. f a b)) + s)
    (total-same m (λ i. f ((n * m + i) / m) ((n * m + i) % m)) (λ b. f n b)
    (λ i lt. ap (λ x. f x ((n * m + i) % m)) (div-mul-add n m i lt) ∙ ap (λ y. f n y) (mod-mul-add n m i lt)))

pub kron-is : {p a b c d : ℕ} {f g : Grid} → IsMatrixOf p a b f → IsMatrixOf p c d g
    → kron_of f g ≡ matrix_by p (a * c) (b * d) (λ i j. entry f.entries (i / c) (j / d) * entry g.entries (i % c) (j % d) % p)
kron-is {p} {a} {b} {c} {d} {f} {g} F G =
    ap (λ q. matrix_by q (f.row_count * g.row_count) (f.column_count * g.column_count) (λ i j. entry f.entries (i / g.row_count) (j / g.column_count) * entry g.entries (i % g.row_count) (j % g.column_count) % q)) F.is.prime
    ∙ ap (λ n. matrix_by p (n * g.row_count) (f.column_count * g.column_count) (λ i j. entry f.entries (i / g.row_count) (j / g.column_count) * entry g.entries (i % g.row_count) (j % g.column_count) % p)) F.from
    ∙ ap (λ n. matrix_by p (a * n) (f.column_count * g.column_count) (λ i j. entry f.entries (i / n) (j / g.column_count) * entry g.entries (i % n) (j % g.column_count) % p)) G.from
    ∙ ap (λ n. matrix_by p (a * c) (n * g.column_count) (λ i j. entry f.entries (i / c) (j / g.column_count) * entry g.entries (i % c) (j % g.column_count) % p)) F.to
    ∙ ap (λ n. matrix_by p (a * c) (b * n) (λ i j. entry f.entries (i / c) (j / n) * entry g.entries (i % c) (j % n) % p)) G.to

pub kron-matrix : {p a b c d : ℕ} {f g : Grid} → 1 ≤ p → IsMatrixOf p a b f → IsMatrixOf p c d g → IsMatrixOf p (a * c) (b * d) (kron_of f g)
kron-matrix {p} {a} {b} {c} {d} {f} {g} pos F G =
    matrix-same (kron-is F G) (matrix_by-is p (a * c) (b * d) (λ i j. entry f.entries (i / c) (j / d) * entry g.entries (i % c) (j % d) % p)
    (λ i j lt below. mod-lt (entry f.entries (i / c) (j / d) * entry g.entries (i % c) (j % d)) pos))

pub kron-at : {p a b c d : ℕ} {f g : Grid} → IsMatrixOf p a b f → IsMatrixOf p c d g → (i j : ℕ) → i < a * c → j < b * d
    → entry (kron_of f g).entries i j ≡ entry f.entries (i / c) (j / d) * entry g.entries (i % c) (j % d) % p
kron-at {p} {a} {b} {c} {d} {f} {g} F G i j lt below =
    same-at (kron-is F G) i j ∙ matrix_by-at p (a * c) (b * d) (λ i j. entry f.entries (i / c) (j / d) * entry g.entries (i % c) (j % d) % p) i j lt below

-- entry (i, j) of l·x·r is a sum over the places of x
pub three-product-at : {p m a b n : ℕ} {l x r : Grid} → 1 ≤ p → IsMatrixOf p m a l → IsMatrixOf p a b x → IsMatrixOf p b n r → (i j : ℕ) → i < m → j < n
    → entry (product_of (product_of l x) r).entries i j
    ≡ total (a * b) (λ k. entry x.entries (k / b) (k % b) * (entry l.entries i (k / b) * entry r.entries (k % b) j)) % p
three-product-at {p} {m} {a} {b} {n} {l} {x} {r} pos L X R i j lt below =
    let e = λ (g : Grid) (u v : ℕ). entry g.entries u v in
    product-at (product-matrix pos L X) R i j lt below
    ∙ ap (λ s. s % p) (total-same b (λ c. e (product_of l x) i c * e r c j) (λ c. (total a (λ d. e l i d * e x d c) % p) * e r c j)
    (λ c inner. ap (λ s. s * e r c j) (product-at L X i c lt inner)))
    ∙ times_assoc p a b (λ d. e l i d) (λ d c. e x d c) (λ c k. e r c k) j
    ∙ total-mod p a (λ d. e l i d * (total b (λ c. e x d c * e r c j) % p)) (λ d. total b (λ c. e x d c * (e l i d * e r c j)))
    (λ d inner. mul-mod_second (e l i d) (total b (λ c. e x d c * e r c j)) p
    ∙ ap (λ s. s % p) (sym (total-scale b (e l i d) (λ c. e x d c * e r c j))
    ∙ total-same b (λ c. e l i d * (e x d c * e r c j)) (λ c. e x d c * (e l i d * e r c j)) (λ c lc. mul_left_comm (e l i d) (e x d c) (e r c j))))
    ∙ ap (λ s. s % p) (sym (total-flat a b (λ d c. e x d c * (e l i d * e r c j))))

pub flat_row-is : {p a b : ℕ} {x : Grid} → IsMatrixOf p a b x → flat_row x ≡ matrix_by p 1 (a * b) (λ i k. entry x.entries (k / b) (k % b))
flat_row-is {p} {a} {b} {x} X =
    ap (λ q. matrix_by q 1 (x.row_count * x.column_count) (λ i k. entry x.entries (k / x.column_count) (k % x.column_count))) X.is.prime
    ∙ ap (λ n. matrix_by p 1 (n * x.column_count) (λ i k. entry x.entries (k / x.column_count) (k % x.column_count))) X.from
    ∙ ap (λ n. matrix_by p 1 (a * n) (λ i k. entry x.entries (k / n) (k % n))) X.to

pub flat_row-matrix : {p a b : ℕ} {x : Grid} → IsMatrixOf p a b x → IsMatrixOf p 1 (a * b) (flat_row x)
flat_row-matrix {p} {a} {b} {x} X =
    matrix-same (flat_row-is X) (matrix_by-is p 1 (a * b) (λ i k. entry x.entries (k / b) (k % b))
    (λ i k lt below. let some = some_below k a b below in small-at X (k / b) (k % b) (div_below k b a some below) (mod_below k b some)))

pub flat_row-at : {p a b : ℕ} {x : Grid} → IsMatrixOf p a b x → (i k : ℕ) → i < 1 → k < a * b → entry (flat_row x).entries i k ≡ entry x.entries (k / b) (k % b)
flat_row-at {p} {a} {b} {x} X i k lt below = same-at (flat_row-is X) i k ∙ matrix_by-at p 1 (a * b) (λ i k. entry x.entries (k / b) (k % b)) i k lt below

-- the row of l·x·r is the row of x times the Kronecker product of l, transposed, and r
pub flat_row-product : {p m a b n : ℕ} {l x r : Grid} → 1 ≤ p → IsMatrixOf p m a l → IsMatrixOf p a b x → IsMatrixOf p b n r
    → flat_row (product_of (product_of l x) r) ≡ product_of (flat_row x) (kron_of (transposed_of l) r)
flat_row-product {p} {m} {a} {b} {n} {l} {x} {r} pos L X R =
    let TL = transposed-matrix L in
    let K = kron-matrix pos TL R in
    let FX = flat_row-matrix X in
    let LXR = product-matrix pos (product-matrix pos L X) R in
    matrix_ext (flat_row-matrix LXR) (product-matrix pos FX K)
    (λ i q lt below.
    let some = some_below q m n below in
    let row = div_below q n m some below in
    let column = mod_below q n some in
    let terms = λ (k : ℕ). entry x.entries (k / b) (k % b) * (entry l.entries (q / n) (k / b) * entry r.entries (k % b) (q % n)) in
    let wanted = λ (k : ℕ). entry (flat_row x).entries i k * entry (kron_of (transposed_of l) r).entries k q in
    flat_row-at LXR i q lt below
    ∙ three-product-at pos L X R (q / n) (q % n) row column
    ∙ total-mod p (a * b) terms wanted
    (λ k inner.
    let inside = some_below k a b inner in
    let high = div_below k b a inside inner in
    let low = mod_below k b inside in
    let u = entry x.entries (k / b) (k % b) in
    let v = entry l.entries (q / n) (k / b) * entry r.entries (k % b) (q % n) in
    sym (mul-mod_second u v p)
    ∙ ap (λ s. u * s % p) (ap (λ s. s * entry r.entries (k % b) (q % n) % p) (sym (transposed-at L (k / b) (q / n) high row)) ∙ sym (kron-at TL R k q inner below))
    ∙ ap (λ s. s * entry (kron_of (transposed_of l) r).entries k q % p) (sym (flat_row-at X i k lt inner)))
    ∙ sym (product-at FX K i q lt below))

-- (f ⊗ g)·(h ⊗ k) is (f·h) ⊗ (g·k)
pub kron-product : {p a b c d m n : ℕ} {f g h k : Grid} → 1 ≤ p → IsMatrixOf p a b f → IsMatrixOf p c d g → IsMatrixOf p b m h → IsMatrixOf p d n k
    → product_of (kron_of f g) (kron_of h k) ≡ kron_of (product_of f h) (product_of g k)
kron-product {p} {a} {b} {c} {d} {m} {n} {f} {g} {h} {k} pos F G H K =
    let FG = kron-matrix pos F G in
    let HK = kron-matrix pos H K in
    let FH = product-matrix pos F H in
    let GK = product-matrix pos G K in
    matrix_ext (product-matrix pos FG HK) (kron-matrix pos FH GK)
    (λ i j lt below.
    let rows = some_below i a c lt in
    let columns = some_below j m n below in
    let i1 = div_below i c a rows lt in
    let i2 = mod_below i c rows in
    let j1 = div_below j n m columns below in
    let j2 = mod_below j n columns in
    let u = λ (s : ℕ). entry f.entries (i / c) s * entry h.entries s (j / n) in
    let v = λ (t : ℕ). entry g.entries (i % c) t * entry k.entries t (j % n) in
    let terms = λ (q : ℕ). entry (kron_of f g).entries i q * entry (kron_of h k).entries q j in
    product-at FG HK i j lt below
    ∙ total-mod p (b * d) terms (λ q. u (q / d) * v (q % d))
    (λ q inner.
    ap (λ s. s * entry (kron_of h k).entries q j % p) (kron-at F G i q lt inner)
    ∙ ap (λ s. (entry f.entries (i / c) (q / d) * entry g.entries (i % c) (q % d) % p) * s % p) (kron-at H K q j inner below)
    ∙ sym (mul-mod (entry f.entries (i / c) (q / d) * entry g.entries (i % c) (q % d)) (entry h.entries (q / d) (j / n) * entry k.entries (q % d) (j % n)) p)
    ∙ ap (λ s. s % p) (middle (entry f.entries (i / c) (q / d)) (entry g.entries (i % c) (q % d)) (entry h.entries (q / d) (j / n)) (entry k.entries (q % d) (j % n))))
    ∙ ap (λ s. s % p) (total-flat b d (λ s t. u s * v t)
    ∙ total-same b (λ s. total d (λ t. u s * v t)) (λ s. u s * total d v) (λ s inner. total-scale d (u s) v)
    ∙ total-scale_right b (total d v) u)
    ∙ mul-mod (total b u) (total d v) p
    ∙ ap (λ s. s * (total d v % p) % p) (sym (product-at F H (i / c) (j / n) i1 j1))
    ∙ ap (λ s. entry (product_of f h).entries (i / c) (j / n) * s % p) (sym (product-at G K (i % c) (j % n) i2 j2))
    ∙ sym (kron-at FH GK i j lt below)) where
      middle : (x y z w : ℕ) → x * y * (z * w) ≡ x * z * (y * w)
      middle x y z w = mul_assoc x y (z * w) ∙ ap (λ s. x * s) (mul_left_comm y z w) ∙ sym (mul_assoc x z (y * w))

-- the transpose of a Kronecker product
pub transposed-kron : {p a b c d : ℕ} {f g : Grid} → 1 ≤ p → IsMatrixOf p a b f → IsMatrixOf p c d g
    → transposed_of (kron_of f g) ≡ kron_of (transposed_of f) (transposed_of g)
transposed-kron {p} {a} {b} {c} {d} {f} {g} pos F G =
    let FG = kron-matrix pos F G in
    let TF = transposed-matrix F in
    let TG = transposed-matrix G in
    matrix_ext (transposed-matrix FG) (kron-matrix pos TF TG)
    (λ i j lt below.
    let rows = some_below i b d lt in
    let columns = some_below j a c below in
    transposed-at FG i j lt below ∙ kron-at F G j i below lt
    ∙ ap (λ s. s * entry g.entries (j % c) (i % d) % p) (sym (transposed-at F (i / d) (j / c) (div_below i d b rows lt) (div_below j c a columns below)))
    ∙ ap (λ s. entry (transposed_of f).entries (i / d) (j / c) * s % p) (sym (transposed-at G (i % d) (j % c) (mod_below i d rows) (mod_below j c columns)))
    ∙ sym (kron-at TF TG i j lt below))
