-- The laws of sums, multiples and products of matrices.
use Rattle.std.proofs.Common.{◌≡◌, ℕ, ◌+◌, ◌-◌, ◌*◌, ◌%◌, ◌≤◌, sym, ap, ◌∙◌, arith, add_assoc, add_comm}
use Rattle.std.proofs.lemmas.Nat.{mul-mod_first, mul-mod_second}
use Rattle.std.proofs.Math.Nat.{zero-mod, add-mod, add-mod-mod, mod-add-mod, mul-mod_right, mod-eq_of_lt, mul_assoc, mul_left_comm, mul-one, one-mul, mul-zero, zero-mul, mul-add, add-mul}
use Rattle.cap_matrix.specs.Grid.{Grid, IsMatrixOf, entry, total, product_of, zero_of, unit_of, sum_of, scaled_of}
use Rattle.cap_matrix.proofs.Sums.{total-same, total-plus, total-scale, total-mod, total-zeros, total-one, times_assoc}
use Rattle.cap_matrix.proofs.Entries.{matrix_ext, small-at, product-matrix, sum-matrix, scaled-matrix, zero-matrix, unit-matrix, product-at, sum-at, scaled-at, zero-at, unit-at, delta-same, delta-other}

-- laws of residues and of sums of products
module _ (p : ℕ) where
  residue_sum-assoc : (x y z : ℕ) → ((x + y) % p + z) % p ≡ (x + (y + z) % p) % p
  residue_sum-assoc x y z = mod-add-mod (x + y) p z ∙ ap (λ n. n % p) (add_assoc x y z) ∙ sym (add-mod-mod x (y + z) p)

  residue_sum-scaled : (m n x : ℕ) → (m + n) * x % p ≡ (m * x % p + n * x % p) % p
  residue_sum-scaled m n x = ap (λ k. k % p) (add-mul m n x) ∙ add-mod (m * x) (n * x) p

  residue_product-scaled : (m n x : ℕ) → m * n * x % p ≡ m * (n * x % p) % p
  residue_product-scaled m n x = ap (λ k. k % p) (mul_assoc m n x) ∙ sym (mul-mod_second m (n * x) p)

  residue_scaled-sum : (x y z : ℕ) → x * ((y + z) % p) % p ≡ (x * y % p + x * z % p) % p
  residue_scaled-sum x y z = mul-mod_second x (y + z) p ∙ ap (λ k. k % p) (mul-add x y z) ∙ add-mod (x * y) (x * z) p

  totals_left : (n : ℕ) (x y z : ℕ → ℕ) → total n (λ k. x k * ((y k + z k) % p)) % p ≡ (total n (λ k. x k * y k) % p + total n (λ k. x k * z k) % p) % p
  totals_left n x y z =
      total-mod p n (λ k. x k * ((y k + z k) % p)) (λ k. x k * y k + x k * z k) (λ k lt. mul-mod_second (x k) (y k + z k) p ∙ ap (λ s. s % p) (mul-add (x k) (y k) (z k)))
      ∙ ap (λ s. s % p) (total-plus n (λ k. x k * y k) (λ k. x k * z k))
      ∙ add-mod (total n (λ k. x k * y k)) (total n (λ k. x k * z k)) p

  totals_right : (n : ℕ) (x y z : ℕ → ℕ) → total n (λ k. ((x k + y k) % p) * z k) % p ≡ (total n (λ k. x k * z k) % p + total n (λ k. y k * z k) % p) % p
  totals_right n x y z =
      total-mod p n (λ k. ((x k + y k) % p) * z k) (λ k. x k * z k + y k * z k) (λ k lt. mul-mod_first (x k + y k) (z k) p ∙ ap (λ s. s % p) (add-mul (x k) (y k) (z k)))
      ∙ ap (λ s. s % p) (total-plus n (λ k. x k * z k) (λ k. y k * z k))
      ∙ add-mod (total n (λ k. x k * z k)) (total n (λ k. y k * z k)) p

  totals_scaled_left : (n c : ℕ) (x y : ℕ → ℕ) → total n (λ k. x k * (c * y k % p)) % p ≡ c * (total n (λ k. x k * y k) % p) % p
  totals_scaled_left n c x y =
      total-mod p n (λ k. x k * (c * y k % p)) (λ k. c * (x k * y k)) (λ k lt. mul-mod_second (x k) (c * y k) p ∙ ap (λ s. s % p) (mul_left_comm (x k) c (y k)))
      ∙ ap (λ s. s % p) (total-scale n c (λ k. x k * y k))
      ∙ sym (mul-mod_second c (total n (λ k. x k * y k)) p)

  totals_scaled_right : (n c : ℕ) (x y : ℕ → ℕ) → total n (λ k. (c * x k % p) * y k) % p ≡ c * (total n (λ k. x k * y k) % p) % p
  totals_scaled_right n c x y =
      total-mod p n (λ k. (c * x k % p) * y k) (λ k. c * (x k * y k)) (λ k lt. mul-mod_first (c * x k) (y k) p ∙ ap (λ s. s % p) (mul_assoc c (x k) (y k)))
      ∙ ap (λ s. s % p) (total-scale n c (λ k. x k * y k))
      ∙ sym (mul-mod_second c (total n (λ k. x k * y k)) p)

-- laws of matrices; only the unit wants 2 ≤ p
module _ {p : ℕ} (pos : 1 ≤ p) where
  pub product-assoc : {a b c d : ℕ} {f g h : Grid} → IsMatrixOf p a b f → IsMatrixOf p b c g → IsMatrixOf p c d h
      → product_of (product_of f g) h ≡ product_of f (product_of g h)
  product-assoc {a} {b} {c} {d} {f} {g} {h} F G H =
      let FG = product-matrix pos F G in
      let GH = product-matrix pos G H in
      matrix_ext (product-matrix pos FG H) (product-matrix pos F GH)
      (λ i j lt below.
      product-at FG H i j lt below
      ∙ ap (λ s. s % p) (total-same c (λ k. entry (product_of f g).entries i k * entry h.entries k j) (λ k. (total b (λ l. entry f.entries i l * entry g.entries l k) % p) * entry h.entries k j)
      (λ k inner. ap (λ s. s * entry h.entries k j) (product-at F G i k lt inner)))
      ∙ times_assoc p b c (λ l. entry f.entries i l) (λ l k. entry g.entries l k) (λ k q. entry h.entries k q) j
      ∙ ap (λ s. s % p) (total-same b (λ l. entry f.entries i l * (total c (λ k. entry g.entries l k * entry h.entries k j) % p)) (λ l. entry f.entries i l * entry (product_of g h).entries l j)
      (λ l inner. ap (λ s. entry f.entries i l * s) (sym (product-at G H l j inner below))))
      ∙ sym (product-at F GH i j lt below))

  pub sum-assoc : {a b : ℕ} {f g : Grid} (h : Grid) → IsMatrixOf p a b f → IsMatrixOf p a b g
      → sum_of (sum_of f g) h ≡ sum_of f (sum_of g h)
  sum-assoc {a} {b} {f} {g} h F G =
      let FG = sum-matrix g pos F in
      matrix_ext (sum-matrix h pos FG) (sum-matrix (sum_of g h) pos F)
      (λ i j lt below. sum-at h FG i j lt below ∙ ap (λ s. (s + entry h.entries i j) % p) (sum-at g F i j lt below)
      ∙ residue_sum-assoc p (entry f.entries i j) (entry g.entries i j) (entry h.entries i j)
      ∙ ap (λ s. (entry f.entries i j + s) % p) (sym (sum-at h G i j lt below)) ∙ sym (sum-at (sum_of g h) F i j lt below))

  pub sum-comm : {a b : ℕ} {f g : Grid} → IsMatrixOf p a b f → IsMatrixOf p a b g → sum_of f g ≡ sum_of g f
  sum-comm {a} {b} {f} {g} F G =
      matrix_ext (sum-matrix g pos F) (sum-matrix f pos G)
      (λ i j lt below. sum-at g F i j lt below ∙ ap (λ s. s % p) (add_comm (entry f.entries i j) (entry g.entries i j)) ∙ sym (sum-at f G i j lt below))

  pub sum-zero : {a b : ℕ} {f : Grid} → IsMatrixOf p a b f → sum_of f (zero_of p a b) ≡ f
  sum-zero {a} {b} {f} F =
      matrix_ext (sum-matrix (zero_of p a b) pos F) F
      (λ i j lt below. sum-at (zero_of p a b) F i j lt below ∙ ap (λ s. (entry f.entries i j + s) % p) (zero-at p a b i j lt below)
      ∙ ap (λ s. s % p) (let e : entry f.entries i j + 0 ≡ entry f.entries i j = omega arith in e) ∙ mod-eq_of_lt (small-at F i j lt below))

  pub scaled-one : {a b : ℕ} {f : Grid} → IsMatrixOf p a b f → scaled_of 1 f ≡ f
  scaled-one {a} {b} {f} F =
      matrix_ext (scaled-matrix 1 pos F) F
      (λ i j lt below. scaled-at 1 F i j lt below ∙ ap (λ s. s % p) (one-mul (entry f.entries i j)) ∙ mod-eq_of_lt (small-at F i j lt below))

  pub scaled-prime : {a b : ℕ} {f : Grid} → IsMatrixOf p a b f → scaled_of p f ≡ zero_of p a b
  scaled-prime {a} {b} {f} F =
      matrix_ext (scaled-matrix p pos F) (zero-matrix p a b pos)
      (λ i j lt below. scaled-at p F i j lt below ∙ mul-mod_right p (entry f.entries i j) ∙ sym (zero-at p a b i j lt below))

  pub scaled-add : {a b : ℕ} {f : Grid} (m n : ℕ) → IsMatrixOf p a b f → scaled_of (m + n) f ≡ sum_of (scaled_of m f) (scaled_of n f)
  scaled-add {a} {b} {f} m n F =
      let M = scaled-matrix m pos F in
      matrix_ext (scaled-matrix (m + n) pos F) (sum-matrix (scaled_of n f) pos M)
      (λ i j lt below. scaled-at (m + n) F i j lt below ∙ residue_sum-scaled p m n (entry f.entries i j)
      ∙ ap (λ s. (s + n * entry f.entries i j % p) % p) (sym (scaled-at m F i j lt below))
      ∙ ap (λ s. (entry (scaled_of m f).entries i j + s) % p) (sym (scaled-at n F i j lt below)) ∙ sym (sum-at (scaled_of n f) M i j lt below))

  pub scaled-scaled : {a b : ℕ} {f : Grid} (m n : ℕ) → IsMatrixOf p a b f → scaled_of (m * n) f ≡ scaled_of m (scaled_of n f)
  scaled-scaled {a} {b} {f} m n F =
      let N = scaled-matrix n pos F in
      matrix_ext (scaled-matrix (m * n) pos F) (scaled-matrix m pos N)
      (λ i j lt below. scaled-at (m * n) F i j lt below ∙ residue_product-scaled p m n (entry f.entries i j)
      ∙ ap (λ s. m * s % p) (sym (scaled-at n F i j lt below)) ∙ sym (scaled-at m N i j lt below))

  pub scaled-sum : {a b : ℕ} {f g : Grid} (n : ℕ) → IsMatrixOf p a b f → IsMatrixOf p a b g → scaled_of n (sum_of f g) ≡ sum_of (scaled_of n f) (scaled_of n g)
  scaled-sum {a} {b} {f} {g} n F G =
      let FG = sum-matrix g pos F in
      let N = scaled-matrix n pos F in
      matrix_ext (scaled-matrix n pos FG) (sum-matrix (scaled_of n g) pos N)
      (λ i j lt below. scaled-at n FG i j lt below ∙ ap (λ s. n * s % p) (sum-at g F i j lt below) ∙ residue_scaled-sum p n (entry f.entries i j) (entry g.entries i j)
      ∙ ap (λ s. (s + n * entry g.entries i j % p) % p) (sym (scaled-at n F i j lt below))
      ∙ ap (λ s. (entry (scaled_of n f).entries i j + s) % p) (sym (scaled-at n G i j lt below)) ∙ sym (sum-at (scaled_of n g) N i j lt below))

  pub product-sum : {a b c : ℕ} {f g h : Grid} → IsMatrixOf p a b f → IsMatrixOf p b c g → IsMatrixOf p b c h
      → product_of f (sum_of g h) ≡ sum_of (product_of f g) (product_of f h)
  product-sum {a} {b} {c} {f} {g} {h} F G H =
      let GH = sum-matrix h pos G in
      let FG = product-matrix pos F G in
      matrix_ext (product-matrix pos F GH) (sum-matrix (product_of f h) pos FG)
      (λ i j lt below. product-at F GH i j lt below
      ∙ ap (λ s. s % p) (total-same b (λ k. entry f.entries i k * entry (sum_of g h).entries k j) (λ k. entry f.entries i k * ((entry g.entries k j + entry h.entries k j) % p))
      (λ k inner. ap (λ s. entry f.entries i k * s) (sum-at h G k j inner below)))
      ∙ totals_left p b (λ k. entry f.entries i k) (λ k. entry g.entries k j) (λ k. entry h.entries k j)
      ∙ ap (λ s. (s + total b (λ k. entry f.entries i k * entry h.entries k j) % p) % p) (sym (product-at F G i j lt below))
      ∙ ap (λ s. (entry (product_of f g).entries i j + s) % p) (sym (product-at F H i j lt below)) ∙ sym (sum-at (product_of f h) FG i j lt below))

  pub sum-product : {a b c : ℕ} {f g h : Grid} → IsMatrixOf p a b f → IsMatrixOf p a b g → IsMatrixOf p b c h
      → product_of (sum_of f g) h ≡ sum_of (product_of f h) (product_of g h)
  sum-product {a} {b} {c} {f} {g} {h} F G H =
      let FG = sum-matrix g pos F in
      let FH = product-matrix pos F H in
      matrix_ext (product-matrix pos FG H) (sum-matrix (product_of g h) pos FH)
      (λ i j lt below. product-at FG H i j lt below
      ∙ ap (λ s. s % p) (total-same b (λ k. entry (sum_of f g).entries i k * entry h.entries k j) (λ k. ((entry f.entries i k + entry g.entries i k) % p) * entry h.entries k j)
      (λ k inner. ap (λ s. s * entry h.entries k j) (sum-at g F i k lt inner)))
      ∙ totals_right p b (λ k. entry f.entries i k) (λ k. entry g.entries i k) (λ k. entry h.entries k j)
      ∙ ap (λ s. (s + total b (λ k. entry g.entries i k * entry h.entries k j) % p) % p) (sym (product-at F H i j lt below))
      ∙ ap (λ s. (entry (product_of f h).entries i j + s) % p) (sym (product-at G H i j lt below)) ∙ sym (sum-at (product_of g h) FH i j lt below))

  pub product-scaled : {a b c : ℕ} {f g : Grid} (n : ℕ) → IsMatrixOf p a b f → IsMatrixOf p b c g → product_of f (scaled_of n g) ≡ scaled_of n (product_of f g)
  product-scaled {a} {b} {c} {f} {g} n F G =
      let N = scaled-matrix n pos G in
      let FG = product-matrix pos F G in
      matrix_ext (product-matrix pos F N) (scaled-matrix n pos FG)
      (λ i j lt below. product-at F N i j lt below
      ∙ ap (λ s. s % p) (total-same b (λ k. entry f.entries i k * entry (scaled_of n g).entries k j) (λ k. entry f.entries i k * (n * entry g.entries k j % p))
      (λ k inner. ap (λ s. entry f.entries i k * s) (scaled-at n G k j inner below)))
      ∙ totals_scaled_left p b n (λ k. entry f.entries i k) (λ k. entry g.entries k j)
      ∙ ap (λ s. n * s % p) (sym (product-at F G i j lt below)) ∙ sym (scaled-at n FG i j lt below))

  pub scaled-product : {a b c : ℕ} {f g : Grid} (n : ℕ) → IsMatrixOf p a b f → IsMatrixOf p b c g → product_of (scaled_of n f) g ≡ scaled_of n (product_of f g)
  scaled-product {a} {b} {c} {f} {g} n F G =
      let N = scaled-matrix n pos F in
      let FG = product-matrix pos F G in
      matrix_ext (product-matrix pos N G) (scaled-matrix n pos FG)
      (λ i j lt below. product-at N G i j lt below
      ∙ ap (λ s. s % p) (total-same b (λ k. entry (scaled_of n f).entries i k * entry g.entries k j) (λ k. (n * entry f.entries i k % p) * entry g.entries k j)
      (λ k inner. ap (λ s. s * entry g.entries k j) (scaled-at n F i k lt inner)))
      ∙ totals_scaled_right p b n (λ k. entry f.entries i k) (λ k. entry g.entries k j)
      ∙ ap (λ s. n * s % p) (sym (product-at F G i j lt below)) ∙ sym (scaled-at n FG i j lt below))

pub unit-product : {p a b : ℕ} {f : Grid} → 2 ≤ p → IsMatrixOf p a b f → product_of (unit_of p a) f ≡ f
unit-product {p} {a} {b} {f} big F =
    let U = unit-matrix p a big in
    matrix_ext (product-matrix (omega arith) U F) F
    (λ i j lt below. product-at U F i j lt below
    ∙ ap (λ s. s % p) (total-one a i (λ k. entry (unit_of p a).entries i k * entry f.entries k j) lt
    (λ k inner ne. ap (λ s. s * entry f.entries k j) (unit-at p a i k lt inner ∙ delta-other i k (λ e. ne (sym e))) ∙ zero-mul (entry f.entries k j))
    ∙ ap (λ s. s * entry f.entries i j) (unit-at p a i i lt lt ∙ delta-same i) ∙ one-mul (entry f.entries i j))
    ∙ mod-eq_of_lt (small-at F i j lt below))

pub product-unit : {p a b : ℕ} {f : Grid} → 2 ≤ p → IsMatrixOf p a b f → product_of f (unit_of p b) ≡ f
product-unit {p} {a} {b} {f} big F =
    let U = unit-matrix p b big in
    matrix_ext (product-matrix (omega arith) F U) F
    (λ i j lt below. product-at F U i j lt below
    ∙ ap (λ s. s % p) (total-one b j (λ k. entry f.entries i k * entry (unit_of p b).entries k j) below
    (λ k inner ne. ap (λ s. entry f.entries i k * s) (unit-at p b k j inner below ∙ delta-other k j ne) ∙ mul-zero (entry f.entries i k))
    ∙ ap (λ s. entry f.entries i j * s) (unit-at p b j j below below ∙ delta-same j) ∙ mul-one (entry f.entries i j))
    ∙ mod-eq_of_lt (small-at F i j lt below))

-- zeros, and what adds up to zero
module _ {p : ℕ} (pos : 1 ≤ p) where
  pub zero-product : {b c : ℕ} {g : Grid} (a : ℕ) → IsMatrixOf p b c g → product_of (zero_of p a b) g ≡ zero_of p a c
  zero-product {b} {c} {g} a G =
      let Z = zero-matrix p a b pos in
      matrix_ext (product-matrix pos Z G) (zero-matrix p a c pos)
      (λ i j lt below. product-at Z G i j lt below
      ∙ ap (λ s. s % p) (total-zeros b (λ k. entry (zero_of p a b).entries i k * entry g.entries k j)
      (λ k inner. ap (λ s. s * entry g.entries k j) (zero-at p a b i k lt inner) ∙ zero-mul (entry g.entries k j)))
      ∙ zero-mod p ∙ sym (zero-at p a c i j lt below))

  pub product-zero : {a b : ℕ} {f : Grid} (c : ℕ) → IsMatrixOf p a b f → product_of f (zero_of p b c) ≡ zero_of p a c
  product-zero {a} {b} {f} c F =
      let Z = zero-matrix p b c pos in
      matrix_ext (product-matrix pos F Z) (zero-matrix p a c pos)
      (λ i j lt below. product-at F Z i j lt below
      ∙ ap (λ s. s % p) (total-zeros b (λ k. entry f.entries i k * entry (zero_of p b c).entries k j)
      (λ k inner. ap (λ s. entry f.entries i k * s) (zero-at p b c k j inner below) ∙ mul-zero (entry f.entries i k)))
      ∙ zero-mod p ∙ sym (zero-at p a c i j lt below))

  pub zero-sum : {a b : ℕ} {f : Grid} → IsMatrixOf p a b f → sum_of (zero_of p a b) f ≡ f
  zero-sum {a} {b} F = sum-comm pos (zero-matrix p a b pos) F ∙ sum-zero pos F

  -- f + (p - 1)·f = 0
  pub sum-negative : {a b : ℕ} {f : Grid} → IsMatrixOf p a b f → sum_of f (scaled_of (p - 1) f) ≡ zero_of p a b
  sum-negative {f = f} F =
      let whole : 1 + (p - 1) ≡ p = omega arith in
      ap (λ x. sum_of x (scaled_of (p - 1) f)) (sym (scaled-one pos F)) ∙ sym (scaled-add pos 1 (p - 1) F) ∙ ap (λ n. scaled_of n f) whole ∙ scaled-prime pos F

  pub scaled-zero : (n a b : ℕ) → scaled_of n (zero_of p a b) ≡ zero_of p a b
  scaled-zero n a b =
      let Z = zero-matrix p a b pos in
      matrix_ext (scaled-matrix n pos Z) Z
      (λ i j lt below. scaled-at n Z i j lt below ∙ ap (λ s. n * s % p) (zero-at p a b i j lt below) ∙ ap (λ s. s % p) (mul-zero n) ∙ zero-mod p ∙ sym (zero-at p a b i j lt below))
