-- Direct sums by block forms: what goes in and comes out of each summand.
use Rattle.std.proofs.Common.{◌≡◌, ℕ, ◌+◌, ◌-◌, ◌*◌, ◌%◌, ◌<◌, ◌≤◌, sym, ap, ◌∙◌, arith, ⊎_elim}
use Rattle.std.proofs.lemmas.Bool.{cases_eq, cases_lt}
use Rattle.std.proofs.Math.Nat.{mod-eq_of_lt, one-mul, zero-mul, mul-one, mul-zero, zero-mod, add-zero, zero-add}
use Rattle.cap_matrix.specs.Grid.{Grid, IsMatrixOf, entry, total, product_of, sum_of, zero_of, unit_of, stacked_of, beside_of, block_of}
use Rattle.cap_matrix.specs.Summands.{first_in, second_in, first_out, second_out}
use Rattle.cap_matrix.proofs.Sums.{total-zeros, total-one}
use Rattle.cap_matrix.proofs.Entries.{matrix_ext, matrix_by-at, matrix_by-is, small-at, product-matrix, sum-matrix, zero-matrix, unit-matrix, product-at, sum-at, zero-at, unit-at, delta, delta-same, delta-other, delta-small}
use Rattle.cap_matrix.proofs.Blocks.{stacked-matrix, stacked-low, stacked-high, beside-matrix, beside-left, beside-right, block-matrix, block-at}

delta-shift : (a i j : ℕ) → delta (a + i) (a + j) ≡ delta i j
delta-shift a i j = ⊎_elim
    (λ e. ap (λ x. delta (a + i) (a + x)) (sym e) ∙ delta-same (a + i) ∙ sym (delta-same i) ∙ ap (λ x. delta i x) e)
    (λ ne. delta-other (a + i) (a + j) (λ e. ne (let s : i ≡ j = omega arith in s)) ∙ sym (delta-other i j ne))
    (cases_eq i j)

-- one row of a sum of products is picked, or none
pick : (n i : ℕ) (h g : ℕ → ℕ) → i < n → ((k : ℕ) → k < n → h k ≡ delta i k) → total n (λ k. h k * g k) ≡ g i
pick n i h g lt e =
    total-one n i (λ k. h k * g k) lt (λ k below ne. ap (λ s. s * g k) (e k below ∙ delta-other i k (λ x. ne (sym x))) ∙ zero-mul (g k))
    ∙ ap (λ s. s * g i) (e i lt ∙ delta-same i) ∙ one-mul (g i)

pick-right : (n j : ℕ) (h g : ℕ → ℕ) → j < n → ((k : ℕ) → k < n → h k ≡ delta k j) → total n (λ k. g k * h k) ≡ g j
pick-right n j h g lt e =
    total-one n j (λ k. g k * h k) lt (λ k below ne. ap (λ s. g k * s) (e k below ∙ delta-other k j ne) ∙ mul-zero (g k))
    ∙ ap (λ s. g j * s) (e j lt ∙ delta-same j) ∙ mul-one (g j)

zeros : (n : ℕ) (h g : ℕ → ℕ) → ((k : ℕ) → k < n → h k ≡ 0) → total n (λ k. h k * g k) ≡ 0
zeros n h g e = total-zeros n (λ k. h k * g k) (λ k lt. ap (λ s. s * g k) (e k lt) ∙ zero-mul (g k))

module _ (p a b : ℕ) (big : 2 ≤ p) where
  pub first_in-matrix : IsMatrixOf p a (a + b) (first_in p a b)
  first_in-matrix = matrix_by-is p a (a + b) (λ i j. delta i j) (λ i j lt below. delta-small p i j big)

  pub second_in-matrix : IsMatrixOf p b (a + b) (second_in p a b)
  second_in-matrix = matrix_by-is p b (a + b) (λ i j. delta (a + i) j) (λ i j lt below. delta-small p (a + i) j big)

  pub first_out-matrix : IsMatrixOf p (a + b) a (first_out p a b)
  first_out-matrix = matrix_by-is p (a + b) a (λ i j. delta i j) (λ i j lt below. delta-small p i j big)

  pub second_out-matrix : IsMatrixOf p (a + b) b (second_out p a b)
  second_out-matrix = matrix_by-is p (a + b) b (λ i j. delta i (a + j)) (λ i j lt below. delta-small p i (a + j) big)

  pub first_in-at : (i j : ℕ) → i < a → j < a + b → entry (first_in p a b).entries i j ≡ delta i j
  first_in-at i j lt below = matrix_by-at p a (a + b) (λ i j. delta i j) i j lt below

  pub second_in-at : (i j : ℕ) → i < b → j < a + b → entry (second_in p a b).entries i j ≡ delta (a + i) j
  second_in-at i j lt below = matrix_by-at p b (a + b) (λ i j. delta (a + i) j) i j lt below

  pub first_out-at : (i j : ℕ) → i < a + b → j < a → entry (first_out p a b).entries i j ≡ delta i j
  first_out-at i j lt below = matrix_by-at p (a + b) a (λ i j. delta i j) i j lt below

  pub second_out-at : (i j : ℕ) → i < a + b → j < b → entry (second_out p a b).entries i j ≡ delta i (a + j)
  second_out-at i j lt below = matrix_by-at p (a + b) b (λ i j. delta i (a + j)) i j lt below

  -- the row of g that an injection picks
  pub first_in-product-at : {c : ℕ} {g : Grid} → IsMatrixOf p (a + b) c g → (i j : ℕ) → i < a → j < c → entry (product_of (first_in p a b) g).entries i j ≡ entry g.entries i j % p
  first_in-product-at {c} {g} G i j lt below =
      product-at first_in-matrix G i j lt below
      ∙ ap (λ s. s % p) (pick (a + b) i (λ k. entry (first_in p a b).entries i k) (λ k. entry g.entries k j) (omega arith) (λ k inner. first_in-at i k lt inner))

  pub second_in-product-at : {c : ℕ} {g : Grid} → IsMatrixOf p (a + b) c g → (i j : ℕ) → i < b → j < c → entry (product_of (second_in p a b) g).entries i j ≡ entry g.entries (a + i) j % p
  second_in-product-at {c} {g} G i j lt below =
      product-at second_in-matrix G i j lt below
      ∙ ap (λ s. s % p) (pick (a + b) (a + i) (λ k. entry (second_in p a b).entries i k) (λ k. entry g.entries k j) (omega arith) (λ k inner. second_in-at i k lt inner))

  -- the rows of out·g, of the first summand and of the second
  pub first_out-product-low : {c : ℕ} {g : Grid} → IsMatrixOf p a c g → (i j : ℕ) → i < a → j < c → entry (product_of (first_out p a b) g).entries i j ≡ entry g.entries i j % p
  first_out-product-low {c} {g} G i j lt below =
      product-at first_out-matrix G i j (omega arith) below
      ∙ ap (λ s. s % p) (pick a i (λ k. entry (first_out p a b).entries i k) (λ k. entry g.entries k j) lt (λ k inner. first_out-at i k (omega arith) inner))

  pub first_out-product-high : {c : ℕ} {g : Grid} → IsMatrixOf p a c g → (i j : ℕ) → a ≤ i → i < a + b → j < c → entry (product_of (first_out p a b) g).entries i j ≡ 0
  first_out-product-high {c} {g} G i j ge lt below =
      product-at first_out-matrix G i j lt below
      ∙ ap (λ s. s % p) (zeros a (λ k. entry (first_out p a b).entries i k) (λ k. entry g.entries k j)
      (λ k inner. first_out-at i k lt inner ∙ delta-other i k (omega arith)))
      ∙ zero-mod p

  pub second_out-product-low : {c : ℕ} {g : Grid} → IsMatrixOf p b c g → (i j : ℕ) → i < a → j < c → entry (product_of (second_out p a b) g).entries i j ≡ 0
  second_out-product-low {c} {g} G i j lt below =
      product-at second_out-matrix G i j (omega arith) below
      ∙ ap (λ s. s % p) (zeros b (λ k. entry (second_out p a b).entries i k) (λ k. entry g.entries k j)
      (λ k inner. second_out-at i k (omega arith) inner ∙ delta-other i (a + k) (omega arith)))
      ∙ zero-mod p

  pub second_out-product-high : {c : ℕ} {g : Grid} → IsMatrixOf p b c g → (i j : ℕ) → i < b → j < c → entry (product_of (second_out p a b) g).entries (a + i) j ≡ entry g.entries i j % p
  second_out-product-high {c} {g} G i j lt below =
      product-at second_out-matrix G (a + i) j (omega arith) below
      ∙ ap (λ s. s % p) (pick b i (λ k. entry (second_out p a b).entries (a + i) k) (λ k. entry g.entries k j) lt
      (λ k inner. second_out-at (a + i) k (omega arith) inner ∙ delta-shift a i k))

  -- the columns of n·out
  pub product-first_out-at : {k : ℕ} {n : Grid} → IsMatrixOf p k (a + b) n → (i j : ℕ) → i < k → j < a → entry (product_of n (first_out p a b)).entries i j ≡ entry n.entries i j % p
  product-first_out-at {k} {n} N i j lt below =
      product-at N first_out-matrix i j lt below
      ∙ ap (λ s. s % p) (pick-right (a + b) j (λ l. entry (first_out p a b).entries l j) (λ l. entry n.entries i l) (omega arith) (λ l inner. first_out-at l j inner below))

  pub product-second_out-at : {k : ℕ} {n : Grid} → IsMatrixOf p k (a + b) n → (i j : ℕ) → i < k → j < b → entry (product_of n (second_out p a b)).entries i j ≡ entry n.entries i (a + j) % p
  product-second_out-at {k} {n} N i j lt below =
      product-at N second_out-matrix i j lt below
      ∙ ap (λ s. s % p) (pick-right (a + b) (a + j) (λ l. entry (second_out p a b).entries l j) (λ l. entry n.entries i l) (omega arith) (λ l inner. second_out-at l j inner below))

  one : 1 ≤ p
  one = omega arith

  small : (i j : ℕ) → delta i j % p ≡ delta i j
  small i j = mod-eq_of_lt (delta-small p i j big)

  pub first_in-first_out : product_of (first_in p a b) (first_out p a b) ≡ unit_of p a
  first_in-first_out =
      matrix_ext (product-matrix one first_in-matrix first_out-matrix) (unit-matrix p a big)
      (λ i j lt below. first_in-product-at first_out-matrix i j lt below ∙ ap (λ s. s % p) (first_out-at i j (omega arith) below) ∙ small i j ∙ sym (unit-at p a i j lt below))

  pub second_in-second_out : product_of (second_in p a b) (second_out p a b) ≡ unit_of p b
  second_in-second_out =
      matrix_ext (product-matrix one second_in-matrix second_out-matrix) (unit-matrix p b big)
      (λ i j lt below. second_in-product-at second_out-matrix i j lt below ∙ ap (λ s. s % p) (second_out-at (a + i) j (omega arith) below ∙ delta-shift a i j) ∙ small i j ∙ sym (unit-at p b i j lt below))

  pub first_in-second_out : product_of (first_in p a b) (second_out p a b) ≡ zero_of p a b
  first_in-second_out =
      matrix_ext (product-matrix one first_in-matrix second_out-matrix) (zero-matrix p a b one)
      (λ i j lt below. first_in-product-at second_out-matrix i j lt below ∙ ap (λ s. s % p) (second_out-at i j (omega arith) below ∙ delta-other i (a + j) (omega arith)) ∙ zero-mod p ∙ sym (zero-at p a b i j lt below))

  pub second_in-first_out : product_of (second_in p a b) (first_out p a b) ≡ zero_of p b a
  second_in-first_out =
      matrix_ext (product-matrix one second_in-matrix first_out-matrix) (zero-matrix p b a one)
      (λ i j lt below. second_in-product-at first_out-matrix i j lt below ∙ ap (λ s. s % p) (first_out-at (a + i) j (omega arith) below ∙ delta-other (a + i) j (omega arith)) ∙ zero-mod p ∙ sym (zero-at p b a i j lt below))

  -- out1·f + out2·g is f above g
  pub summands-stacked : {c : ℕ} {f g : Grid} → IsMatrixOf p a c f → IsMatrixOf p b c g
      → sum_of (product_of (first_out p a b) f) (product_of (second_out p a b) g) ≡ stacked_of f g
  summands-stacked {c} {f} {g} F G =
      let X = product-matrix one first_out-matrix F in
      let Y = product-matrix one second_out-matrix G in
      let S = stacked-matrix F G in
      let second = product_of (second_out p a b) g in
      matrix_ext (sum-matrix second one X) S
      (λ i j lt below. sum-at second X i j lt below ∙ ⊎_elim
      (λ low.
      ap (λ s. (s + entry second.entries i j) % p) (first_out-product-low F i j low below ∙ mod-eq_of_lt (small-at F i j low below))
      ∙ ap (λ s. (entry f.entries i j + s) % p) (second_out-product-low G i j low below)
      ∙ ap (λ s. s % p) (add-zero (entry f.entries i j)) ∙ mod-eq_of_lt (small-at F i j low below) ∙ sym (stacked-low F G i j low below))
      (λ high.
      let e : a + (i - a) ≡ i = omega arith in
      let inner : i - a < b = omega arith in
      ap (λ s. (s + entry second.entries i j) % p) (first_out-product-high F i j high lt below)
      ∙ ap (λ s. (0 + s) % p) (ap (λ x. entry second.entries x j) (sym e) ∙ second_out-product-high G (i - a) j inner below ∙ mod-eq_of_lt (small-at G (i - a) j inner below))
      ∙ ap (λ s. s % p) (zero-add (entry g.entries (i - a) j)) ∙ mod-eq_of_lt (small-at G (i - a) j inner below) ∙ sym (stacked-high F G i j high lt below))
      (cases_lt i a))

  pub summands-total : sum_of (product_of (first_out p a b) (first_in p a b)) (product_of (second_out p a b) (second_in p a b)) ≡ unit_of p (a + b)
  summands-total =
      let S = stacked-matrix first_in-matrix second_in-matrix in
      summands-stacked first_in-matrix second_in-matrix
      ∙ matrix_ext S (unit-matrix p (a + b) big)
      (λ i j lt below. ⊎_elim
      (λ low. stacked-low first_in-matrix second_in-matrix i j low below ∙ first_in-at i j low below ∙ sym (unit-at p (a + b) i j lt below))
      (λ high. stacked-high first_in-matrix second_in-matrix i j high lt below ∙ second_in-at (i - a) j (omega arith) below
      ∙ ap (λ x. delta x j) (let e : a + (i - a) ≡ i = omega arith in e) ∙ sym (unit-at p (a + b) i j lt below))
      (cases_lt i a))

  -- what goes in first picks the first rows, and what comes out last the first columns; likewise the second ones
  pub first_in-product : {c : ℕ} {g : Grid} → IsMatrixOf p (a + b) c g → product_of (first_in p a b) g ≡ block_of 0 0 a c g
  first_in-product {c} {g} G =
      matrix_ext (product-matrix one first_in-matrix G) (block-matrix 0 0 a c (omega arith) (omega arith) G)
      (λ i j lt below. first_in-product-at G i j lt below ∙ mod-eq_of_lt (small-at G i j (omega arith) below)
      ∙ sym (block-at 0 0 a c G i j lt below ∙ ap (λ x. entry g.entries x (0 + j)) (zero-add i) ∙ ap (λ x. entry g.entries i x) (zero-add j)))

  pub second_in-product : {c : ℕ} {g : Grid} → IsMatrixOf p (a + b) c g → product_of (second_in p a b) g ≡ block_of a 0 b c g
  second_in-product {c} {g} G =
      matrix_ext (product-matrix one second_in-matrix G) (block-matrix a 0 b c (omega arith) (omega arith) G)
      (λ i j lt below. second_in-product-at G i j lt below ∙ mod-eq_of_lt (small-at G (a + i) j (omega arith) below)
      ∙ sym (block-at a 0 b c G i j lt below ∙ ap (λ x. entry g.entries (a + i) x) (zero-add j)))

  pub product-first_out : {k : ℕ} {n : Grid} → IsMatrixOf p k (a + b) n → product_of n (first_out p a b) ≡ block_of 0 0 k a n
  product-first_out {k} {n} N =
      matrix_ext (product-matrix one N first_out-matrix) (block-matrix 0 0 k a (omega arith) (omega arith) N)
      (λ i j lt below. product-first_out-at N i j lt below ∙ mod-eq_of_lt (small-at N i j lt (omega arith))
      ∙ sym (block-at 0 0 k a N i j lt below ∙ ap (λ x. entry n.entries x (0 + j)) (zero-add i) ∙ ap (λ x. entry n.entries i x) (zero-add j)))

  pub product-second_out : {k : ℕ} {n : Grid} → IsMatrixOf p k (a + b) n → product_of n (second_out p a b) ≡ block_of 0 a k b n
  product-second_out {k} {n} N =
      matrix_ext (product-matrix one N second_out-matrix) (block-matrix 0 a k b (omega arith) (omega arith) N)
      (λ i j lt below. product-second_out-at N i j lt below ∙ mod-eq_of_lt (small-at N i (a + j) lt (omega arith))
      ∙ sym (block-at 0 a k b N i j lt below ∙ ap (λ x. entry n.entries x (a + j)) (zero-add i)))

  -- f·in1 + g·in2 is f left of g
  pub summands-beside : {c : ℕ} {f g : Grid} → IsMatrixOf p c a f → IsMatrixOf p c b g
      → sum_of (product_of f (first_in p a b)) (product_of g (second_in p a b)) ≡ beside_of f g
  summands-beside {c} {f} {g} F G =
      let X = product-matrix one F first_in-matrix in
      let Y = product-matrix one G second_in-matrix in
      let second = product_of g (second_in p a b) in
      matrix_ext (sum-matrix second one X) (beside-matrix F G)
      (λ i j lt below. sum-at second X i j lt below
      ∙ ap (λ s. (s + entry second.entries i j) % p) (product-at F first_in-matrix i j lt below)
      ∙ ap (λ s. (total a (λ k. entry f.entries i k * entry (first_in p a b).entries k j) % p + s) % p) (product-at G second_in-matrix i j lt below)
      ∙ ⊎_elim
      (λ left.
      ap (λ s. (s % p + total b (λ k. entry g.entries i k * entry (second_in p a b).entries k j) % p) % p)
      (pick-right a j (λ k. entry (first_in p a b).entries k j) (λ k. entry f.entries i k) left (λ k inner. first_in-at k j inner below))
      ∙ ap (λ s. (entry f.entries i j % p + s % p) % p)
      (total-zeros b (λ k. entry g.entries i k * entry (second_in p a b).entries k j)
      (λ k inner. ap (λ s. entry g.entries i k * s) (second_in-at k j inner below ∙ delta-other (a + k) j (omega arith)) ∙ mul-zero (entry g.entries i k)))
      ∙ ap (λ s. (s + 0 % p) % p) (mod-eq_of_lt (small-at F i j lt left))
      ∙ ap (λ s. (entry f.entries i j + s) % p) (zero-mod p)
      ∙ ap (λ s. s % p) (add-zero (entry f.entries i j)) ∙ mod-eq_of_lt (small-at F i j lt left) ∙ sym (beside-left F G i j lt left))
      (λ right.
      let e : a + (j - a) ≡ j = omega arith in
      let inner : j - a < b = omega arith in
      ap (λ s. (s % p + total b (λ k. entry g.entries i k * entry (second_in p a b).entries k j) % p) % p)
      (total-zeros a (λ k. entry f.entries i k * entry (first_in p a b).entries k j)
      (λ k inner. ap (λ s. entry f.entries i k * s) (first_in-at k j inner below ∙ delta-other k j (omega arith)) ∙ mul-zero (entry f.entries i k)))
      ∙ ap (λ s. (s + total b (λ k. entry g.entries i k * entry (second_in p a b).entries k j) % p) % p) (zero-mod p)
      ∙ ap (λ s. s % p) (zero-add (total b (λ k. entry g.entries i k * entry (second_in p a b).entries k j) % p))
      ∙ ap (λ s. s % p % p)
      (pick-right b (j - a) (λ k. entry (second_in p a b).entries k j) (λ k. entry g.entries i k) inner
      (λ k inner. second_in-at k j inner below ∙ ap (λ y. delta (a + k) y) (sym e) ∙ delta-shift a k (j - a)))
      ∙ ap (λ s. s % p) (mod-eq_of_lt (small-at G i (j - a) lt inner)) ∙ mod-eq_of_lt (small-at G i (j - a) lt inner)
      ∙ sym (beside-right F G i j lt right below))
      (cases_lt j a))
