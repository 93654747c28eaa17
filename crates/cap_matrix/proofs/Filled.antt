-- From a buffer that a formula filled to the matrix of that formula.
use Rattle.std.proofs.Common.{◌≡◌, ℕ, ◌+◌, ◌-◌, ◌*◌, ◌/◌, ◌%◌, ◌<◌, ◌≤◌, true, ltb, cond, List, ◌++◌, length, get_or, sym, ap, ◌∙◌, subst, arith, rules, ⊎_elim}
use Rattle.std.proofs.lemmas.Bool.{cases_lt, cond_below, cond_above, cond_both, ltb-true, ltb-false, cond-true, cond-false, lt-ltb, le-ltb}
use Rattle.std.proofs.lemmas.List.{get_or_append_left, get_or-append_right}
use Rattle.std.proofs.lemmas.Nat.{mul-le, mul-add-lt, div_below, mod_below}
use Rattle.cap_matrix.specs.Grid.{Grid, matrix_by, total, entry, fits_limits}
use Rattle.cap_matrix.specs.Buffer.{matrix_of, IsBufferOf}
use Rattle.cap_matrix.proofs.Sums.{total-same}
use Rattle.cap_matrix.proofs.Rows.{rows_by-same}
use Rattle.std.proofs.Math.Nat.{mod-lt}
use Rattle.cap_matrix.proofs.Writes.{AreRows, some_below, flat_small}
use Rattle.cap_matrix.proofs.Buffers.{each_place, buffer-at}

pub filled_residues : (p q n m : ℕ) (items out : List ℕ) (f : ℕ → ℕ → ℕ) → p ≡ q → items ≡ out → AreRows m n out f → ((i j : ℕ) → i < n → j < m → f i j < q)
    → (k : ℕ) → k < n * m → get_or items k 0 < p
filled_residues p q n m items out f ep e h small k lt =
    let below : get_or out k 0 < q
    = each_place n m (λ k. get_or out k 0 < q) (λ i j a b. subst (λ x. x < q) (sym (h.at i j a b)) (small i j a b)) k lt in
    let same = ap (λ xs. get_or xs k 0) e in
    omega arith

pub filled_matrix : (p q n k m l : ℕ) (items out : List ℕ) (f : ℕ → ℕ → ℕ) → p ≡ q → n ≡ k → m ≡ l → items ≡ out → AreRows m n out f
    → matrix_of p n m items ≡ matrix_by q k l f
filled_matrix p q n k m l items out f ep en em e h =
    ap (matrix_of p n m) e ∙ ap make (rows_by-same n m (λ i j. get_or out (i * m + j) 0) f h.at)
    ∙ ap (λ x. matrix_by x n m f) ep ∙ ap (λ x. matrix_by q x m f) en ∙ ap (λ x. matrix_by q k x f) em where
      make : List (List ℕ) → Grid
      make rs = record { prime = p; row_count = n; column_count = m; entries = rs }

pub held-at : (g : Grid) (cells : List ℕ) (n m : ℕ) → IsBufferOf g cells → n ≡ g.row_count → m ≡ g.column_count
    → (i j : ℕ) → i < n → j < m → get_or cells (i * m + j) 0 ≡ entry g.entries i j
held-at g cells n m h en em i j a b =
    ap (λ w. get_or cells (i * w + j) 0) em ∙ sym (buffer-at g cells h i j (omega arith) (omega arith))

pub held_small : (g : Grid) (cells : List ℕ) (n m : ℕ) → IsBufferOf g cells → n ≡ g.row_count → m ≡ g.column_count
    → (i j : ℕ) → i < n → j < m → entry g.entries i j < g.prime
held_small g cells n m h en em i j a b =
    let e = buffer-at g cells h i j (omega arith) (omega arith) in
    let below = h.flat.residues (i * g.column_count + j) (let x = mul-add-lt i g.column_count j g.row_count (omega arith) (omega arith) in omega arith) in
    omega arith

pub rows-product : (x y : Grid) (a b out : List ℕ) (p n m l : ℕ) → IsBufferOf x a → IsBufferOf y b → p ≡ x.prime → n ≡ x.row_count → m ≡ x.column_count
    → l ≡ y.column_count → x.column_count ≡ y.row_count
    → ((i j : ℕ) → i < n → j < l → get_or out (i * l + j) 0 ≡ total m (λ k. get_or a (i * m + k) 0 * get_or b (k * l + j) 0) % p)
    → AreRows l n out (λ i j. total x.column_count (λ k. entry x.entries i k * entry y.entries k j) % x.prime)
rows-product x y a b out p n m l bx by ep en em el meet h = record {
  at = λ i j lt below.
      let terms = λ (k : ℕ). get_or a (i * m + k) 0 * get_or b (k * l + j) 0 in
      let wanted = λ (k : ℕ). entry x.entries i k * entry y.entries k j in
      h i j lt below
      ∙ ap (λ q. total m terms % q) ep
      ∙ ap (λ s. s % x.prime) (total-same m terms wanted (λ k inner.
      ap (λ s. s * get_or b (k * l + j) 0) (held-at x a n m bx en em i k lt inner)
      ∙ ap (λ s. entry x.entries i k * s) (held-at y b m l by (em ∙ meet) el k j inner below)))
      ∙ ap (λ c. total c wanted % x.prime) em;
}

pub rows-sum : (x y : Grid) (a b out : List ℕ) (p n m : ℕ) → IsBufferOf x a → IsBufferOf y b → p ≡ x.prime → n ≡ x.row_count → m ≡ x.column_count
    → x.row_count ≡ y.row_count → x.column_count ≡ y.column_count
    → ((k : ℕ) → k < length a → get_or out k 0 ≡ (get_or a k 0 + get_or b k 0) % p)
    → AreRows m n out (λ i j. (entry x.entries i j + entry y.entries i j) % x.prime)
rows-sum x y a b out p n m bx by ep en em rows columns h = record {
  at = λ i j lt below.
      h (i * m + j) (let e = mul-add-lt i m j n lt below in let s = ap (λ w. n * w) em in let t = ap (λ w. w * x.column_count) en in omega (arith, bx.flat.cells_length))
      ∙ ap (λ q. (get_or a (i * m + j) 0 + get_or b (i * m + j) 0) % q) ep
      ∙ ap (λ s. (s + get_or b (i * m + j) 0) % x.prime) (held-at x a n m bx en em i j lt below)
      ∙ ap (λ s. (entry x.entries i j + s) % x.prime) (held-at y b n m by (en ∙ rows) (em ∙ columns) i j lt below);
}

pub rows-scaled : (x : Grid) (a out : List ℕ) (c p n m : ℕ) → IsBufferOf x a → p ≡ x.prime → n ≡ x.row_count → m ≡ x.column_count
    → ((k : ℕ) → k < n * m → get_or out k 0 ≡ (c * get_or a k 0) % p)
    → AreRows m n out (λ i j. (c * entry x.entries i j) % x.prime)
rows-scaled x a out c p n m bx ep en em h = record {
  at = λ i j lt below.
      h (i * m + j) (let e = mul-add-lt i m j n lt below in omega arith)
      ∙ ap (λ q. (c * get_or a (i * m + j) 0) % q) ep
      ∙ ap (λ s. (c * s) % x.prime) (held-at x a n m bx en em i j lt below);
}

pub rows-transposed : (x : Grid) (a out : List ℕ) (n m : ℕ) → IsBufferOf x a → n ≡ x.row_count → m ≡ x.column_count
    → ((i j : ℕ) → i < m → j < n → get_or out (i * n + j) 0 ≡ get_or a (j * m + i) 0)
    → AreRows n m out (λ i j. entry x.entries j i)
rows-transposed x a out n m bx en em h = record { at = λ i j lt below. h i j lt below ∙ held-at x a n m bx en em j i below lt }

pub rows-stacked : (x y : Grid) (a b out : List ℕ) (n k m : ℕ) → IsBufferOf x a → IsBufferOf y b → n ≡ x.row_count → k ≡ y.row_count → m ≡ x.column_count
    → x.column_count ≡ y.column_count → out ≡ a ++ b
    → AreRows m (n + k) out (λ i j. cond (ltb i x.row_count) (entry x.entries i j) (entry y.entries (i - x.row_count) j))
rows-stacked x y a b out n k m bx by en ek em columns e = record {
  at = λ i j lt below. ap (λ xs. get_or xs (i * m + j) 0) e ∙ ⊎_elim
      (λ early.
      get_or_append_left a b 0 (i * m + j) (let s = mul-add-lt i m j n early below in omega (arith, long))
      ∙ held-at x a n m bx en em i j early below
      ∙ cond_below i x.row_count (entry x.entries i j) (entry y.entries (i - x.row_count) j) (omega arith))
      (λ late.
      let row : n + (i - n) ≡ i = omega arith in
      let place : i * m + j - n * m ≡ (i - n) * m + j = omega (arith, ap (λ w. w * m) row) in
      cond_above i x.row_count (entry x.entries i j) (entry y.entries (i - x.row_count) j) _ (omega arith)
      (get_or-append_right a b (n * m) (i * m + j) 0 long (omega (arith, ap (λ w. w * m) row))
      ∙ ap (λ w. get_or b w 0) place
      ∙ held-at y b k m by ek (em ∙ columns) (i - n) j (omega arith) below
      ∙ ap (λ w. entry y.entries (i - w) j) en))
      (cases_lt i n);
} where
  long : length a ≡ n * m
  long = bx.flat.cells_length ∙ sym (ap (λ w. n * w) em ∙ ap (λ w. w * x.column_count) en)

pub rows-beside : (x y : Grid) (a b out : List ℕ) (n m l : ℕ) → IsBufferOf x a → IsBufferOf y b → n ≡ x.row_count → m ≡ x.column_count → l ≡ y.column_count
    → x.row_count ≡ y.row_count
    → ((i j : ℕ) → i < n → j < m + l → get_or out (i * (m + l) + j) 0 ≡ cond (ltb j m) (get_or a (i * m + j) 0) (get_or b (i * l + (j - m)) 0))
    → AreRows (m + l) n out (λ i j. cond (ltb j x.column_count) (entry x.entries i j) (entry y.entries i (j - x.column_count)))
rows-beside x y a b out n m l bx by en em el rows h = record {
  at = λ i j lt below. h i j lt below ∙ ⊎_elim
      (λ left. cond-true (ltb j m) (get_or a (i * m + j) 0) (get_or b (i * l + (j - m)) 0) (lt-ltb j m left)
      ∙ held-at x a n m bx en em i j lt left
      ∙ cond_below j x.column_count (entry x.entries i j) (entry y.entries i (j - x.column_count)) (omega arith))
      (λ right. cond_above j x.column_count (entry x.entries i j) (entry y.entries i (j - x.column_count)) _ (omega arith)
      (cond-false (ltb j m) (get_or a (i * m + j) 0) (get_or b (i * l + (j - m)) 0) (le-ltb j m right)
      ∙ held-at y b n l by (en ∙ rows) el i (j - m) lt (omega arith)
      ∙ ap (λ w. entry y.entries i (j - w)) em))
      (cases_lt j m);
}

pub rows-block : (x : Grid) (a out : List ℕ) (n m row col k l : ℕ) → IsBufferOf x a → n ≡ x.row_count → m ≡ x.column_count → row + k ≤ n → col + l ≤ m
    → ((i j : ℕ) → i < k → j < l → get_or out (i * l + j) 0 ≡ get_or a ((row + i) * m + (col + j)) 0)
    → AreRows l k out (λ i j. entry x.entries (row + i) (col + j))
rows-block x a out n m row col k l bx en em rows columns h = record {
  at = λ i j lt below. h i j lt below ∙ held-at x a n m bx en em (row + i) (col + j) (omega arith) (omega arith);
}

pub rows-kron : (x y : Grid) (a b out : List ℕ) (p n m k l : ℕ) → IsBufferOf x a → IsBufferOf y b → p ≡ x.prime → n ≡ x.row_count → m ≡ x.column_count
    → k ≡ y.row_count → l ≡ y.column_count
    → ((i j : ℕ) → i < n * k → j < m * l → get_or out (i * (m * l) + j) 0 ≡ (get_or a (i / k * m + j / l) 0 * get_or b (i % k * l + j % l) 0) % p)
    → AreRows (m * l) (n * k) out
    (λ i j. (entry x.entries (i / y.row_count) (j / y.column_count) * entry y.entries (i % y.row_count) (j % y.column_count)) % x.prime)
rows-kron x y a b out p n m k l bx by ep en em ek el h = record {
  at = λ i j lt below.
      let rows : 0 < k = some_below i n k lt in
      let columns : 0 < l = some_below j m l below in
      h i j lt below
      ∙ ap (λ q. (get_or a (i / k * m + j / l) 0 * get_or b (i % k * l + j % l) 0) % q) ep
      ∙ ap (λ s. (s * get_or b (i % k * l + j % l) 0) % x.prime) (held-at x a n m bx en em (i / k) (j / l) (div_below i k n rows lt) (div_below j l m columns below))
      ∙ ap (λ s. (entry x.entries (i / k) (j / l) * s) % x.prime) (held-at y b k l by ek el (i % k) (j % l) (mod_below i k rows) (mod_below j l columns))
      ∙ ap (λ w. (entry x.entries (i / w) (j / l) * entry y.entries (i % w) (j % l)) % x.prime) ek
      ∙ ap (λ w. (entry x.entries (i / y.row_count) (j / w) * entry y.entries (i % y.row_count) (j % w)) % x.prime) el;
}

-- smaller sizes keep the limits too
pub fits_parts : (n m : ℕ) → fits_limits n m ≡ true → (n ≤ 2048) × (m ≤ 2048) × (n * m ≤ 1048576)
fits_parts n m h = search rules

pub fits_smaller : (n m k l : ℕ) → k ≤ n → l ≤ m → fits_limits n m ≡ true → fits_limits k l ≡ true
fits_smaller n m k l a b h =
    let parts = fits_parts n m h in
    let area = mul-le k l n m a b in
    search rules

pub fits_turned : (n m k l : ℕ) → n ≡ k → m ≡ l → fits_limits k l ≡ true → fits_limits m n ≡ true
fits_turned n m k l en em h =
    let parts = fits_parts k l h in
    let area : m * n ≤ 1048576 = omega (arith, parts.2, ap (λ y. y * m) en, ap (λ y. k * y) em) in
    search rules

pub fits_same : (n m k l : ℕ) → n ≡ k → m ≡ l → fits_limits k l ≡ true → fits_limits n m ≡ true
fits_same n m k l en em h = ap (λ y. fits_limits y m) en ∙ ap (λ y. fits_limits k y) em ∙ h

-- the residues of a buffer are small
pub held_below : (g : Grid) (cells : List ℕ) (p : ℕ) → IsBufferOf g cells → p ≡ g.prime → p ≤ 251 → (k : ℕ) → get_or cells k 0 ≤ 250
held_below g cells p h e high k = flat_small g.prime g.row_count g.column_count cells h.flat (omega arith) k

pub beside_small : (x y : Grid) (a b : List ℕ) (n m l i j : ℕ) → IsBufferOf x a → IsBufferOf y b → n ≡ x.row_count → m ≡ x.column_count → l ≡ y.column_count
    → x.prime ≡ y.prime → x.row_count ≡ y.row_count → i < n → j < m + l
    → cond (ltb j x.column_count) (entry x.entries i j) (entry y.entries i (j - x.column_count)) < x.prime
beside_small x y a b n m l i j bx by en em el same rows lt below =
    cond_both (ltb j x.column_count) (entry x.entries i j) (entry y.entries i (j - x.column_count)) (λ v. v < x.prime)
    (λ left. let inner = ltb-true j x.column_count left in held_small x a n m bx en em i j lt (omega arith))
    (λ right. let outer = ltb-false j x.column_count right in let s = held_small y b n l by (en ∙ rows) el i (j - x.column_count) lt (omega arith) in omega arith)

pub remainder_small : (p q n : ℕ) → p ≡ q → 2 ≤ p → n % q < q
remainder_small p q n e low = mod-lt n (omega arith)
