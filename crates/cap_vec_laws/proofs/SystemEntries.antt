-- The matrix of a system and the row of its values, entry by entry.
use Rattle.std.proofs.Common.{◌≡◌, ◌≢◌, ℕ, zero, suc, ◌+◌, ◌-◌, ◌*◌, ◌/◌, ◌%◌, ◌<◌, ◌≤◌, cond, eqb, List, [], ◌∷◌, length, take, get_or, refl, sym, ap, ◌∙◌, subst, arith, ⊎_elim, zero-add}
use Rattle.std.specs.List.{sum_by}
use Rattle.std.proofs.lemmas.List.Sums.{sum_by-cons}
use Rattle.std.proofs.lemmas.Nat.{mul-add-lt}
use Rattle.std.proofs.lemmas.Bool.{cases_lt, cond-true, cond-false}
use Rattle.std.proofs.lemmas.Bool.Decides.{eqb_tells}
use Rattle.std.proofs.Math.Nat.{add-mod, add-mod-mod, zero-mod}
use Rattle.cap_matrix.specs.Grid.{Grid, IsMatrixOf, entry, kron_of, transposed_of, zero_of}
use Rattle.cap_matrix.specs.Flat.{flat_row}
use Rattle.cap_matrix.proofs.Entries.{matrix_ext, sum-at, zero-at, zero-matrix}
use Rattle.cap_matrix.proofs.Transpose.{transposed-matrix, transposed-at}
use Rattle.cap_matrix.proofs.Blocks.{stacked-low, stacked-high, beside-left, beside-right}
use Rattle.cap_matrix.proofs.TwoSided.{kron-matrix, kron-at, flat_row-matrix, flat_row-at}
use Rattle.cap_laws.specs.Systems.{Nth, IsTerm}
use Rattle.cap_laws.specs.Systems.Nth.{here, further}
use Rattle.cap_laws.proofs.Systems.{nth-unique}
use Rattle.cap_laws.specs.declared.values.Term.{Term}
use Rattle.cap_laws.specs.declared.values.Equation.{Equation}
use Rattle.cap_vec_laws.specs.Vec.{vec_data}
use Rattle.cap_vec_laws.specs.Systems.{cells_of, in_rows, term_rows, coefficients_of, system_matrix, values_row, width_of, AreTerms, AreEquations}
use Rattle.cap_vec_laws.specs.RowEquation.{coefficient}
use Rattle.cap_vec_laws.proofs.Arrows.{as-matrix, whole-matrix}
use Rattle.cap_vec_laws.proofs.Systems.{in_rows-matrix, coefficients-matrix, system-matrix, values-matrix, terms_rest, equations_rest, place_parts, some_below}

-- the cells of an unknown lie within those of all, and before those of the unknowns after it
pub cells-within : {us : List (ℕ × ℕ)} {u : ℕ} {a : ℕ × ℕ} → Nth us u a → cells_of (take u us) + a.0 * a.1 ≤ cells_of us
cells-within here = omega arith
cells-within (further q) = omega (arith, cells-within q)

cells-apart : {us : List (ℕ × ℕ)} {u v : ℕ} {a : ℕ × ℕ} → Nth us u a → u < v → cells_of (take u us) + a.0 * a.1 ≤ cells_of (take v us)
cells-apart {v = zero} q lt = absurd (omega arith)
cells-apart {v = suc v} here lt = omega arith
cells-apart {v = suc v} (further q) lt = omega (arith, cells-apart {v = v} q (omega arith))

pub width-within : {es : List (Equation Grid)} {i : ℕ} {e : Equation Grid} → Nth es i e → width_of (take i es) + e.value.row_count * e.value.column_count ≤ width_of es
width-within here = omega arith
width-within (further q) = omega (arith, width-within q)

-- the rows of one unknown, and those of the others
module _ (p : ℕ) (pos : 1 ≤ p) where
  pub in_rows-before : {n u : ℕ} {us : List (ℕ × ℕ)} {a : ℕ × ℕ} {k : Grid} → Nth us u a → IsMatrixOf p (a.0 * a.1) n k → (i c : ℕ) → i < cells_of (take u us) → c < n
      → entry (in_rows p n us u k).entries i c ≡ 0
  in_rows-before here K i c lt below = absurd (omega arith)
  in_rows-before {n} {us = v ∷ us} (further {n = u} q) K i c lt below =
      let Z = zero-matrix p (v.0 * v.1) n pos in
      let I = in_rows-matrix p pos q K in
      ⊎_elim
      (λ first. stacked-low Z I i c first below ∙ zero-at p (v.0 * v.1) n i c first below)
      (λ later. stacked-high Z I i c later (omega (arith, cells-within q)) below ∙ in_rows-before q K (i - v.0 * v.1) c (omega arith) below)
      (cases_lt i (v.0 * v.1))

  pub in_rows-inside : {n u : ℕ} {us : List (ℕ × ℕ)} {a : ℕ × ℕ} {k : Grid} → Nth us u a → IsMatrixOf p (a.0 * a.1) n k → (i c : ℕ) → i < a.0 * a.1 → c < n
      → entry (in_rows p n us u k).entries (cells_of (take u us) + i) c ≡ entry k.entries i c
  in_rows-inside {us = []} q K i c lt below = elim q [ ]
  in_rows-inside {n} {us = v ∷ us} {k = k} here K i c lt below =
      ap (λ z. entry (in_rows p n (v ∷ us) zero k).entries z c) (zero-add i) ∙ stacked-low K (zero-matrix p (cells_of us) n pos) i c lt below
  in_rows-inside {n} {us = v ∷ us} {a} {k = k} (further {n = u} q) K i c lt below =
      let Z = zero-matrix p (v.0 * v.1) n pos in
      let I = in_rows-matrix p pos q K in
      let at = v.0 * v.1 + cells_of (take u us) + i in
      stacked-high Z I at c (omega arith) (omega (arith, cells-within q)) below
      ∙ ap (λ z. entry (in_rows p n us u k).entries z c) (let e : at - v.0 * v.1 ≡ cells_of (take u us) + i = omega arith in e)
      ∙ in_rows-inside q K i c lt below

  pub in_rows-after : {n u : ℕ} {us : List (ℕ × ℕ)} {a : ℕ × ℕ} {k : Grid} → Nth us u a → IsMatrixOf p (a.0 * a.1) n k
      → (i c : ℕ) → cells_of (take u us) + a.0 * a.1 ≤ i → i < cells_of us → c < n → entry (in_rows p n us u k).entries i c ≡ 0
  in_rows-after {us = []} q K i c ge lt below = elim q [ ]
  in_rows-after {n} {us = v ∷ us} here K i c ge lt below =
      stacked-high K (zero-matrix p (cells_of us) n pos) i c (omega arith) lt below ∙ zero-at p (cells_of us) n (i - v.0 * v.1) c (omega arith) below
  in_rows-after {n} {us = v ∷ us} (further {n = u} q) K i c ge lt below =
      let Z = zero-matrix p (v.0 * v.1) n pos in
      let I = in_rows-matrix p pos q K in
      stacked-high Z I i c (omega arith) lt below ∙ in_rows-after q K (i - v.0 * v.1) c (omega arith) (omega arith) below

  in_rows-elsewhere : {n u v : ℕ} {us : List (ℕ × ℕ)} {a b : ℕ × ℕ} {k : Grid} → Nth us u a → Nth us v b → u ≢ v → IsMatrixOf p (a.0 * a.1) n k
      → (i c : ℕ) → i < b.0 * b.1 → c < n → entry (in_rows p n us u k).entries (cells_of (take v us) + i) c ≡ 0
  in_rows-elsewhere {n} {u} {v} {us} q r ne K i c lt below = ⊎_elim
      (λ less. in_rows-after q K (cells_of (take v us) + i) c (omega (arith, cells-apart q less)) (omega (arith, cells-within r)) below)
      (λ ge. in_rows-before q K (cells_of (take v us) + i) c (omega (arith, cells-apart r (let e : v < u = omega arith in e))) below)
      (cases_lt u v)

-- an entry of a sum of coefficients, as a sum over the terms and block by block
module _ (p : ℕ) (pos : 1 ≤ p) (us : List (ℕ × ℕ)) (a b : ℕ) where
  pub term_rows-matrix : (t : Term Grid) → IsTerm (vec_data p) us a b t → IsMatrixOf p (cells_of us) (a * b) (term_rows p us (a * b) t)
  term_rows-matrix t T = in_rows-matrix p pos T.ends.is (kron-matrix pos (transposed-matrix (as-matrix T.left)) (as-matrix T.right))

  pub coefficients-at : (ts : List (Term Grid)) → AreTerms p us a b ts → (i c : ℕ) → i < cells_of us → c < a * b
      → entry (coefficients_of p us (a * b) ts).entries i c ≡ sum_by (λ t. entry (term_rows p us (a * b) t).entries i c) ts % p
  coefficients-at [] h i c lt below = zero-at p (cells_of us) (a * b) i c lt below ∙ sym (zero-mod p)
  coefficients-at (t ∷ ts) h i c lt below =
      let T = term_rows-matrix t (h.each 0 t here) in
      let f = λ (x : Term Grid). entry (term_rows p us (a * b) x).entries i c in
      sum-at (coefficients_of p us (a * b) ts) T i c lt below
      ∙ ap (λ z. (f t + z) % p) (coefficients-at ts (terms_rest h) i c lt below)
      ∙ add-mod-mod (f t) (sum_by f ts) p ∙ ap (λ z. z % p) (sym (sum_by-cons f t ts))

  module _ (u : ℕ) (d : ℕ × ℕ) (q : Nth us u d) (r s i j : ℕ) (lr : r < d.0) (ls : s < d.1) (li : i < a) (lj : j < b) where
    inner : r * d.1 + s < d.0 * d.1
    inner = omega (arith, mul-add-lt r d.1 s d.0 lr ls)

    column : i * b + j < a * b
    column = omega (arith, mul-add-lt i b j a li lj)

    own : (t : Term Grid) → IsTerm (vec_data p) us a b t → t.unknown ≡ u → entry (term_rows p us (a * b) t).entries (cells_of (take u us) + (r * d.1 + s)) (i * b + j)
        ≡ entry t.left.entries i r * entry t.right.entries s j % p
    own t T e =
        let ends = nth-unique (subst (λ z. Nth us z (T.ends.from, T.ends.to)) e T.ends.is) q in
        let L : IsMatrixOf p a d.0 t.left = subst (λ (z : ℕ × ℕ). IsMatrixOf p a z.0 t.left) ends (as-matrix T.left) in
        let R : IsMatrixOf p d.1 b t.right = subst (λ (z : ℕ × ℕ). IsMatrixOf p z.1 b t.right) ends (as-matrix T.right) in
        let K = kron-matrix pos (transposed-matrix L) R in
        let k = kron_of (transposed_of t.left) t.right in
        let up = place_parts d.1 r s ls in
        let across = place_parts b i j lj in
        ap (λ z. entry (in_rows p (a * b) us z k).entries (cells_of (take u us) + (r * d.1 + s)) (i * b + j)) e
        ∙ in_rows-inside p pos q K (r * d.1 + s) (i * b + j) inner column
        ∙ kron-at (transposed-matrix L) R (r * d.1 + s) (i * b + j) inner column
        ∙ ap (λ z. entry (transposed_of t.left).entries z ((i * b + j) / b) * entry t.right.entries ((r * d.1 + s) % d.1) ((i * b + j) % b) % p) up.0
        ∙ ap (λ z. entry (transposed_of t.left).entries r z * entry t.right.entries ((r * d.1 + s) % d.1) ((i * b + j) % b) % p) across.0
        ∙ ap (λ z. entry (transposed_of t.left).entries r i * entry t.right.entries z ((i * b + j) % b) % p) up.1
        ∙ ap (λ z. entry (transposed_of t.left).entries r i * entry t.right.entries s z % p) across.1
        ∙ ap (λ z. z * entry t.right.entries s j % p) (transposed-at L r i lr li)

    term-block : (t : Term Grid) → IsTerm (vec_data p) us a b t
        → entry (term_rows p us (a * b) t).entries (cells_of (take u us) + (r * d.1 + s)) (i * b + j) ≡ cond (eqb t.unknown u) (entry t.left.entries i r * entry t.right.entries s j) 0 % p
    term-block t T = ⊎_elim
        (λ e. own t T e.1 ∙ ap (λ z. z % p) (sym (cond-true (eqb t.unknown u) (entry t.left.entries i r * entry t.right.entries s j) 0 e.0)))
        (λ e. in_rows-elsewhere p pos T.ends.is q e.1 (kron-matrix pos (transposed-matrix (as-matrix T.left)) (as-matrix T.right)) (r * d.1 + s) (i * b + j) inner column
        ∙ sym (zero-mod p) ∙ ap (λ z. z % p) (sym (cond-false (eqb t.unknown u) (entry t.left.entries i r * entry t.right.entries s j) 0 e.0)))
        (eqb_tells t.unknown u)

    pub coefficients-block : (ts : List (Term Grid)) → AreTerms p us a b ts
        → entry (coefficients_of p us (a * b) ts).entries (cells_of (take u us) + (r * d.1 + s)) (i * b + j) ≡ coefficient u ts r s i j % p
    coefficients-block [] h = zero-at p (cells_of us) (a * b) (cells_of (take u us) + (r * d.1 + s)) (i * b + j) (omega (arith, cells-within q, inner)) column ∙ sym (zero-mod p)
    coefficients-block (t ∷ ts) h =
        let T = h.each 0 t here in
        let first = cond (eqb t.unknown u) (entry t.left.entries i r * entry t.right.entries s j) 0 in
        let rest = coefficient u ts r s i j in
        sum-at (coefficients_of p us (a * b) ts) (term_rows-matrix t T) (cells_of (take u us) + (r * d.1 + s)) (i * b + j) (omega (arith, cells-within q, inner)) column
        ∙ ap (λ z. (z + entry (coefficients_of p us (a * b) ts).entries (cells_of (take u us) + (r * d.1 + s)) (i * b + j)) % p) (term-block t T)
        ∙ ap (λ z. (first % p + z) % p) (coefficients-block ts (terms_rest h))
        ∙ sym (add-mod first rest p)
        ∙ ap (λ z. z % p) (sym (sum_by-cons (λ (x : Term Grid). cond (eqb x.unknown u) (entry x.left.entries i r * entry x.right.entries s j) 0) t ts))

-- the columns of one equation
module _ (p : ℕ) (pos : 1 ≤ p) (us : List (ℕ × ℕ)) where
  pub system-columns : (es : List (Equation Grid)) → AreEquations p us es → (n : ℕ) (e : Equation Grid) → Nth es n e → (i c : ℕ) → i < cells_of us → c < e.value.row_count * e.value.column_count
      → entry (system_matrix p us es).entries i (width_of (take n es) + c) ≡ entry (coefficients_of p us (e.value.row_count * e.value.column_count) e.terms).entries i c
  system-columns [] h n e q i c lt below = elim q [ ]
  system-columns (e ∷ es) h zero x here i c lt below =
      let E = h.each 0 e here in
      let X = coefficients-matrix p pos us e.value.row_count e.value.column_count e.terms (record { each = E.terms }) in
      ap (λ z. entry (system_matrix p us (e ∷ es)).entries i z) (zero-add c) ∙ beside-left X (system-matrix p pos us es (equations_rest h)) i c lt below
  system-columns (e ∷ es) h (suc n) x (further q) i c lt below =
      let E = h.each 0 e here in
      let X = coefficients-matrix p pos us e.value.row_count e.value.column_count e.terms (record { each = E.terms }) in
      let own = e.value.row_count * e.value.column_count in
      let at = own + width_of (take n es) + c in
      beside-right X (system-matrix p pos us es (equations_rest h)) i at lt (omega arith) (omega (arith, width-within q))
      ∙ ap (λ z. entry (system_matrix p us es).entries i z) (let s : at - own ≡ width_of (take n es) + c = omega arith in s)
      ∙ system-columns es (equations_rest h) n x q i c lt below

  pub values-columns : (es : List (Equation Grid)) → AreEquations p us es → (n : ℕ) (e : Equation Grid) → Nth es n e → (c : ℕ) → c < e.value.row_count * e.value.column_count
      → entry (values_row p es).entries 0 (width_of (take n es) + c) ≡ entry e.value.entries (c / e.value.column_count) (c % e.value.column_count)
  values-columns [] h n e q c below = elim q [ ]
  values-columns (e ∷ es) h zero x here c below =
      let V = whole-matrix (h.each 0 e here).value in
      ap (λ z. entry (values_row p (e ∷ es)).entries 0 z) (zero-add c)
      ∙ beside-left (flat_row-matrix V) (values-matrix p pos us es (equations_rest h)) 0 c (omega arith) below ∙ flat_row-at V 0 c (omega arith) below
  values-columns (e ∷ es) h (suc n) x (further q) c below =
      let V = whole-matrix (h.each 0 e here).value in
      let own = e.value.row_count * e.value.column_count in
      let at = own + width_of (take n es) + c in
      beside-right (flat_row-matrix V) (values-matrix p pos us es (equations_rest h)) 0 at (omega arith) (omega arith) (omega (arith, width-within q))
      ∙ ap (λ z. entry (values_row p es).entries 0 z) (let s : at - own ≡ width_of (take n es) + c = omega arith in s)
      ∙ values-columns es (equations_rest h) n x q c below
