-- The matrix of a system, entry by entry.
use Rattle.std.proofs.Common.{◌≡◌, ℕ, zero, suc, ◌+◌, ◌-◌, ◌%◌, ◌<◌, ◌≤◌, List, [], ◌∷◌, take, sym, ap, ◌∙◌, arith, ⊎_elim, zero-add}
use Rattle.std.specs.List.{sum_by}
use Rattle.std.proofs.lemmas.List.Sums.{sum_by-cons}
use Rattle.std.proofs.lemmas.Bool.{cases_lt}
use Rattle.std.proofs.Math.Nat.{add-mod-mod, zero-mod}
use Rattle.cap_matrix.specs.Grid.{Grid, IsMatrixOf, entry}
use Rattle.cap_matrix.proofs.Entries.{sum-at, zero-at, zero-matrix}
use Rattle.cap_matrix.proofs.Blocks.{stacked-low, stacked-high, beside-left, beside-right}
use Rattle.cap_laws.specs.Linear.{CategoryData, IsLinear}
use Rattle.cap_laws.specs.Systems.{Nth, IsTerm, IsEquation}
use Rattle.cap_laws.specs.Systems.Nth.{here, further}
use Rattle.cap_laws.specs.declared.values.Term.{Term}
use Rattle.cap_laws.specs.declared.values.Equation.{Equation}
use Rattle.cap_homlaw.specs.Hom.{HomData, IsHom, hom_matrix}
use Rattle.cap_homlaw.proofs.Images.{prime-positive}
use Rattle.cap_homlaw.proofs.TwoSided.{hom_matrix-matrix}
use Rattle.cap_solve_laws.specs.Systems.{unknowns_width, values_width, in_rows, equation_columns, system_matrix}
use Rattle.cap_solve_laws.proofs.Equations.{AreTerms, AreEquations, terms_rest, equations_rest, in_rows-matrix, columns-matrix, system-matrix}
use Rattle.cap_solve.proofs.Places.{unknowns-within, width-within}

-- an entry of what a term adds to an equation of n columns
abbrev pub term_entry : {Obj Mor : Type 0} → CategoryData Obj Mor → HomData Obj Mor → List (Obj × Obj) → ℕ → ℕ → ℕ → Term Mor → ℕ
term_entry C H us n i j t = entry (in_rows H C.prime n us t.unknown (hom_matrix C H t.left t.right)).entries i j

module _ {Obj Mor : Type 0} {C : CategoryData Obj Mor} {H : HomData Obj Mor} (L : IsLinear C) (S : IsHom C H) where
  -- the rows of one unknown, and those of the others
  pub in_rows-before : {n u : ℕ} {us : List (Obj × Obj)} {a b : Obj} {k : Grid} → Nth us u (a, b) → IsMatrixOf C.prime (H.dim a b) n k → (i c : ℕ) → i < unknowns_width H (take u us) → c < n
      → entry (in_rows H C.prime n us u k).entries i c ≡ 0
  in_rows-before here K i c lt below = absurd (omega arith)
  in_rows-before {n} {us = v ∷ us} (further {n = u} q) K i c lt below =
      let p = C.prime in
      let Z = zero-matrix p (H.dim v.0 v.1) n (prime-positive L) in
      let I = in_rows-matrix L S q K in
      let w = unknowns-within H q in
      ⊎_elim
      (λ first. stacked-low Z I i c first below ∙ zero-at p (H.dim v.0 v.1) n i c first below)
      (λ later. stacked-high Z I i c later (omega (arith, w)) below ∙ in_rows-before q K (i - H.dim v.0 v.1) c (omega arith) below)
      (cases_lt i (H.dim v.0 v.1))

  pub in_rows-inside : {n u : ℕ} {us : List (Obj × Obj)} {a b : Obj} {k : Grid} → Nth us u (a, b) → IsMatrixOf C.prime (H.dim a b) n k → (i c : ℕ) → i < H.dim a b → c < n
      → entry (in_rows H C.prime n us u k).entries (unknowns_width H (take u us) + i) c ≡ entry k.entries i c
  in_rows-inside {us = []} q K i c lt below = elim q [ ]
  in_rows-inside {n} {us = v ∷ us} {k = k} here K i c lt below =
      ap (λ z. entry (in_rows H C.prime n (v ∷ us) zero k).entries z c) (zero-add i) ∙ stacked-low K (zero-matrix C.prime (unknowns_width H us) n (prime-positive L)) i c lt below
  in_rows-inside {n} {us = v ∷ us} {k = k} (further {n = u} q) K i c lt below =
      let p = C.prime in
      let Z = zero-matrix p (H.dim v.0 v.1) n (prime-positive L) in
      let I = in_rows-matrix L S q K in
      let w = unknowns-within H q in
      let at = H.dim v.0 v.1 + unknowns_width H (take u us) + i in
      stacked-high Z I at c (omega arith) (omega (arith, w)) below
      ∙ ap (λ z. entry (in_rows H p n us u k).entries z c) (let e : at - H.dim v.0 v.1 ≡ unknowns_width H (take u us) + i = omega arith in e)
      ∙ in_rows-inside q K i c lt below

  pub in_rows-after : {n u : ℕ} {us : List (Obj × Obj)} {a b : Obj} {k : Grid} → Nth us u (a, b) → IsMatrixOf C.prime (H.dim a b) n k
      → (i c : ℕ) → unknowns_width H (take u us) + H.dim a b ≤ i → i < unknowns_width H us → c < n → entry (in_rows H C.prime n us u k).entries i c ≡ 0
  in_rows-after {us = []} q K i c ge lt below = elim q [ ]
  in_rows-after {n} {us = v ∷ us} here K i c ge lt below =
      let p = C.prime in
      stacked-high K (zero-matrix p (unknowns_width H us) n (prime-positive L)) i c (omega arith) lt below ∙ zero-at p (unknowns_width H us) n (i - H.dim v.0 v.1) c (omega arith) below
  in_rows-after {n} {us = v ∷ us} (further {n = u} q) K i c ge lt below =
      let Z = zero-matrix C.prime (H.dim v.0 v.1) n (prime-positive L) in
      let I = in_rows-matrix L S q K in
      stacked-high Z I i c (omega arith) lt below ∙ in_rows-after q K (i - H.dim v.0 v.1) c (omega arith) (omega arith) below

  -- the columns of an equation, as sums over its terms
  module _ (us : List (Obj × Obj)) (a b : Obj) (A : C.is_object a) (B : C.is_object b) where
    pub block-matrix : (t : Term Mor) → IsTerm C us a b t → IsMatrixOf C.prime (unknowns_width H us) (H.dim a b) (in_rows H C.prime (H.dim a b) us t.unknown (hom_matrix C H t.left t.right))
    block-matrix t T = in_rows-matrix L S T.ends.is (hom_matrix-matrix L S T.left T.right)

    pub columns-at : (ts : List (Term Mor)) → AreTerms C us a b ts → (i c : ℕ) → i < unknowns_width H us → c < H.dim a b
        → entry (equation_columns C H us (H.dim a b) ts).entries i c ≡ sum_by (term_entry C H us (H.dim a b) i c) ts % C.prime
    columns-at [] h i c lt below = zero-at C.prime (unknowns_width H us) (H.dim a b) i c lt below ∙ sym (zero-mod C.prime)
    columns-at (t ∷ ts) h i c lt below =
        let n = H.dim a b in
        let T = block-matrix t (h.each 0 t here) in
        let f = term_entry C H us n i c in
        sum-at (equation_columns C H us n ts) T i c lt below
        ∙ ap (λ z. (f t + z) % C.prime) (columns-at ts (terms_rest h) i c lt below)
        ∙ add-mod-mod (f t) (sum_by f ts) C.prime
        ∙ ap (λ z. z % C.prime) (sym (sum_by-cons f t ts))

  -- and those columns in the matrix of a system
  module _ (us : List (Obj × Obj)) where
    pub equation-matrix : (e : Equation Mor) → IsEquation C us e → IsMatrixOf C.prime (unknowns_width H us) (H.dim (C.source e.value) (C.target e.value)) (equation_columns C H us (H.dim (C.source e.value) (C.target e.value)) e.terms)
    equation-matrix e E = columns-matrix L S us (C.source e.value) (C.target e.value) (L.source_object e.value E.value) (L.target_object e.value E.value) e.terms (record { each = E.terms })

    pub system-columns : (es : List (Equation Mor)) → AreEquations C us es → (n : ℕ) (e : Equation Mor) → Nth es n e → (i c : ℕ) → i < unknowns_width H us → c < H.dim (C.source e.value) (C.target e.value)
        → entry (system_matrix C H us es).entries i (values_width C H (take n es) + c) ≡ entry (equation_columns C H us (H.dim (C.source e.value) (C.target e.value)) e.terms).entries i c
    system-columns [] h n e q i c lt below = elim q [ ]
    system-columns (e ∷ es) h zero x here i c lt below =
        ap (λ z. entry (system_matrix C H us (e ∷ es)).entries i z) (zero-add c) ∙ beside-left (equation-matrix e (h.each 0 e here)) (system-matrix L S us es (equations_rest h)) i c lt below
    system-columns (e ∷ es) h (suc n) x (further q) i c lt below =
        let own = H.dim (C.source e.value) (C.target e.value) in
        let at = own + values_width C H (take n es) + c in
        let w = width-within C H q in
        beside-right (equation-matrix e (h.each 0 e here)) (system-matrix L S us es (equations_rest h)) i at lt (omega arith) (omega (arith, w))
        ∙ ap (λ z. entry (system_matrix C H us es).entries i z) (let s : at - own ≡ values_width C H (take n es) + c = omega arith in s)
        ∙ system-columns es (equations_rest h) n x q i c lt below
