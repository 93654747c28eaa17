-- The equations of a system hold exactly where the row of the unknowns' coefficients times the system's matrix is the row of the values.
use Rattle.std.proofs.Common.{◌≡◌, ℕ, zero, suc, List, [], ◌∷◌, ◌++◌, length, get_or, take, drop, refl, sym, ap, ◌∙◌, arith}
use Rattle.std.proofs.lemmas.List.{take-append-drop}
use Rattle.cap_matrix.specs.Grid.{Grid, IsMatrixOf, row_times}
use Rattle.cap_matrix.proofs.Entries.{zero-matrix, sum-matrix}
use Rattle.cap_matrix.proofs.Blocks.{stacked-matrix, beside-matrix}
use Rattle.cap_laws.specs.Linear.{CategoryData, IsLinear, Arrow, Same}
use Rattle.cap_laws.specs.Systems.{Nth, IsTerm, IsEquation, Ends, total}
use Rattle.cap_laws.specs.Systems.Nth.{here, further}
use Rattle.cap_laws.specs.declared.values.Term.{Term}
use Rattle.cap_laws.specs.declared.values.Equation.{Equation}
use Rattle.cap_homlaw.specs.Rows.{AreResidues, row_sum}
use Rattle.cap_homlaw.specs.Hom.{HomData, IsHom, hom_matrix}
use Rattle.cap_homlaw.proofs.Rows.{times-residues, times-zero, times-sum, times-beside, times-stacked, sum-zero_row, zero_row-sum}
use Rattle.cap_homlaw.proofs.Images.{prime-positive, nu-zero, same-from-nu}
use Rattle.cap_homlaw.proofs.TwoSided.{hom_matrix-matrix, two-sided}
use Rattle.cap_solve_laws.specs.Systems.{values_width, unknowns_width, in_rows, equation_columns, system_matrix, values_row, unknowns_row, morphisms_of}
use Rattle.cap_homlaw.proofs.Lists.{append-residues, take-residues, drop-residues, append-first, append-second}

-- the morphisms xs have the ends us, one by one
pub data AreArrows {Obj Mor : Type 0} (C : CategoryData Obj Mor) : List (Obj × Obj) → List Mor → Type 0 where
  none : AreArrows C [] []
  one : {u : Obj × Obj} {x : Mor} {us : List (Obj × Obj)} {xs : List Mor} → Arrow C u.0 u.1 x → AreArrows C us xs → AreArrows C (u ∷ us) (x ∷ xs)

-- the terms of an equation between a and b, and the equations of a system
pub record AreTerms {Obj Mor : Type 0} (C : CategoryData Obj Mor) (us : List (Obj × Obj)) (a b : Obj) (ts : List (Term Mor)) : Type 0 where
  pub each : (n : ℕ) (t : Term Mor) → Nth ts n t → IsTerm C us a b t

pub record AreEquations {Obj Mor : Type 0} (C : CategoryData Obj Mor) (us : List (Obj × Obj)) (es : List (Equation Mor)) : Type 0 where
  pub each : (n : ℕ) (e : Equation Mor) → Nth es n e → IsEquation C us e

pub terms_rest : {Obj Mor : Type 0} {C : CategoryData Obj Mor} {us : List (Obj × Obj)} {a b : Obj} {t : Term Mor} {ts : List (Term Mor)} → AreTerms C us a b (t ∷ ts) → AreTerms C us a b ts
terms_rest h = record { each = λ n s q. h.each (suc n) s (further q) }

pub equations_rest : {Obj Mor : Type 0} {C : CategoryData Obj Mor} {us : List (Obj × Obj)} {e : Equation Mor} {es : List (Equation Mor)} → AreEquations C us (e ∷ es) → AreEquations C us es
equations_rest h = record { each = λ n s q. h.each (suc n) s (further q) }

-- the sum that equation e has at xs
abbrev pub sum_at : {Obj Mor : Type 0} → CategoryData Obj Mor → List Mor → Equation Mor → Mor
sum_at C xs e = total C (C.source e.value) (C.target e.value) xs e.terms

pub whole : {Obj Mor : Type 0} {C : CategoryData Obj Mor} {f : Mor} → C.is_morphism f → Arrow C (C.source f) (C.target f) f
whole p = record { is = p; from = refl; to = refl }

module _ {Obj Mor : Type 0} {C : CategoryData Obj Mor} {H : HomData Obj Mor} (L : IsLinear C) (S : IsHom C H) where
  pub unknowns-residues : {us : List (Obj × Obj)} {xs : List Mor} → AreArrows C us xs → AreResidues C.prime (unknowns_width H us) (unknowns_row H xs)
  unknowns-residues none = record { long = refl; residues = λ k lt. absurd (omega (arith, lt)) }
  unknowns-residues (one X h) = append-residues (S.nu_row X) (unknowns-residues h)

  pub in_rows-matrix : {n u : ℕ} {a b : Obj} {us : List (Obj × Obj)} {k : Grid} → Nth us u (a, b) → IsMatrixOf C.prime (H.dim a b) n k → IsMatrixOf C.prime (unknowns_width H us) n (in_rows H C.prime n us u k)
  in_rows-matrix {n} {us = []} q K = elim q [ ]
  in_rows-matrix {n} {us = u ∷ us} here K = stacked-matrix K (zero-matrix C.prime (unknowns_width H us) n (prime-positive L))
  in_rows-matrix {n} {us = u ∷ us} (further h) K = stacked-matrix (zero-matrix C.prime (H.dim u.0 u.1) n (prime-positive L)) (in_rows-matrix h K)

  -- the row of all coefficients times a matrix in the rows of one unknown
  pub in_rows-product : {n u : ℕ} {a b : Obj} {us : List (Obj × Obj)} {xs : List Mor} {k : Grid} (d : Mor) → Nth us u (a, b) → AreArrows C us xs → IsMatrixOf C.prime (H.dim a b) n k
      → row_times (unknowns_row H xs) (in_rows H C.prime n us u k) ≡ row_times (H.nu (get_or xs u d)) k
  in_rows-product {n} {us = u ∷ us} {xs = x ∷ xs} {k} d here (one X h) K =
      let pos = prime-positive L in
      let Z = zero-matrix C.prime (unknowns_width H us) n pos in
      times-stacked pos K Z (H.nu x) (unknowns_row H xs) (S.nu_row X).long
      ∙ ap (λ r. row_sum C.prime n (row_times (H.nu x) k) r) (times-zero C.prime (unknowns_width H us) n pos (unknowns_row H xs))
      ∙ sum-zero_row C.prime n pos (times-residues pos K (H.nu x))
  in_rows-product {n} {us = u ∷ us} {xs = x ∷ xs} {k} d (further {n = m} q) (one X h) K =
      let pos = prime-positive L in
      let Z = zero-matrix C.prime (H.dim u.0 u.1) n pos in
      let rest = in_rows H C.prime n us m k in
      times-stacked pos Z (in_rows-matrix q K) (H.nu x) (unknowns_row H xs) (S.nu_row X).long
      ∙ ap (λ r. row_sum C.prime n r (row_times (unknowns_row H xs) rest)) (times-zero C.prime (H.dim u.0 u.1) n pos (H.nu x))
      ∙ zero_row-sum C.prime n pos (times-residues pos (in_rows-matrix q K) (unknowns_row H xs))
      ∙ in_rows-product d q h K
  in_rows-product {us = []} d q h K = elim q [ ]
  in_rows-product {us = u ∷ us} {xs = []} d q h K = elim h [ ]

  pub named : {u : ℕ} {a b : Obj} {us : List (Obj × Obj)} {xs : List Mor} (d : Mor) → Nth us u (a, b) → AreArrows C us xs → Arrow C a b (get_or xs u d)
  named {us = u ∷ us} {xs = x ∷ xs} d here (one X h) = X
  named {us = u ∷ us} {xs = x ∷ xs} d (further q) (one X h) = named d q h
  named {us = []} d q h = elim q [ ]
  named {us = u ∷ us} {xs = []} d q h = elim h [ ]

  module _ (us : List (Obj × Obj)) (a b : Obj) (A : C.is_object a) (B : C.is_object b) where
    pub term-arrow : (xs : List Mor) (t : Term Mor) → AreArrows C us xs → IsTerm C us a b t → Arrow C a b (C.compose (C.compose t.left (get_or xs t.unknown t.left)) t.right)
    term-arrow xs t X T = L.compose_arrow (L.compose_arrow T.left (named t.left T.ends.is X)) T.right

    pub total-arrow : (xs : List Mor) (ts : List (Term Mor)) → AreArrows C us xs → AreTerms C us a b ts → Arrow C a b (total C a b xs ts)
    total-arrow xs [] X h = L.zero_arrow a b A B
    total-arrow xs (t ∷ ts) X h = L.add_arrow (term-arrow xs t X (h.each 0 t here)) (total-arrow xs ts X (terms_rest h))

    term-matrix : (t : Term Mor) → IsTerm C us a b t → IsMatrixOf C.prime (unknowns_width H us) (H.dim a b) (in_rows H C.prime (H.dim a b) us t.unknown (hom_matrix C H t.left t.right))
    term-matrix t T = in_rows-matrix T.ends.is (hom_matrix-matrix L S T.left T.right)

    pub columns-matrix : (ts : List (Term Mor)) → AreTerms C us a b ts → IsMatrixOf C.prime (unknowns_width H us) (H.dim a b) (equation_columns C H us (H.dim a b) ts)
    columns-matrix [] h = zero-matrix C.prime (unknowns_width H us) (H.dim a b) (prime-positive L)
    columns-matrix (t ∷ ts) h = sum-matrix (equation_columns C H us (H.dim a b) ts) (prime-positive L) (term-matrix t (h.each 0 t here))

    -- the row of all coefficients times the columns of an equation is the row of its sum
    pub columns-product : (xs : List Mor) (ts : List (Term Mor)) → AreArrows C us xs → AreTerms C us a b ts
        → row_times (unknowns_row H xs) (equation_columns C H us (H.dim a b) ts) ≡ H.nu (total C a b xs ts)
    columns-product xs [] X h = times-zero C.prime (unknowns_width H us) (H.dim a b) (prime-positive L) (unknowns_row H xs) ∙ sym (nu-zero L S A B)
    columns-product xs (t ∷ ts) X h =
        let T = h.each 0 t here in
        let n = H.dim a b in
        let row = unknowns_row H xs in
        let rest = terms_rest h in
        let N = named t.left T.ends.is X in
        times-sum (prime-positive L) (term-matrix t T) (columns-matrix ts rest) row
        ∙ ap (λ r. row_sum C.prime n r (row_times row (equation_columns C H us n ts)))
        (in_rows-product t.left T.ends.is X (hom_matrix-matrix L S T.left T.right) ∙ sym (two-sided L S T.left N T.right))
        ∙ ap (λ r. row_sum C.prime n (H.nu (C.compose (C.compose t.left (get_or xs t.unknown t.left)) t.right)) r) (columns-product xs ts X rest)
        ∙ sym (S.nu_add (term-arrow xs t X T) (total-arrow xs ts X rest))

  module _ (us : List (Obj × Obj)) where
    terms_of : (e : Equation Mor) → IsEquation C us e → AreTerms C us (C.source e.value) (C.target e.value) e.terms
    terms_of e h = record { each = h.terms }

    source-of : (e : Equation Mor) → IsEquation C us e → C.is_object (C.source e.value)
    source-of e h = L.source_object e.value h.value

    target-of : (e : Equation Mor) → IsEquation C us e → C.is_object (C.target e.value)
    target-of e h = L.target_object e.value h.value

    pub sum-arrow : (xs : List Mor) (e : Equation Mor) → AreArrows C us xs → IsEquation C us e → Arrow C (C.source e.value) (C.target e.value) (sum_at C xs e)
    sum-arrow xs e X h = total-arrow us (C.source e.value) (C.target e.value) (source-of e h) (target-of e h) xs e.terms X (terms_of e h)

    pub values-residues : (es : List (Equation Mor)) → AreEquations C us es → AreResidues C.prime (values_width C H es) (values_row H es)
    values-residues [] h = record { long = refl; residues = λ k lt. absurd (omega (arith, lt)) }
    values-residues (e ∷ es) h = append-residues (S.nu_row (whole (h.each 0 e here).value)) (values-residues es (equations_rest h))

    first-columns : (e : Equation Mor) → IsEquation C us e → IsMatrixOf C.prime (unknowns_width H us) (H.dim (C.source e.value) (C.target e.value)) (equation_columns C H us (H.dim (C.source e.value) (C.target e.value)) e.terms)
    first-columns e E = columns-matrix us (C.source e.value) (C.target e.value) (source-of e E) (target-of e E) e.terms (terms_of e E)

    pub system-matrix : (es : List (Equation Mor)) → AreEquations C us es → IsMatrixOf C.prime (unknowns_width H us) (values_width C H es) (system_matrix C H us es)
    system-matrix [] h = zero-matrix C.prime (unknowns_width H us) 0 (prime-positive L)
    system-matrix (e ∷ es) h = beside-matrix (first-columns e (h.each 0 e here)) (system-matrix es (equations_rest h))

    -- the first equation and the others
    system-split : (xs : List Mor) (e : Equation Mor) (es : List (Equation Mor)) → AreArrows C us xs → AreEquations C us (e ∷ es)
        → row_times (unknowns_row H xs) (system_matrix C H us (e ∷ es)) ≡ H.nu (sum_at C xs e) ++ row_times (unknowns_row H xs) (system_matrix C H us es)
    system-split xs e es X h =
        let E = h.each 0 e here in
        let row = unknowns_row H xs in
        times-beside (first-columns e E) (system-matrix es (equations_rest h)) row
        ∙ ap (λ r. r ++ row_times row (system_matrix C H us es)) (columns-product us (C.source e.value) (C.target e.value) (source-of e E) (target-of e E) xs e.terms X (terms_of e E))

    -- where each equation holds, the row of the unknowns times the matrix is the row of the values
    pub solved-row : (xs : List Mor) (es : List (Equation Mor)) → AreArrows C us xs → AreEquations C us es
        → ((n : ℕ) (e : Equation Mor) → Nth es n e → Same C (C.source e.value) (C.target e.value) (sum_at C xs e) e.value)
        → row_times (unknowns_row H xs) (system_matrix C H us es) ≡ values_row H es
    solved-row xs [] X h k = times-zero C.prime (unknowns_width H us) 0 (prime-positive L) (unknowns_row H xs)
    solved-row xs (e ∷ es) X h k =
        system-split xs e es X h
        ∙ ap (λ r. r ++ row_times (unknowns_row H xs) (system_matrix C H us es)) (S.nu_same (k 0 e here))
        ∙ ap (λ r. H.nu e.value ++ r) (solved-row xs es X (equations_rest h) (λ n s q. k (suc n) s (further q)))

    -- and conversely
    pub row-solved : (xs : List Mor) (es : List (Equation Mor)) → AreArrows C us xs → AreEquations C us es → row_times (unknowns_row H xs) (system_matrix C H us es) ≡ values_row H es
        → (n : ℕ) (e : Equation Mor) → Nth es n e → Same C (C.source e.value) (C.target e.value) (sum_at C xs e) e.value
    row-solved xs [] X h w n e q = elim q [ ]
    row-solved xs (e ∷ es) X h w zero s here =
        let E = h.each 0 e here in
        let A = sum-arrow xs e X E in
        let V = whole E.value in
        same-from-nu L S A V (append-first (H.nu (sum_at C xs e)) (row_times (unknowns_row H xs) (system_matrix C H us es)) (H.nu e.value) (values_row H es) (S.nu_row A).long (S.nu_row V).long (sym (system-split xs e es X h) ∙ w))
    row-solved xs (e ∷ es) X h w (suc k) s (further q) =
        let E = h.each 0 e here in
        row-solved xs es X (equations_rest h) (append-second (H.nu (sum_at C xs e)) (row_times (unknowns_row H xs) (system_matrix C H us es)) (H.nu e.value) (values_row H es) (S.nu_row (sum-arrow xs e X E)).long (S.nu_row (whole E.value)).long (sym (system-split xs e es X h) ∙ w)) k s q

  -- a row of residues is that of the morphisms that it stands for
  pub morphisms-are : (us : List (Obj × Obj)) (row : List ℕ) → ((n : ℕ) (e : Ends us n) → C.is_object e.from × C.is_object e.to) → AreResidues C.prime (unknowns_width H us) row → AreArrows C us (morphisms_of H us row)
  morphisms-are [] row o R = none
  morphisms-are (u ∷ us) row o R =
      let h = o 0 (record { from = u.0; to = u.1; is = here }) in
      one (S.back_arrow h.0 h.1 (take-residues (H.dim u.0 u.1) (unknowns_width H us) R))
      (morphisms-are us (drop (H.dim u.0 u.1) row) (λ n e. o (suc n) (record { from = e.from; to = e.to; is = further e.is })) (drop-residues (H.dim u.0 u.1) (unknowns_width H us) R))

  pub morphisms-row : (us : List (Obj × Obj)) (row : List ℕ) → ((n : ℕ) (e : Ends us n) → C.is_object e.from × C.is_object e.to) → AreResidues C.prime (unknowns_width H us) row → unknowns_row H (morphisms_of H us row) ≡ row
  morphisms-row [] row o R = sym (no-entries row R.long)
    where
      no-entries : (xs : List ℕ) → length xs ≡ 0 → xs ≡ []
      no-entries [] e = refl
      no-entries (x ∷ xs) e = absurd (omega (arith, e))
  morphisms-row (u ∷ us) row o R =
      let h = o 0 (record { from = u.0; to = u.1; is = here }) in
      let n = H.dim u.0 u.1 in
      ap (λ r. r ++ unknowns_row H (morphisms_of H us (drop n row))) (S.nu_back h.0 h.1 (take-residues (H.dim u.0 u.1) (unknowns_width H us) R))
      ∙ ap (λ r. take n row ++ r) (morphisms-row us (drop n row) (λ n e. o (suc n) (record { from = e.from; to = e.to; is = further e.is })) (drop-residues (H.dim u.0 u.1) (unknowns_width H us) R))
      ∙ take-append-drop n row
