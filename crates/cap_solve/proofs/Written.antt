-- The matrix of a system, written term by term and equation by equation.
use Rattle.std.proofs.Common.{◌≡◌, ℕ, ◌+◌, ◌-◌, ◌*◌, ◌%◌, ◌<◌, ◌≤◌, List, length, take, get_or, refl, sym, ap, ◌∙◌, subst, arith, ⊎_elim, zero-add}
use Rattle.std.proofs.lemmas.Bool.{cases_lt}
use Rattle.std.proofs.Math.Nat.{add-zero, mod-eq_of_lt}
use Rattle.cap_matrix.specs.Grid.{Grid, IsMatrixOf, entry}
use Rattle.cap_matrix.specs.Buffer.{matrix_of}
use Rattle.cap_matrix.proofs.Buffers.{each_place}
use Rattle.cap_matrix.proofs.Entries.{matrix_ext, matrix_by-at, matrix_by-is, small-at}
use Rattle.cap_reduce.specs.Flat.{cell}
use Rattle.cap_laws.specs.Linear.{CategoryData, IsLinear}
use Rattle.cap_laws.specs.Systems.{Nth, IsTerm, IsEquation}
use Rattle.cap_laws.specs.declared.values.Term.{Term}
use Rattle.cap_laws.specs.declared.values.Equation.{Equation}
use Rattle.cap_homlaw.specs.Hom.{HomData, IsHom}
use Rattle.cap_solve_laws.specs.Systems.{unknowns_width, values_width, in_rows, equation_columns, system_matrix}
use Rattle.cap_solve_laws.proofs.Equations.{AreEquations}
use Rattle.cap_solve.specs.Blocks.{IsBlockAdded, IsHeld}
use Rattle.cap_solve.proofs.Places.{unknowns-within, width-within}
use Rattle.cap_solve.proofs.Entries.{in_rows-before, in_rows-inside, in_rows-after, equation-matrix, system-columns}

-- the ends of a term, told by its factors
pub own_term : {Obj Mor : Type 0} {C : CategoryData Obj Mor} {us : List (Obj × Obj)} {a b : Obj} {t : Term Mor} → IsTerm C us a b t → IsTerm C us (C.source t.left) (C.target t.right) t
own_term T = record {
  ends = T.ends;
  left = record { is = T.left.is; from = refl; to = T.left.to };
  right = record { is = T.right.is; from = T.right.from; to = refl };
}

pub own_size : {Obj Mor : Type 0} {C : CategoryData Obj Mor} (H : HomData Obj Mor) {us : List (Obj × Obj)} {a b : Obj} {t : Term Mor} → IsTerm C us a b t → H.dim (C.source t.left) (C.target t.right) ≡ H.dim a b
own_size {C = C} H {a = a} {t = t} T = ap (λ x. H.dim x (C.target t.right)) T.left.from ∙ ap (λ y. H.dim a y) T.right.to

module _ {Obj Mor : Type 0} {C : CategoryData Obj Mor} {H : HomData Obj Mor} (L : IsLinear C) (S : IsHom C H) where
  -- the coefficients of a value
  pub value-long : {us : List (Obj × Obj)} {e : Equation Mor} → IsEquation C us e → length (H.nu e.value) ≡ H.dim (C.source e.value) (C.target e.value)
  value-long E = (S.nu_row (record { is = E.value; from = refl; to = refl })).long

  -- a block that is added in the rows of one unknown is added in all rows, with 0 in those of the others
  pub block_in_rows : {u n : ℕ} {a b : Obj} {us : List (Obj × Obj)} {k : Grid} → Nth us u (a, b) → IsMatrixOf C.prime (H.dim a b) n k → (w : ℕ) (first now : List ℕ) (row col : ℕ)
      → row ≡ unknowns_width H (take u us) → col + n ≤ w → ((i : ℕ) → get_or first i 0 < C.prime) → IsBlockAdded C.prime w first now row col (H.dim a b) n (entry k.entries)
      → IsBlockAdded C.prime w first now 0 col (unknowns_width H us) n (entry (in_rows H C.prime n us u k).entries)
  block_in_rows {u} {n} {a} {b} {us} {k} q K w first now row col e room small h =
      let p = C.prime in
      let d = H.dim a b in
      let g = in_rows H p n us u k in
      let within = unknowns-within H q in
      let stays : (i j : ℕ) → i < unknowns_width H us → j < n → (row ≤ i → i < row + d → ⊥) → entry g.entries i j ≡ 0
      → cell now w (0 + i) (col + j) ≡ (cell first w (0 + i) (col + j) + entry g.entries i j) % p = λ i j lt below out none.
      let x = cell first w (0 + i) (col + j) in
      h.outside (0 + i) (col + j) (omega arith) (λ ge less c d. out (omega arith) (omega arith))
      ∙ sym (ap (λ y. (x + y) % p) none ∙ ap (λ y. y % p) (add-zero x) ∙ mod-eq_of_lt (small ((0 + i) * w + (col + j)))) in
      record {
        inside = λ i j lt below. ⊎_elim
            (λ before. stays i j lt below (λ ge less. absurd (omega arith)) (in_rows-before L S q K i j (omega (arith, e)) below))
            (λ ge. ⊎_elim
            (λ own.
            let r = i - row in
            let at : row + r ≡ 0 + i = omega arith in
            ap (λ y. cell now w y (col + j)) (sym at) ∙ h.inside r j own below
            ∙ ap (λ y. (cell first w y (col + j) + entry k.entries r j) % p) at
            ∙ ap (λ y. (cell first w (0 + i) (col + j) + y) % p) (sym (in_rows-inside L S q K r j own below)
            ∙ ap (λ y. entry g.entries y j) (let s : unknowns_width H (take u us) + r ≡ i = omega (arith, e) in s)))
            (λ after. stays i j lt below (λ le less. absurd (omega arith)) (in_rows-after L S q K i j (omega (arith, e)) lt below))
            (cases_lt (i - row) d))
            (cases_lt i row);
        outside = λ i j lt out. h.outside i j lt (λ ge less c d. out (omega arith) (omega (arith, e, within)) c d);
        small = h.small;
      }

  -- one equation more is written
  module _ (us : List (Obj × Obj)) (es : List (Equation Mor)) (E : AreEquations C us es) (i : ℕ) (e : Equation Mor) (q : Nth es i e)
      (w start : ℕ) (width : w ≡ values_width C H es) (begins : start ≡ values_width C H (take i es)) where
    pub columns_inside : start + H.dim (C.source e.value) (C.target e.value) ≤ w
    columns_inside = let h = width-within C H q in omega (arith, h, width, begins)

    pub columns_written : (mid now : List ℕ)
        → ((a j : ℕ) → a < unknowns_width H us → j < start → cell mid w a j ≡ entry (system_matrix C H us es).entries a j)
        → ((a j : ℕ) → a < unknowns_width H us → start ≤ j → j < w → cell mid w a j ≡ 0)
        → IsBlockAdded C.prime w mid now 0 start (unknowns_width H us) (H.dim (C.source e.value) (C.target e.value)) (entry (equation_columns C H us (H.dim (C.source e.value) (C.target e.value)) e.terms).entries)
        → (a j : ℕ) → a < unknowns_width H us → j < start + H.dim (C.source e.value) (C.target e.value) → cell now w a j ≡ entry (system_matrix C H us es).entries a j
    columns_written mid now inside after B a j lt below = ⊎_elim
        (λ old. let room = columns_inside in B.outside a j (omega (arith, room, old)) (λ x y ge less. absurd (omega arith)) ∙ inside a j lt old)
        (λ new.
        let p = C.prime in
        let n = H.dim (C.source e.value) (C.target e.value) in
        let room = columns_inside in
        let c = j - start in
        let at : start + c ≡ j = omega arith in
        let G = equation-matrix L S us e (E.each i e q) in
        let x = entry (equation_columns C H us n e.terms).entries a c in
        ap (λ y. cell now w y j) (sym (zero-add a)) ∙ ap (λ y. cell now w (0 + a) y) (sym at)
        ∙ B.inside a c lt (omega arith)
        ∙ ap (λ y. (cell mid w y (start + c) + x) % p) (zero-add a)
        ∙ ap (λ y. (y + x) % p) (after a (start + c) lt (omega arith) (omega (arith, room)))
        ∙ ap (λ y. y % p) (zero-add x) ∙ mod-eq_of_lt (small-at G a c lt (omega arith))
        ∙ sym (system-columns L S us es E i e q a c lt (omega arith))
        ∙ ap (λ y. entry (system_matrix C H us es).entries a y) (let s : values_width C H (take i es) + c ≡ j = omega (arith, begins) in s))
        (cases_lt j start)

    pub columns_after : (mid now : List ℕ)
        → ((a j : ℕ) → a < unknowns_width H us → start ≤ j → j < w → cell mid w a j ≡ 0)
        → IsBlockAdded C.prime w mid now 0 start (unknowns_width H us) (H.dim (C.source e.value) (C.target e.value)) (entry (equation_columns C H us (H.dim (C.source e.value) (C.target e.value)) e.terms).entries)
        → (a j : ℕ) → a < unknowns_width H us → start + H.dim (C.source e.value) (C.target e.value) ≤ j → j < w → cell now w a j ≡ 0
    columns_after mid now after B a j lt ge below = B.outside a j below (λ x y z less. absurd (omega arith)) ∙ after a j lt (omega arith) below

-- a buffer that has the entries of a matrix
module _ {p n m : ℕ} {g : Grid} (G : IsMatrixOf p n m g) (cells : List ℕ) (held : IsHeld n m cells g) where
  pub written_residues : (k : ℕ) → k < n * m → get_or cells k 0 < p
  written_residues = each_place n m (λ k. get_or cells k 0 < p) (λ i j lt below. subst (λ y. y < p) (sym (held.each i j lt below)) (small-at G i j lt below))

  pub written_matrix : matrix_of p n m cells ≡ g
  written_matrix = matrix_ext
      (matrix_by-is p n m (λ i j. get_or cells (i * m + j) 0) (λ i j lt below. subst (λ y. y < p) (sym (held.each i j lt below)) (small-at G i j lt below))) G
      (λ i j lt below. matrix_by-at p n m (λ i j. get_or cells (i * m + j) 0) i j lt below ∙ held.each i j lt below)
