-- The solution of a system is its canonical answer, said by blocks.
use Rattle.std.proofs.Common.{◌≡◌, ℕ, zero, suc, ◌+◌, ◌*◌, ◌/◌, ◌%◌, ◌<◌, true, Option, List, [], ◌∷◌, ◌++◌, length, take, drop, get_or, refl, sym, ap, ◌∙◌, subst, arith, length-append, zero-add}
use Rattle.std.specs.Prelude.{Some, None}
use Rattle.std.proofs.lemmas.List.{get_or_append_left, get_or-append-add, get_or-take, get_or-drop}
use Rattle.std.proofs.lemmas.Nat.{mul-add-lt, div-mul-add, mod-mul-add}
use Rattle.cap_field.specs.Residue.{is_tabled}
use Rattle.cap_matrix.specs.Grid.{Grid, entry, zero_of, sum_of, stacked_of, beside_of}
use Rattle.cap_matrix.specs.Reduced.{IsInSpan, IsSolution}
use Rattle.cap_matrix.proofs.Entries.{matrix_by-at}
use Rattle.cap_matrix.proofs.Rows.{length-row_by, row_by-at}
use Rattle.cap_laws.specs.Systems.{Nth, IsSystem}
use Rattle.cap_laws.specs.Systems.Nth.{here, further}
use Rattle.cap_laws.specs.declared.values.Term.{Term}
use Rattle.cap_laws.specs.declared.values.Equation.{Equation}
use Rattle.cap_laws.specs.declared.values.System.{System}
use Rattle.cap_homlaw.specs.Rows.{AreResidues}
use Rattle.cap_homlaw.specs.Hom.{hom_matrix}
use Rattle.cap_vec_laws.specs.Vec.{vec_data}
use Rattle.cap_vec_laws.specs.Systems.{cells_of, width_of, term_rows, coefficients_of, AreTerms, AreEquations}
use Rattle.cap_vec_laws.specs.Systems as blocks
use Rattle.cap_vec_laws.specs.RowEquation.{IsSystemMatrix, IsValuesRow, IsCut}
use Rattle.cap_vec_laws.specs.RowEquation as blocks_answer
use Rattle.cap_vec_laws.proofs.Arrows.{as-matrix}
use Rattle.cap_vec_laws.proofs.Linear.{vec_linear}
use Rattle.cap_vec_laws.proofs.Members.{positive}
use Rattle.cap_vec_laws.proofs.Systems.{terms_rest, equations_rest}
use Rattle.cap_vec_laws.proofs.RowEquations.{has_blocks, row_equation_exists}
use Rattle.cap_vec_hom_laws.specs.Homs.{cells_row, vec_hom}
use Rattle.cap_vec_hom_laws.proofs.HomLaws.{vec_has_hom, hom_is_kronecker}
use Rattle.cap_solve_laws.specs.Systems.{unknowns_width, in_rows, equation_columns, system_matrix, values_row, morphisms_of}
use Rattle.cap_solve_laws.specs.Answers.{IsCanonicalAnswer}
use Rattle.cap_solve_laws.proofs.Equations.{AreArrows, morphisms-are}
use Rattle.cap_solve_laws.proofs.Solutions.{solution_of, arrow-at, matrix-is, solution-canonical}
use Rattle.cap_vec.specs.Laws.{SolutionIsCanonical}

-- the matrix of a system is the same by the structure and by blocks
module _ (p : ℕ) (t : is_tabled p ≡ true) where
  width-same : (us : List (ℕ × ℕ)) → unknowns_width (vec_hom p) us ≡ cells_of us
  width-same [] = refl
  width-same (u ∷ us) = ap (λ n. u.0 * u.1 + n) (width-same us)

  in_rows-same : (n : ℕ) (us : List (ℕ × ℕ)) (u : ℕ) (k : Grid) → in_rows (vec_hom p) p n us u k ≡ blocks.in_rows p n us u k
  in_rows-same n [] u k = refl
  in_rows-same n (a ∷ us) zero k = ap (λ w. stacked_of k (zero_of p w n)) (width-same us)
  in_rows-same n (a ∷ us) (suc u) k = ap (λ m. stacked_of (zero_of p (a.0 * a.1) n) m) (in_rows-same n us u k)

  columns-same : (us : List (ℕ × ℕ)) (n a b : ℕ) (ts : List (Term Grid)) → AreTerms p us a b ts → equation_columns (vec_data p) (vec_hom p) us n ts ≡ coefficients_of p us n ts
  columns-same us n a b [] h = ap (λ w. zero_of p w n) (width-same us)
  columns-same us n a b (x ∷ ts) h =
      let T = h.each 0 x here in
      let k = hom_matrix (vec_data p) (vec_hom p) x.left x.right in
      ap (λ m. sum_of m (equation_columns (vec_data p) (vec_hom p) us n ts))
      (in_rows-same n us x.unknown k ∙ ap (λ m. blocks.in_rows p n us x.unknown m) ((hom_is_kronecker p t).law (as-matrix T.left) (as-matrix T.right)))
      ∙ ap (λ m. sum_of (term_rows p us n x) m) (columns-same us n a b ts (terms_rest h))

  matrix-same : (us : List (ℕ × ℕ)) (es : List (Equation Grid)) → AreEquations p us es → system_matrix (vec_data p) (vec_hom p) us es ≡ blocks.system_matrix p us es
  matrix-same us [] h = ap (λ w. zero_of p w 0) (width-same us)
  matrix-same us (e ∷ es) h =
      let a = e.value.row_count in
      let b = e.value.column_count in
      ap (λ m. beside_of m (system_matrix (vec_data p) (vec_hom p) us es)) (columns-same us (a * b) a b e.terms (record { each = (h.each 0 e here).terms }))
      ∙ ap (λ m. beside_of (coefficients_of p us (a * b) e.terms) m) (matrix-same us es (equations_rest h))

-- the row of the values has their cells
values-long : (p : ℕ) (es : List (Equation Grid)) → length (values_row (vec_hom p) es) ≡ width_of es
values-long p [] = refl
values-long p (e ∷ es) =
    let a = e.value.row_count in
    let b = e.value.column_count in
    let rest = values_row (vec_hom p) es in
    length-append (cells_row e.value) rest
    ∙ ap (λ n. n + length rest) (length-row_by (a * b) (λ k. entry e.value.entries (k / b) (k % b)))
    ∙ ap (λ n. a * b + n) (values-long p es)

values-at : (p : ℕ) (es : List (Equation Grid)) (i : ℕ) (e : Equation Grid) → Nth es i e → (q s : ℕ) → q < e.value.row_count → s < e.value.column_count
    → get_or (values_row (vec_hom p) es) (width_of (take i es) + (q * e.value.column_count + s)) 0 ≡ entry e.value.entries q s
values-at p [] i e n q s lq ls = elim n [ ]
values-at p (x ∷ es) zero e here q s lq ls =
    let a = e.value.row_count in
    let b = e.value.column_count in
    let f = λ (k : ℕ). entry e.value.entries (k / b) (k % b) in
    let k = q * b + s in
    let inside : k < a * b = omega (arith, mul-add-lt q b s a lq ls) in
    ap (λ z. get_or (cells_row e.value ++ values_row (vec_hom p) es) z 0) (zero-add k)
    ∙ get_or_append_left (cells_row e.value) (values_row (vec_hom p) es) 0 k (omega (arith, length-row_by (a * b) f, inside))
    ∙ row_by-at (a * b) f k inside
    ∙ ap (λ r. entry e.value.entries r (k % b)) (div-mul-add q b s ls) ∙ ap (λ c. entry e.value.entries q c) (mod-mul-add q b s ls)
values-at p (x ∷ es) (suc i) e (further n) q s lq ls =
    let a = x.value.row_count in
    let b = x.value.column_count in
    let first = cells_row x.value in
    let rest = values_row (vec_hom p) es in
    let w = width_of (take i es) + (q * e.value.column_count + s) in
    let long : length first ≡ a * b = length-row_by (a * b) (λ k. entry x.value.entries (k / b) (k % b)) in
    let place : a * b + width_of (take i es) + (q * e.value.column_count + s) ≡ length first + w = omega (arith, long) in
    ap (λ z. get_or (first ++ rest) z 0) place ∙ get_or-append-add first rest w 0 ∙ values-at p es i e n q s lq ls

values-are : (p : ℕ) (es : List (Equation Grid)) → IsValuesRow es (values_row (vec_hom p) es)
values-are p es = record { long = values-long p es; value = λ i e n q s lq ls. values-at p es i e n q s lq ls }

-- the matrices of a row are its cells, cut into the unknowns
cut-many : (p : ℕ) (us : List (ℕ × ℕ)) (y : List ℕ) → length (morphisms_of (vec_hom p) us y) ≡ length us
cut-many p [] y = refl
cut-many p (u ∷ us) y = ap suc (cut-many p us (drop (u.0 * u.1) y))

cut-part : (p : ℕ) (us : List (ℕ × ℕ)) (y : List ℕ) (u : ℕ) (a : ℕ × ℕ) (x : Grid) → Nth us u a → Nth (morphisms_of (vec_hom p) us y) u x
    → (r s : ℕ) → r < a.0 → s < a.1 → entry x.entries r s ≡ get_or y (cells_of (take u us) + (r * a.1 + s)) 0
cut-part p [] y u a x q k r s lr ls = elim q [ ]
cut-part p (b ∷ us) y zero a x here here r s lr ls =
    let n = b.0 * b.1 in
    let k = r * b.1 + s in
    let inside : k < n = omega (arith, mul-add-lt r b.1 s b.0 lr ls) in
    matrix_by-at p b.0 b.1 (λ i j. get_or (take n y) (i * b.1 + j) 0) r s lr ls ∙ get_or-take n y k 0 inside ∙ ap (λ z. get_or y z 0) (sym (zero-add k))
cut-part p (b ∷ us) y (suc u) a x (further q) (further k) r s lr ls =
    let n = b.0 * b.1 in
    let c = cells_of (take u us) in
    let place : n + (c + (r * a.1 + s)) ≡ n + c + (r * a.1 + s) = omega arith in
    cut-part p us (drop n y) u a x q k r s lr ls ∙ get_or-drop n y (c + (r * a.1 + s)) 0 ∙ ap (λ z. get_or y z 0) place

cut-is : (p : ℕ) (us : List (ℕ × ℕ)) (y : List ℕ) → AreArrows (vec_data p) us (morphisms_of (vec_hom p) us y) → IsCut p us y (morphisms_of (vec_hom p) us y)
cut-is p us y A = record {
  many = cut-many p us y;
  matrix = λ u a x q k. as-matrix (arrow-at {a = a.0} {b = a.1} A q k);
  part = λ u a x q k r s lr ls. cut-part p us y u a x q k r s lr ls;
}

-- so the canonical answer by the structure is the one by blocks
module _ (p : ℕ) (t : is_tabled p ≡ true) (s : System ℕ Grid) (h : IsSystem (vec_data p) s) where
  by_blocks : IsSystemMatrix p s.unknowns s.equations (system_matrix (vec_data p) (vec_hom p) s.unknowns s.equations)
  by_blocks =
      let E : AreEquations p s.unknowns s.equations = record { each = h.equations } in
      subst (λ g. IsSystemMatrix p s.unknowns s.equations g) (sym (matrix-same p t s.unknowns s.equations E)) (has_blocks p (positive p t) s.unknowns s.equations E)

  answer-same : (m : Grid) (v : List ℕ) → system_matrix (vec_data p) (vec_hom p) s.unknowns s.equations ≡ m → values_row (vec_hom p) s.equations ≡ v
      → (o : Option (List Grid)) → IsCanonicalAnswer (vec_data p) (vec_hom p) s o → blocks_answer.IsCanonicalAnswer p s.unknowns m v o
  answer-same m v em ev (Some xs) a =
      let M = system_matrix (vec_data p) (vec_hom p) s.unknowns s.equations in
      let V = values_row (vec_hom p) s.equations in
      let S = a.1 in
      let W = matrix-is (vec_linear p t) (vec_has_hom p t) s h in
      let R : AreResidues p (unknowns_width (vec_hom p) s.unknowns) a.0 = record {
        long = S.long ∙ W.from;
        residues = λ k lt. subst (λ q. get_or a.0 k 0 < q) W.is.prime (S.residues k (omega (arith, lt, W.from)));
      } in (
        a.0,
        subst (λ g. IsSolution g v a.0) em (subst (λ w. IsSolution M w a.0) ev S),
        subst (λ zs. IsCut p s.unknowns a.0 zs) (sym a.2)
            (cut-is p s.unknowns a.0 (morphisms-are (vec_linear p t) (vec_has_hom p t) s.unknowns a.0 h.unknowns R)),
      )
  answer-same m v em ev None a =
      let M = system_matrix (vec_data p) (vec_hom p) s.unknowns s.equations in
      subst (λ g. IsInSpan g v → ⊥) em (subst (λ w. IsInSpan M w → ⊥) ev a)

pub solution-is-canonical : SolutionIsCanonical
solution-is-canonical p t s h m v M V =
    let X = row_equation_exists p t s h in
    let own = system_matrix (vec_data p) (vec_hom p) s.unknowns s.equations in
    let row = values_row (vec_hom p) s.equations in
    answer-same p t s h m v
    (X.one_matrix own (by_blocks p t s h) ∙ sym (X.one_matrix m M))
    (X.one_row row (values-are p s.equations) ∙ sym (X.one_row v V))
    (solution_of (vec_data p) (vec_hom p) s)
    (solution-canonical (vec_linear p t) (vec_has_hom p t) s h)
