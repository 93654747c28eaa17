-- The lift that is found row by row: that there is one, that it is a lift, and that it is the only one.
use Rattle.std.proofs.Common.{◌≡◌, ℕ, ◌<◌, ◌⊎◌, true, List, [], length, get_or, refl, sym, ap, ◌∙◌, subst, arith, inl, inr, ⊎_elim}
use Rattle.std.specs.Prelude.{Some, None}
use Rattle.cap_field.specs.Residue.{is_tabled}
use Rattle.cap_matrix.specs.Grid.{Grid, IsMatrix, IsMatrixOf, matrix_by}
use Rattle.cap_matrix.specs.Reduced.{IsInSpan, IsSolution}
use Rattle.cap_matrix.proofs.Rows.{row_by_is, rows_by-at}
use Rattle.cap_matrix.proofs.Entries.{matrix_ext, matrix_by-is}
use Rattle.cap_reduce.proofs.Reduced.{choose}
use Rattle.cap_reduce.proofs.Solutions.{solution_exists, one_solution}
use Rattle.cap_reduce.proofs.Decided.{all_below, solved_or_obstructed, obstruction_refutes}
use Rattle.cap_vec_laws.specs.Laws.{RowLiftExists, RowLiftIsLift, OneRowLift}
use Rattle.cap_vec_laws.proofs.Lifts.{lift_by_rows, no_lift_by_row}

-- whether a row is in the span
span_decided : (p : ℕ) → is_tabled p ≡ true → (t f : Grid) → IsMatrix p t → IsMatrix p f → t.column_count ≡ f.column_count → (i : ℕ) → i < t.row_count
    → IsInSpan f (get_or t.entries i []) ⊎ (IsInSpan f (get_or t.entries i []) → ⊥)
span_decided p h t f T F meet i lt =
    ⊎_elim (λ s. inl s) (λ o. inr (obstruction_refutes f (get_or t.entries i []) o.column o.is))
    (solved_or_obstructed p h f (get_or t.entries i []) F (T.shaped.column_many i lt ∙ meet) (λ j below. T.residues i j lt (omega arith)))

-- lists that are rows of a matrix
row_of_rows : (p n m : ℕ) (x : ℕ → List ℕ) → ((i : ℕ) → i < n → length (x i) ≡ m) → (i : ℕ) → i < n → get_or (matrix_by p n m (λ i j. get_or (x i) j 0)).entries i [] ≡ x i
row_of_rows p n m x long i lt = rows_by-at n m (λ i j. get_or (x i) j 0) i lt ∙ sym (row_by_is m (λ j. get_or (x i) j 0) (x i) (long i lt) (λ j below. refl))

pub row_lift_exists : RowLiftExists
row_lift_exists p h t f T F meet =
    let n = t.row_count in
    let m = f.row_count in
    ⊎_elim
    (λ inside.
    let c = choose n [] (λ i x. IsSolution f (get_or t.entries i []) x) (λ i lt. let s = solution_exists p h f (get_or t.entries i []) F (inside i lt) in (s.row, s.is)) in
    let u = matrix_by p n m (λ i j. get_or (c.0 i) j 0) in
    let U = matrix_by-is p n m (λ i j. get_or (c.0 i) j 0) (λ i j lt below. subst (λ q. get_or (c.0 i) j 0 < q) F.prime ((c.1 i lt).residues j below)) in (
      Some u,
      record {
        shaped = subst (λ q. IsMatrix q u) (sym F.prime) U.is;
        high = refl;
        wide = refl;
        rows = λ i lt. subst (λ x. IsSolution f (get_or t.entries i []) x) (sym (row_of_rows p n m c.0 (λ i lt. (c.1 i lt).long) i lt)) (c.1 i lt);
      },
    ))
    (λ o. (None, o))
    (all_below n (λ i. IsInSpan f (get_or t.entries i [])) (λ i lt. span_decided p h t f T F meet i lt))

pub row_lift_is_lift : RowLiftIsLift
row_lift_is_lift p h t f (Some u) T F meet s =
    lift_by_rows p h t f u T F (subst (λ q. IsMatrix q u) F.prime s.shaped) meet s.high s.wide (λ i lt. (s.rows i lt).gives)
row_lift_is_lift p h t f None T F meet s = no_lift_by_row p t f T F meet s.0 s.1 s.2

in_span : (f : Grid) (v x : List ℕ) → IsSolution f v x → IsInSpan f v
in_span f v x s = (x, s.long, sym s.gives)

pub one_row_lift : OneRowLift
one_row_lift p h t f (Some u) (Some w) T F meet s q =
    let U : IsMatrixOf p t.row_count f.row_count u = record { is = subst (λ z. IsMatrix z u) F.prime s.shaped; from = s.high; to = s.wide } in
    let W : IsMatrixOf p t.row_count f.row_count w = record { is = subst (λ z. IsMatrix z w) F.prime q.shaped; from = q.high; to = q.wide } in
    ap Some (matrix_ext U W (λ i j lt below.
    ap (λ r. get_or r j 0) (one_solution p h f (get_or t.entries i []) (get_or u.entries i []) (get_or w.entries i []) F (s.rows i lt) (q.rows i lt))))
one_row_lift p h t f (Some u) None T F meet s q = absurd (q.2 (in_span f (get_or t.entries q.0 []) (get_or u.entries q.0 []) (s.rows q.0 q.1)))
one_row_lift p h t f None (Some w) T F meet s q = absurd (s.2 (in_span f (get_or t.entries s.0 []) (get_or w.entries s.0 []) (q.rows s.0 s.1)))
one_row_lift p h t f None None T F meet s q = refl
