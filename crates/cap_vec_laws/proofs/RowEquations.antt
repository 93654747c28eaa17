-- A system has one matrix and one row of values, and the canonical solution of that row equation, cut into the unknowns, is its one canonical answer.
use Rattle.std.proofs.Common.{◌≡◌, ℕ, zero, suc, ◌+◌, ◌-◌, ◌*◌, ◌/◌, ◌%◌, ◌<◌, ◌≤◌, true, Option, List, [], ◌∷◌, length, take, get_or, refl, sym, ap, ◌∙◌, subst, arith, ⊎_elim, zero-add}
use Rattle.std.specs.Prelude.{Some, None}
use Rattle.std.proofs.lemmas.List.{ext_get_or}
use Rattle.std.proofs.lemmas.Nat.{mul-add-lt, div_below, mod_below}
use Rattle.std.proofs.lemmas.Bool.{cases_lt}
use Rattle.std.proofs.Math.Nat.{div-add-mod'}
use Rattle.cap_field.specs.Residue.{is_tabled}
use Rattle.cap_matrix.specs.Grid.{Grid, IsMatrix, IsMatrixOf, entry, matrix_by}
use Rattle.cap_matrix.specs.Reduced.{IsInSpan, IsSolution}
use Rattle.cap_matrix.proofs.Entries.{matrix_ext, matrix_by-is, matrix_by-at}
use Rattle.cap_reduce.proofs.Solutions.{one_solution, solution_in_span}
use Rattle.cap_laws.specs.Systems.{Nth, IsSystem, AnswersSystem}
use Rattle.cap_laws.specs.Systems.Nth.{here, further}
use Rattle.cap_laws.proofs.Systems.{nth-exists}
use Rattle.cap_laws.specs.declared.values.Equation.{Equation}
use Rattle.cap_laws.specs.declared.values.System.{System}
use Rattle.cap_vec_laws.specs.Vec.{vec_data}
use Rattle.cap_vec_laws.specs.Laws.{IsRowLift, HasRowEquation, RowEquationExists, CanonicalAnswers, OneCanonicalAnswer}
use Rattle.cap_vec_laws.specs.Systems.{cells_of, width_of, system_matrix, values_row, AreEquations, matrices_of, matrices_of_lift}
use Rattle.cap_vec_laws.specs.RowEquation.{IsSystemMatrix, IsValuesRow, IsCut, IsCanonicalAnswer}
use Rattle.cap_vec_laws.proofs.Members.{members, positive}
use Rattle.cap_vec_laws.proofs.Systems.{system-matrix, values-matrix, place_parts, some_below, solves}
use Rattle.cap_vec_laws.proofs.SystemEntries.{cells-within, coefficients-block, system-columns, values-columns}

-- each row belongs to an entry of an unknown, and each column to one of a value
record FoundRow (us : List (ℕ × ℕ)) (k : ℕ) : Type 0 where
  unknown : ℕ
  ends : ℕ × ℕ
  is : Nth us unknown ends
  row : ℕ
  column : ℕ
  high : row < ends.0
  wide : column < ends.1
  at : cells_of (take unknown us) + (row * ends.1 + column) ≡ k

row_found : (us : List (ℕ × ℕ)) (k : ℕ) → k < cells_of us → FoundRow us k
row_found [] k lt = absurd (omega arith)
row_found (a ∷ us) k lt = ⊎_elim
    (λ less.
    let some = some_below k a.0 a.1 less in
    record {
      unknown = zero;
      ends = a;
      is = here;
      row = k / a.1;
      column = k % a.1;
      high = div_below k a.1 a.0 some less;
      wide = mod_below k a.1 some;
      at = zero-add (k / a.1 * a.1 + k % a.1) ∙ div-add-mod' k a.1;
    })
    (λ ge.
    let f = row_found us (k - a.0 * a.1) (omega arith) in
    record { unknown = suc f.unknown; ends = f.ends; is = further f.is; row = f.row; column = f.column; high = f.high; wide = f.wide; at = omega (arith, f.at) })
    (cases_lt k (a.0 * a.1))

record FoundColumn (es : List (Equation Grid)) (k : ℕ) : Type 0 where
  place : ℕ
  equation : Equation Grid
  is : Nth es place equation
  row : ℕ
  column : ℕ
  high : row < equation.value.row_count
  wide : column < equation.value.column_count
  at : width_of (take place es) + (row * equation.value.column_count + column) ≡ k

column_found : (es : List (Equation Grid)) (k : ℕ) → k < width_of es → FoundColumn es k
column_found [] k lt = absurd (omega arith)
column_found (e ∷ es) k lt =
    let a = e.value.row_count in
    let b = e.value.column_count in
    ⊎_elim
    (λ less.
    let some = some_below k a b less in
    record {
      place = zero;
      equation = e;
      is = here;
      row = k / b;
      column = k % b;
      high = div_below k b a some less;
      wide = mod_below k b some;
      at = zero-add (k / b * b + k % b) ∙ div-add-mod' k b;
    })
    (λ ge.
    let f = column_found es (k - a * b) (omega arith) in
    record { place = suc f.place; equation = f.equation; is = further f.is; row = f.row; column = f.column; high = f.high; wide = f.wide; at = omega (arith, f.at) })
    (cases_lt k (a * b))

-- blocks tell the matrix, and the values their row
one_matrix : (p : ℕ) (us : List (ℕ × ℕ)) (es : List (Equation Grid)) (m n : Grid) → IsSystemMatrix p us es m → IsSystemMatrix p us es n → m ≡ n
one_matrix p us es m n M N = matrix_ext M.matrix N.matrix
    (λ i j lt below.
    let f = row_found us i lt in
    let g = column_found es j below in
    let own = λ (x : Grid) (X : IsSystemMatrix p us es x).
    ap (λ z. entry x.entries z j) (sym f.at)
    ∙ ap (λ z. entry x.entries (cells_of (take f.unknown us) + (f.row * f.ends.1 + f.column)) z) (sym g.at)
    ∙ X.block f.unknown g.place f.ends g.equation f.is g.is f.row f.column g.row g.column f.high f.wide g.high g.wide in
    own m M ∙ sym (own n N))

one_row : (es : List (Equation Grid)) (v w : List ℕ) → IsValuesRow es v → IsValuesRow es w → v ≡ w
one_row es v w V W = ext_get_or 0 v w (V.long ∙ sym W.long)
    (λ k lt.
    let f = column_found es k (omega (arith, V.long)) in
    let own = λ (x : List ℕ) (X : IsValuesRow es x). ap (λ z. get_or x z 0) (sym f.at) ∙ X.value f.place f.equation f.is f.row f.column f.high f.wide in
    own v V ∙ sym (own w W))

-- the matrix and the row that the code writes have them
module _ (p : ℕ) (pos : 1 ≤ p) (us : List (ℕ × ℕ)) (es : List (Equation Grid)) (E : AreEquations p us es) where
  pub has_blocks : IsSystemMatrix p us es (system_matrix p us es)
  has_blocks = record {
    matrix = system-matrix p pos us es E;
    block = λ u i a e h k r s q t lr ls lq lt.
        let b = e.value.column_count in
        system-columns p pos us es E i e k (cells_of (take u us) + (r * a.1 + s)) (q * b + t)
        (omega (arith, cells-within h, mul-add-lt r a.1 s a.0 lr ls)) (omega (arith, mul-add-lt q b t e.value.row_count lq lt))
        ∙ coefficients-block p pos us e.value.row_count b u a h r s q t lr ls lq lt e.terms (record { each = (E.each i e k).terms });
  }

  has_values : IsValuesRow es (get_or (values_row p es).entries 0 [])
  has_values =
      let V = values-matrix p pos us es E in
      record {
        long = V.is.shaped.column_many 0 (omega (arith, V.from)) ∙ V.to;
        value = λ i e k q t lq lt.
            let b = e.value.column_count in
            let parts = place_parts b q t lt in
            values-columns p pos us es E i e k (q * b + t) (omega (arith, mul-add-lt q b t e.value.row_count lq lt))
            ∙ ap (λ z. entry e.value.entries z ((q * b + t) % b)) parts.0 ∙ ap (λ z. entry e.value.entries q z) parts.1;
      }

pub row_equation_exists : RowEquationExists
row_equation_exists p t s h =
    let pos = positive p t in
    let E : AreEquations p s.unknowns s.equations = record { each = h.equations } in
    let M = has_blocks p pos s.unknowns s.equations E in
    let V = has_values p pos s.unknowns s.equations E in
    record {
      matrix = system_matrix p s.unknowns s.equations;
      values = get_or (values_row p s.equations).entries 0 [];
      is_matrix = M;
      is_values = V;
      one_matrix = λ m is. one_matrix p s.unknowns s.equations m (system_matrix p s.unknowns s.equations) is M;
      one_row = λ v is. one_row s.equations v (get_or (values_row p s.equations).entries 0 []) is V;
    }

-- the matrices whose cells are y
matrices_of-many : (p : ℕ) (us : List (ℕ × ℕ)) (y : ℕ → ℕ) → length (matrices_of p us y) ≡ length us
matrices_of-many p [] y = refl
matrices_of-many p (a ∷ us) y = ap suc (matrices_of-many p us (λ k. y (a.0 * a.1 + k)))

matrices_of-matrix : (p : ℕ) (us : List (ℕ × ℕ)) (y : ℕ → ℕ) → ((k : ℕ) → k < cells_of us → y k < p) → (u : ℕ) (a : ℕ × ℕ) (x : Grid) → Nth us u a → Nth (matrices_of p us y) u x → IsMatrixOf p a.0 a.1 x
matrices_of-matrix p [] y small u a x q r = elim q [ ]
matrices_of-matrix p (b ∷ us) y small zero a x here here =
    matrix_by-is p b.0 b.1 (λ i j. y (i * b.1 + j)) (λ i j lt below. small (i * b.1 + j) (omega (arith, mul-add-lt i b.1 j b.0 lt below)))
matrices_of-matrix p (b ∷ us) y small (suc u) a x (further q) (further r) =
    matrices_of-matrix p us (λ k. y (b.0 * b.1 + k)) (λ k lt. small (b.0 * b.1 + k) (omega arith)) u a x q r

matrices_of-part : (p : ℕ) (us : List (ℕ × ℕ)) (y : ℕ → ℕ) (u : ℕ) (a : ℕ × ℕ) (x : Grid) → Nth us u a → Nth (matrices_of p us y) u x
    → (r s : ℕ) → r < a.0 → s < a.1 → entry x.entries r s ≡ y (cells_of (take u us) + (r * a.1 + s))
matrices_of-part p [] y u a x q k r s lr ls = elim q [ ]
matrices_of-part p (b ∷ us) y zero a x here here r s lr ls =
    matrix_by-at p b.0 b.1 (λ i j. y (i * b.1 + j)) r s lr ls ∙ ap y (sym (zero-add (r * b.1 + s)))
matrices_of-part p (b ∷ us) y (suc u) a x (further q) (further k) r s lr ls =
    matrices_of-part p us (λ z. y (b.0 * b.1 + z)) u a x q k r s lr ls
    ∙ ap y (let e : b.0 * b.1 + (cells_of (take u us) + (r * a.1 + s)) ≡ b.0 * b.1 + cells_of (take u us) + (r * a.1 + s) = omega arith in e)

-- a row lift of the row of values is the canonical solution
of_lift : (p : ℕ) (us : List (ℕ × ℕ)) (m v : Grid) → IsMatrixOf p (cells_of us) m.column_count m → v.row_count ≡ 1 → (o : Option Grid) → IsRowLift v m o
    → IsCanonicalAnswer p us m (get_or v.entries 0 []) (matrices_of_lift p us o)
of_lift p us m v M high (Some u) l =
    let y = get_or u.entries 0 [] in
    let S = l.rows 0 (omega (arith, high)) in (
      y,
      S,
      record {
        many = matrices_of-many p us (entry u.entries 0);
        matrix = matrices_of-matrix p us (entry u.entries 0) (λ k lt. subst (λ q. get_or y k 0 < q) M.is.prime (S.residues k (omega (arith, M.from))));
        part = matrices_of-part p us (entry u.entries 0);
      },
    )
of_lift p us m v M high None l = subst (λ i. IsInSpan m (get_or v.entries i []) → ⊥) (let e : l.0 ≡ 0 = omega (arith, l.1, high) in e) l.2

pub canonical : (p : ℕ) (t : is_tabled p ≡ true) (s : System ℕ Grid) → IsSystem (vec_data p) s
    → (m : Grid) (v : List ℕ) → IsSystemMatrix p s.unknowns s.equations m → IsValuesRow s.equations v
    → IsCanonicalAnswer p s.unknowns m v (matrices_of_lift p s.unknowns ((members p t).lift (values_row p s.equations) (system_matrix p s.unknowns s.equations)))
canonical p t s h m v M V =
    let pos = positive p t in
    let us = s.unknowns in
    let es = s.equations in
    let E : AreEquations p us es = record { each = h.equations } in
    let W = system-matrix p pos us es E in
    let R = values-matrix p pos us es E in
    let n = system_matrix p us es in
    let r = values_row p es in
    let o = (members p t).lift r n in
    let l = (members p t).lift_rows r n R.is W.is (R.to ∙ sym W.to) in
    let whole : IsMatrixOf p (cells_of us) n.column_count n = record { is = W.is; from = W.from; to = refl } in
    subst (λ x. IsCanonicalAnswer p us x v (matrices_of_lift p us o)) (one_matrix p us es n m (has_blocks p pos us es E) M)
    (subst (λ w. IsCanonicalAnswer p us n w (matrices_of_lift p us o)) (one_row es (get_or r.entries 0 []) v (has_values p pos us es E) V) (of_lift p us n r whole R.from o l))

-- two lists with the same element at each place
nth_ext : {A : Type 0} (xs ys : List A) → length xs ≡ length ys → ((n : ℕ) (x y : A) → Nth xs n x → Nth ys n y → x ≡ y) → xs ≡ ys
nth_ext [] [] e h = refl
nth_ext [] (y ∷ ys) e h = absurd (omega (arith, e))
nth_ext (x ∷ xs) [] e h = absurd (omega (arith, e))
nth_ext (x ∷ xs) (y ∷ ys) e h =
    ap (λ z. z ∷ xs) (h zero x y here here) ∙ ap (λ zs. y ∷ zs) (nth_ext xs ys (omega (arith, e)) (λ n a b q r. h (suc n) a b (further q) (further r)))

nth_below : {A : Type 0} {xs : List A} {n : ℕ} {x : A} → Nth xs n x → n < length xs
nth_below here = omega arith
nth_below (further q) = omega (arith, nth_below q)

one_cut : (p : ℕ) (us : List (ℕ × ℕ)) (y : List ℕ) (xs zs : List Grid) → IsCut p us y xs → IsCut p us y zs → xs ≡ zs
one_cut p us y xs zs X Z = nth_ext xs zs (X.many ∙ sym Z.many)
    (λ n x z q r.
    let f = nth-exists us n (omega (arith, nth_below q, X.many)) in
    matrix_ext (X.matrix n f.0 x f.1 q) (Z.matrix n f.0 z f.1 r)
    (λ i j lt below. X.part n f.0 x f.1 q i j lt below ∙ sym (Z.part n f.0 z f.1 r i j lt below)))

pub one_canonical_answer : OneCanonicalAnswer
one_canonical_answer p t us m v M (Some xs) (Some zs) a b =
    ap Some (one_cut p us a.0 xs zs a.2 (subst (λ y. IsCut p us y zs) (one_solution p t m v b.0 a.0 M b.1 a.1) b.2))
one_canonical_answer p t us m v M (Some xs) None a b = absurd (b (solution_in_span m v a.0 a.1))
one_canonical_answer p t us m v M None (Some zs) a b = absurd (a (solution_in_span m v b.0 b.1))
one_canonical_answer p t us m v M None None a b = refl

pub canonical_answers : CanonicalAnswers
canonical_answers p t s h m v M V o a =
    subst (λ x. AnswersSystem (vec_data p) s x)
    (one_canonical_answer p t s.unknowns m v M.matrix.is (matrices_of_lift p s.unknowns ((members p t).lift (values_row p s.equations) (system_matrix p s.unknowns s.equations))) o (canonical p t s h m v M V) a)
    (solves p t s h)
