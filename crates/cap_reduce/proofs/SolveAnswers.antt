-- What the eliminations of a system tell: the canonical solution, or that there is none, and an obstruction.
use Rattle.std.proofs.Common.{◌≡◌, ◌≢◌, ℕ, ◌+◌, ◌-◌, ◌*◌, ◌%◌, ◌<◌, ◌≤◌, cond, ltb, List, [], Result, Ok, Err, length, get_or, refl, sym, ap, ◌∙◌, subst, arith, ⊎_elim}
use Rattle.std.specs.Prelude.{IfOk}
use Rattle.std.proofs.lemmas.Nat.{mul-add-lt}
use Rattle.std.proofs.lemmas.Bool.{cases_lt, cond_below, cond_above}
use Rattle.std.proofs.Math.Nat.{mod-eq_of_lt, zero-mod, mul-zero, zero-mul, mul-one}
use Rattle.cap_matrix.specs.Grid.{Grid, IsMatrix, IsMatrixOf, entry, total, row_by}
use Rattle.cap_matrix.specs.Reduced.{InSpan, IsInSpan, IsReducedBy, IsSolution, IsObstruction}
use Rattle.cap_field.proofs.Fermat.{tabled_range}
use Rattle.cap_matrix.proofs.Entries.{small-at}
use Rattle.cap_matrix.proofs.Sums.{total-same, total-zeros, total-one}
use Rattle.cap_matrix.proofs.Rows.{length-row_by, row_by-at, row_by_is}
use Rattle.cap_matrix.specs.Buffer.{IsBufferOf}
use Rattle.cap_reduce.specs.declared.solving.SolvedRows.{SolvedRows}
use Rattle.cap_reduce.specs.declared.solving.SolvedRows.TheVariants.{All, Unsolved}
use Rattle.cap_reduce.specs.Answers.{AreSolutions, IsFirstOutside, AreSolved}
use Rattle.cap_reduce.proofs.Made.{held}
use Rattle.cap_reduce.specs.Cleared.{IsCleared, IsSameSpan}
use Rattle.cap_reduce.specs.NullTable.{IsScanned, IsNullColumn, IsSystemTable, IsNoneLeft, IsFirstLeft, AreReadOff, null_value}
use Rattle.cap_reduce.specs.Flat.{cell}
use Rattle.cap_reduce.proofs.Spans.{span_same, span_within}
use Rattle.cap_reduce.proofs.Kept.{reduced_at_end, span_at_end}
use Rattle.cap_reduce.proofs.Reduced.{span_of_same}
use Rattle.cap_reduce.proofs.Null.{relation_in_span}
use Rattle.cap_reduce.proofs.NullBasis.{span-in, span-out}
use Rattle.cap_reduce.proofs.Columns.{factor, factor_at_lead_is, factor_off_leads}
use Rattle.cap_reduce.proofs.Unique.{find_among}
use Rattle.cap_reduce.proofs.Solutions.{column_of_member, lead_is_outside, solution_in_span}
use Rattle.cap_reduce.proofs.Leads.{null_value-small}
use Rattle.cap_reduce.proofs.NullColumns.{row_is_null, span_from_nulls}

-- the reduced form of M, and a scan of its leads
module _ {p n w : ℕ} {m : Grid} (v y : List ℕ) (r : ℕ) (first u : ℕ → ℕ → ℕ) (lead place free : ℕ → ℕ) (big : 2 ≤ p) (M : IsMatrixOf p n w m)
    (same : (i j : ℕ) → i < n → j < w → first i j ≡ entry m.entries i j)
    (span : IsSameSpan p n w first u) (cleared : IsCleared p n w u lead r w) (scan : IsScanned r lead place free r w) where
  reduced : IsReducedBy p r w u lead
  reduced = reduced_at_end p n w u lead r cleared

  rows_inside : (i : ℕ) → i < n → InSpan p r w u (entry m.entries i)
  rows_inside i lt =
      span_same p r w u (first i) (entry m.entries i) (span_within p r w u n u (first i) (span_at_end p n w u lead r cleared) (span.back i lt))
      (λ j below. ap (λ z. z % p) (same i j lt below))

  pub obstruction_of_table : (f : ℕ) → length y ≡ w → IsNullColumn p r w u place (λ c. get_or v c 0) f y → IsObstruction m v y
  obstruction_of_table f long c = record {
    long = long ∙ sym M.to;
    residues = λ j lt. let inner : j < w = omega (arith, M.to) in
        subst (λ q. get_or y j 0 < q) (sym M.is.prime) (subst (λ z. z < p) (sym (c.column j inner)) (null_value-small p r u place f j big));
    null = λ i lt. let inner : i < n = omega (arith, M.from) in
        ap (λ q. total m.column_count (λ j. entry m.entries i j * get_or y j 0) % q) M.is.prime
        ∙ ap (λ k. total k (λ j. entry m.entries i j * get_or y j 0) % p) M.to
        ∙ ap (λ z. z % p) (total-same w (λ j. entry m.entries i j * get_or y j 0) (λ j. entry m.entries i j * null_value p r u place f j) (λ j below. ap (λ z. entry m.entries i j * z) (c.column j below)))
        ∙ relation_in_span p r w u (entry m.entries i) (null_value p r u place f) (rows_inside i inner)
        (λ a la. row_is_null p r w u lead place free big reduced scan f c.inside c.free a la);
    some = λ z. c.some
        (sym (ap (λ q. total m.column_count (λ j. get_or v j 0 * get_or y j 0) % q) M.is.prime
        ∙ ap (λ k. total k (λ j. get_or v j 0 * get_or y j 0) % p) M.to) ∙ z);
  }

  pub in_span_of_table : length v ≡ w → ((j : ℕ) → j < w → get_or v j 0 < p)
      → ((f : ℕ) → f < w → r ≤ place f → total w (λ c. get_or v c 0 * null_value p r u place f c) % p ≡ 0) → IsInSpan m v
  in_span_of_table long small nulls =
      span-out M v long small
      (span_within p n w (entry m.entries) r u (λ j. get_or v j 0)
      (λ a la. span_of_same p n w first (entry m.entries) (u a) (λ i j under below. sym (same i j under below)) (span.there a (omega (arith, cleared.few))))
      (span_from_nulls p r w u lead place free big reduced scan (λ j. get_or v j 0) nulls))

-- the transpose of M in the first n of d columns, reduced there: r rows of u have leads, and the others are 0 in these columns
module _ {p n w : ℕ} {m : Grid} (r d : ℕ) (first u : ℕ → ℕ → ℕ) (lead : ℕ → ℕ) (big : 2 ≤ p) (M : IsMatrixOf p n w m) (room : n ≤ d)
    (turned : (j i : ℕ) → j < w → i < n → first j i ≡ entry m.entries i j) (span : IsSameSpan p w d first u) (cleared : IsCleared p w d u lead r n) where
  front : IsCleared p w n u lead r n
  front = record {
    few = cleared.few;
    residues = λ i c lt below. cleared.residues i c lt (omega arith);
    inside = cleared.inside;
    rising = cleared.rising;
    before = cleared.before;
    one = cleared.one;
    clear = cleared.clear;
    under = cleared.under;
  }

  narrow : IsReducedBy p r n u lead
  narrow = reduced_at_end p w n u lead r front

  there : (a : ℕ) → a < r → InSpan p w n (λ j i. entry m.entries i j) (u a)
  there a la =
      let s = span.there a (omega (arith, cleared.few)) in
      (s.0, λ i lt. ap (λ z. z % p) (total-same w (λ j. s.0 j * entry m.entries i j) (λ j. s.0 j * first j i) (λ j below. ap (λ z. s.0 j * z) (sym (turned j i below lt)))) ∙ s.1 i (omega arith))

  back : (j : ℕ) → j < w → InSpan p r n u (λ i. entry m.entries i j)
  back j lt =
      let s = span.back j lt in
      let t = span_within p r n u w u (first j) (span_at_end p w n u lead r front) (s.0, λ i below. s.1 i (omega arith)) in
      (t.0, λ i below. t.1 i below ∙ ap (λ z. z % p) (turned j i lt below))

  -- v stands in column e
  module _ (v : List ℕ) (e : ℕ) (inside : e < d) (long : length v ≡ w) (small : (j : ℕ) → j < w → get_or v j 0 < p) (last : (j : ℕ) → j < w → first j e ≡ get_or v j 0) where
    -- a row that is 0 in the first columns and not in column e
    pub outside_of_table : (a : ℕ) → r ≤ a → a < w → u a e ≢ 0 → IsInSpan m v → ⊥
    outside_of_table a ra aw some s =
        let t = span-in M v s in
        let gives : total n (λ c. t.0 c * u a c) % p ≡ u a e % p =
        column_of_member p w d first (u a) t.0 n e (span.there a aw) inside room
        (λ j lt. ap (λ z. z % p) (total-same n (λ c. t.0 c * first j c) (λ c. t.0 c * entry m.entries c j) (λ c below. ap (λ z. t.0 c * z) (turned j c lt below)))
        ∙ t.1 j lt ∙ ap (λ z. z % p) (sym (last j lt))) in
        some (sym (mod-eq_of_lt (cleared.residues a e aw inside)) ∙ sym gives
        ∙ ap (λ z. z % p) (total-zeros n (λ c. t.0 c * u a c) (λ c below. ap (λ z. t.0 c * z) (cleared.under a c ra aw below) ∙ mul-zero (t.0 c))) ∙ zero-mod p)

    module _ (none : (a : ℕ) → r ≤ a → a < w → u a e ≡ 0) where
      -- the entries of column e at the leads, and 0 elsewhere
      pub solution_of_table : (x : List ℕ) → length x ≡ n → ((a : ℕ) → a < r → get_or x (lead a) 0 ≡ u a e)
          → ((i : ℕ) → i < n → ((a : ℕ) → a < r → lead a ≢ i) → get_or x i 0 ≡ 0) → IsSolution m v x
      solution_of_table x xlong on_lead off_lead =
          let y = λ (i : ℕ). get_or x i 0 in
          let solves : (a : ℕ) → a < w → total n (λ c. y c * u a c) ≡ u a e =
          λ a aw. ⊎_elim
          (λ la. total-one n (lead a) (λ c. y c * u a c) (cleared.inside a la)
          (λ c lt ne. ⊎_elim
          (λ f. ap (λ z. y c * z) (ap (u a) (sym f.2) ∙ cleared.clear a f.0 aw f.1 (λ q. ne (sym f.2 ∙ ap lead (sym q)))) ∙ mul-zero (y c))
          (λ g. ap (λ z. z * u a c) (off_lead c lt g) ∙ zero-mul (u a c))
          (find_among lead r c))
          ∙ ap (λ z. y (lead a) * z) (cleared.one a la) ∙ mul-one (y (lead a)) ∙ on_lead a la)
          (λ ra. total-zeros n (λ c. y c * u a c) (λ c below. ap (λ z. y c * z) (cleared.under a c ra aw below) ∙ mul-zero (y c)) ∙ sym (none a ra aw))
          (cases_lt a r) in
          record {
            long = xlong ∙ sym M.from;
            residues = λ i lt. let inner : i < n = omega (arith, M.from) in
                subst (λ q. y i < q) (sym M.is.prime)
                (⊎_elim
                (λ f. subst (λ z. y z < p) f.2 (subst (λ z. z < p) (sym (on_lead f.0 f.1)) (cleared.residues f.0 e (omega (arith, cleared.few, f.1)) inside)))
                (λ g. subst (λ z. z < p) (sym (off_lead i inner g)) (let q : 0 < p = omega arith in q))
                (find_among lead r i));
            gives = sym (row_by_is m.column_count (λ j. total m.row_count (λ i. y i * entry m.entries i j) % m.prime) v (long ∙ sym M.to)
                (λ j lt. let inner : j < w = omega (arith, M.to) in
                sym (ap (λ q. total m.row_count (λ i. y i * entry m.entries i j) % q) M.is.prime
                ∙ ap (λ k. total k (λ i. y i * entry m.entries i j) % p) M.from
                ∙ ap (λ z. z % p) (total-same n (λ i. y i * entry m.entries i j) (λ i. y i * first j i) (λ i below. ap (λ z. y i * z) (sym (turned j i inner below))))
                ∙ column_of_member p w d u (first j) y n e (span.back j inner) inside room (λ a la. ap (λ z. z % p) (solves a la))
                ∙ ap (λ z. z % p) (last j inner) ∙ mod-eq_of_lt (small j inner))));
            bare = λ i lt redundant. let inner : i < n = omega (arith, M.from) in ⊎_elim
                (λ f. absurd (lead_is_outside p n w r (entry m.entries) u lead big narrow there back f.0 f.1
                (subst (λ z. InSpan p z w (entry m.entries) (entry m.entries z)) (sym f.2)
                (subst (λ q. InSpan q i w (entry m.entries) (entry m.entries i)) M.is.prime (subst (λ k. InSpan m.prime i k (entry m.entries) (entry m.entries i)) M.to redundant)))))
                (λ g. off_lead i inner g)
                (find_among lead r i);
          }

      pub in_span_of_column : IsInSpan m v
      in_span_of_column =
          let x = row_by n (factor u lead r e) in
          let at = λ (i : ℕ) (lt : i < n). row_by-at n (factor u lead r e) i lt in
          solution_in_span m v x
          (solution_of_table x (length-row_by n (factor u lead r e))
          (λ a la. at (lead a) (cleared.inside a la) ∙ factor_at_lead_is p r n u lead e a narrow la)
          (λ i lt g. at i lt ∙ factor_off_leads u lead r e i g))

-- some rows of residues in a flat buffer
abbrev pub row_in : ℕ → List ℕ → ℕ → List ℕ
row_in w rows i = row_by w (cell rows w i)

-- a buffer with the transpose beside the columns of rows, at counts of one's own
pub record IsSystem (p n w k : ℕ) (m : Grid) (rows t : List ℕ) : Type 0 where
  pub big : 2 ≤ p
  pub matrix : IsMatrixOf p n w m
  pub table : IsSystemTable n w k m rows t
  pub wide : length rows ≡ k * w
  pub small : (q : ℕ) → q < k * w → get_or rows q 0 < p

pub system : (p n w k : ℕ) (m : Grid) (rows t : List ℕ) → m.prime ≡ p → m.row_count ≡ n → m.column_count ≡ w → IsMatrix m.prime m → IsSystemTable m.row_count m.column_count k m rows t
    → length rows ≡ k * m.column_count → ((j : ℕ) → j < length rows → get_or rows j 0 < m.prime) → IsSystem p n w k m rows t
system p n w k m rows t ep en ew is table wide small = record {
  big = omega (arith, (tabled_range m.prime table.tabled).0, ep);
  matrix = record { is = subst (λ q. IsMatrix q m) ep is; from = en; to = ew };
  table = subst (λ z. IsSystemTable n z k m rows t) ew (subst (λ z. IsSystemTable z m.column_count k m rows t) en table);
  wide = wide ∙ ap (λ z. k * z) ew;
  small = λ j lt. omega (arith, small j (omega (arith, wide, ap (λ z. k * z) ew)), ep);
}

module _ (p n w k : ℕ) (m : Grid) (rows t : List ℕ) (h : IsSystem p n w k m rows t) where
  cell-small : (i j : ℕ) → i < k → j < w → cell rows w i j < p
  cell-small i j lt below = h.small (i * w + j) (omega (arith, mul-add-lt i w j k lt below))

  -- its cells are residues
  pub system-small : (j i : ℕ) → j < w → i < n + k → cell t (n + k) j i < p
  system-small j i lt below = ⊎_elim
      (λ less. subst (λ z. z < p) (sym (h.table.turned j i lt less)) (small-at h.matrix i j less lt))
      (λ ge. let e : n + (i - n) ≡ i = omega arith in
      subst (λ q. cell t (n + k) j q < p) e (subst (λ z. z < p) (sym (h.table.beside j (i - n) lt (omega arith))) (cell-small (i - n) j (omega arith) lt)))
      (cases_lt i n)

  -- what the elimination and the scan of its first columns tell
  module _ (r : ℕ) (first now : List ℕ) (lead : ℕ → ℕ) (e : first ≡ t)
      (span : IsSameSpan p w (n + k) (cell first (n + k)) (cell now (n + k))) (cleared : IsCleared p w (n + k) (cell now (n + k)) lead r n) where
    room : n ≤ n + k
    room = omega arith

    turned : (j i : ℕ) → j < w → i < n → cell first (n + k) j i ≡ entry m.entries i j
    turned j i lt below = ap (λ xs. cell xs (n + k) j i) e ∙ h.table.turned j i lt below

    beside : (q : ℕ) → q < k → (j : ℕ) → j < w → cell first (n + k) j (n + q) ≡ get_or (row_in w rows q) j 0
    beside q lq j lt = ap (λ xs. cell xs (n + k) j (n + q)) e ∙ h.table.beside j q lt lq ∙ sym (row_by-at w (cell rows w q) j lt)

    row-small : (q : ℕ) → q < k → (j : ℕ) → j < w → get_or (row_in w rows q) j 0 < p
    row-small q lq j lt = subst (λ z. z < p) (sym (row_by-at w (cell rows w q) j lt)) (cell-small q j lq lt)

    pub narrow_of_system : IsReducedBy p r n (cell now (n + k)) lead
    narrow_of_system = narrow r (n + k) (cell first (n + k)) (cell now (n + k)) lead h.big h.matrix room turned span cleared

    pub first_outside : (c : ℕ) → IsFirstLeft r w n (n + k) (cell now (n + k)) c → IsFirstOutside m k (row_in w rows) (c - n)
    first_outside c f =
        let q = c - n in
        let at : n + q ≡ c = omega (arith, f.from) in
        let lq : q < k = omega (arith, f.inside, f.from) in
        let u = cell now (n + k) in
        record {
          inside = lq;
          outside = outside_of_table r (n + k) (cell first (n + k)) u lead h.big h.matrix room turned span cleared
              (row_in w rows q) (n + q) (omega (arith, f.inside)) (length-row_by w (cell rows w q)) (row-small q lq) (beside q lq)
              f.some.0 f.some.1 f.some.2 (subst (λ z. u f.some.0 z ≢ 0) (sym at) f.some.3);
          before = λ l lt. let ll : l < k = omega arith in
              in_span_of_column r (n + k) (cell first (n + k)) u lead h.big h.matrix room turned span cleared
              (row_in w rows l) (n + l) (omega arith) (length-row_by w (cell rows w l)) (row-small l ll) (beside l ll)
              (λ a ra aw. f.before (n + l) a (omega arith) (omega (arith, at)) ra aw);
        }

    pub all_solved : (xs : List ℕ) → IsNoneLeft r w n (n + k) (cell now (n + k)) → AreReadOff r n k (cell now (n + k)) lead xs → AreSolutions m k (row_in w rows) xs
    all_solved xs none read = record {
      long = read.long ∙ ap (λ z. k * z) (sym h.matrix.from);
      each = λ q lq. subst (λ z. IsSolution m (row_in w rows q) (row_by z (cell xs z q))) (sym h.matrix.from)
          (solution_of_table r (n + k) (cell first (n + k)) (cell now (n + k)) lead h.big h.matrix room turned span cleared
          (row_in w rows q) (n + q) (omega arith) (length-row_by w (cell rows w q)) (row-small q lq) (beside q lq)
          (λ a ra aw. none (n + q) a (omega arith) (omega arith) ra aw)
          (row_by n (cell xs n q)) (length-row_by n (cell xs n q))
          (λ a la. row_by-at n (cell xs n q) (lead a) (cleared.inside a la) ∙ read.on_leads q a lq la)
          (λ i lt g. row_by-at n (cell xs n q) i lt ∙ read.elsewhere q i lq lt g));
    }

-- what a scan of the leads tells of the rows that are read by it
pub read_off : (p r n k : ℕ) (u : ℕ → ℕ → ℕ) (lead place free : ℕ → ℕ) (xs : List ℕ) → IsReducedBy p r n u lead → IsScanned r lead place free r n → length xs ≡ k * n
    → ((q i : ℕ) → q < k → i < n → cell xs n q i ≡ cond (ltb (place i) r) (u (place i) (n + q)) 0) → AreReadOff r n k u lead xs
read_off p r n k u lead place free xs h scan long at = record {
  long = long;
  on_leads = λ q a lq la.
      at q (lead a) lq (h.inside a la) ∙ ap (λ z. cond (ltb z r) (u z (n + q)) 0) (scan.placed a la) ∙ sym (cond_below a r (u a (n + q)) 0 la);
  elsewhere = λ q i lq lt g. at q i lq lt ∙ ⊎_elim
      (λ f. absurd (g f.0 f.1 f.2))
      (λ f. ap (λ z. cond (ltb z r) (u z (n + q)) 0) (ap place (sym f.2) ∙ scan.nowhere f.0 f.1) ∙ sym (cond_above r r (u r (n + q)) 0 0 (omega arith) refl))
      (scan.every i lt);
}

-- the answers for other rows that are equal
pub solved_same : (m : Grid) (k : ℕ) (f g : ℕ → List ℕ) (s : SolvedRows) → ((i : ℕ) → i < k → f i ≡ g i) → AreSolved m k f s → AreSolved m k g s
solved_same m k f g (All xs) same h = record { long = h.long; each = λ i lt. subst (λ v. IsSolution m v (row_by m.row_count (cell xs m.row_count i))) (same i lt) (h.each i lt) }
solved_same m k f g (Unsolved i) same h = record {
  inside = h.inside;
  outside = λ s. h.outside (subst (λ v. IsInSpan m v) (sym (same i h.inside)) s);
  before = λ l lt. subst (λ v. IsInSpan m v) (same l (omega (arith, lt, h.inside))) (h.before l lt);
}

pub result_same : {E : Type 0} (m : Grid) (k : ℕ) (f g : ℕ → List ℕ) (r : Result SolvedRows E) → ((i : ℕ) → i < k → f i ≡ g i)
    → IfOk r (λ s. AreSolved m k f s) → IfOk r (λ s. AreSolved m k g s)
result_same m k f g (Ok s) same h = solved_same m k f g s same h
result_same m k f g (Err e) same h = h

-- the rows of a matrix in its buffer
pub rows_of_buffer : (t : Grid) (cells : List ℕ) (w : ℕ) → t.column_count ≡ w → IsBufferOf t cells → (i : ℕ) → i < t.row_count → row_in w cells i ≡ get_or t.entries i []
rows_of_buffer t cells w e h i lt =
    let H = held t.prime t.row_count w t cells refl refl e h in
    sym (row_by_is w (cell cells w i) (get_or t.entries i []) (H.matrix.is.shaped.column_many i lt ∙ e) (λ j below. H.cell_at i j lt below))

-- a single row
only_row : (w : ℕ) (v : List ℕ) → length v ≡ w → row_in w v 0 ≡ v
only_row w v long = sym (row_by_is w (cell v w 0) v long (λ j lt. ap (λ z. get_or v z 0) (let e : j ≡ 0 * w + j = omega arith in e)))

pub one_solved : (m : Grid) (v x : List ℕ) → length v ≡ m.column_count → AreSolutions m 1 (row_in m.column_count v) x → IsSolution m v x
one_solved m v x long h =
    subst (λ u. IsSolution m u x) (only_row m.column_count v long)
    (subst (λ y. IsSolution m (row_in m.column_count v 0) y) (only_row m.row_count x (omega (arith, h.long))) (h.each 0 (omega arith)))

pub one_outside : (m : Grid) (v : List ℕ) (i : ℕ) → length v ≡ m.column_count → IsFirstOutside m 1 (row_in m.column_count v) i → IsInSpan m v → ⊥
one_outside m v i long h s =
    let e : 0 ≡ i = omega (arith, h.inside) in
    h.outside (subst (λ z. IsInSpan m (row_in m.column_count v z)) e (subst (λ u. IsInSpan m u) (sym (only_row m.column_count v long)) s))
