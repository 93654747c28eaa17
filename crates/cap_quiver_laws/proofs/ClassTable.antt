-- The table of the coordinates of paths is the quotient.
use Rattle.std.proofs.Common.{◌≡◌, ◌⊎◌, ℕ, ◌*◌, ◌%◌, ◌<◌, ◌≤◌, cond, ltb, List, length, get_or, refl, sym, ap, ◌∙◌, subst, arith, ⊎_elim}
use Rattle.std.proofs.lemmas.Bool.{cases_lt, cond_below, cond_above}
use Rattle.std.proofs.Math.Nat.{zero-mul}
use Rattle.cap_laws.specs.Table.{TableData, IsRow, ends_of, width_of}
use Rattle.cap_matrix.specs.Grid.{total}
use Rattle.cap_matrix.specs.Reduced.{InSpan, IsReducedBy}
use Rattle.cap_matrix.proofs.Sums.{total-same, total-zeros}
use Rattle.cap_matrix.proofs.Rows.{row_by-at}
use Rattle.cap_field.proofs.Fermat.{tabled_range}
use Rattle.cap_reduce.proofs.Inverses.{inverses}
use Rattle.cap_lincat_laws.proofs.Homs.{hom_at, member}
use Rattle.cap_lincat_laws.proofs.Elements.{row-fits}
use Rattle.cap_quiver_laws.specs.Quotient.{path_at, IsCongruent, path_vector, PathNumbers, IsPathAlgebra, IsQuotient}
use Rattle.cap_quiver_laws.specs.ClassTable.{IsClassTable, class_row}
use Rattle.cap_quiver_laws.proofs.Congruence.{no-path, cong-same, cong-trans, cong-sym}
use Rattle.cap_quiver_laws.proofs.Coordinates.{class_of, class-is, leads-basis, own-ends}
use Rattle.cap_quiver_laws.proofs.HomTotals.{hom-total}

module _ (n : ℕ) (A : PathNumbers) (t : ℕ → ℕ → ℕ) (bs : List ℕ) (T : TableData) (c : ℕ → ℕ → ℕ) (K : IsPathAlgebra A) (C : IsClassTable A c bs T)
    (small : (i j : ℕ) → i < n → j < A.count → t i j < T.prime)
    (between : (i : ℕ) → i < n → (x : ℕ) × (y : ℕ) × ((j : ℕ) → j < A.count → ((A.start j ≡ x) × (A.finish j ≡ y)) ⊎ (t i j ≡ 0)))
    (red : IsReducedBy T.prime (length bs) A.count c (λ f. get_or bs f 0))
    (null : (f i : ℕ) → f < length bs → i < n → total A.count (λ j. t i j * c f j) % T.prime ≡ 0)
    (every : (y : ℕ → ℕ) → ((i : ℕ) → i < n → total A.count (λ j. t i j * y j) % T.prime ≡ 0) → InSpan T.prime (length bs) A.count c y) where
  big : 2 ≤ T.prime
  big = (tabled_range T.prime C.prime).0

  abbrev path : ℕ → ℕ
  path b = get_or bs b 0

  -- the entries of a row of coordinates
  abbrev entry_of : ℕ → ℕ → ℕ
  entry_of b q = cond (ltb q A.count) (c b q) 0

  row-is : (x y q : ℕ) → IsRow T x y (class_row T A.count c x y q)
  row-is x y q = row-fits T (λ l. entry_of (hom_at T x y l) q)
      (λ l lt. ⊎_elim
      (λ inside. subst (λ s. s < T.prime) (cond_below q A.count (c (hom_at T x y l) q) 0 inside) (red.residues (hom_at T x y l) q (omega (arith, (member T x y l lt).inside, C.count)) inside))
      (λ past. subst (λ s. s < T.prime) (cond_above q A.count (c (hom_at T x y l) q) 0 0 past refl) (omega (arith, big)))
      (cases_lt q A.count))

  -- a row of coordinates stands for its path
  row-stands : (x y q : ℕ) → (q < A.count → (A.start q ≡ x) × (A.finish q ≡ y)) → IsCongruent T.prime n A.count t (path_vector T bs x y (class_row T A.count c x y q)) (path_at q)
  row-stands x y q ends =
      let w = width_of T x y in
      let row = class_row T A.count c x y q in
      let read : (j : ℕ) → path_vector T bs x y row j ≡ total w (λ l. entry_of (hom_at T x y l) q * path_at (path (hom_at T x y l)) j) =
      λ j. total-same w (λ l. get_or row l 0 * path_at (path (hom_at T x y l)) j) (λ l. entry_of (hom_at T x y l) q * path_at (path (hom_at T x y l)) j)
      (λ l lt. ap (λ s. s * path_at (path (hom_at T x y l)) j) (row_by-at w (λ l. entry_of (hom_at T x y l) q) l lt)) in
      ⊎_elim
      (λ (inside : q < A.count).
      let e = ends inside in
      cong-trans T.prime n A.count t
      (cong-same T.prime n A.count t (path_vector T bs x y row) (class_of T.prime n A.count t big (inverses T.prime C.prime) small (length bs) c path red (λ f lf i li. null f i lf li) every q)
      (λ j lj. ap (λ s. s % T.prime) (read j
      ∙ total-same w (λ l. entry_of (hom_at T x y l) q * path_at (path (hom_at T x y l)) j) (λ l. c (hom_at T x y l) q * path_at (path (hom_at T x y l)) j)
      (λ l lt. ap (λ s. s * path_at (path (hom_at T x y l)) j) (sym (cond_below q A.count (c (hom_at T x y l) q) 0 inside)))
      ∙ hom-total T x y (λ f. c f q * path_at (path f) j)
      (λ f lt out.
      let lf : f < length bs = omega (arith, lt, C.count) in
      ap (λ s. s * path_at (path f) j)
      (own-ends T.prime n A.count t big (inverses T.prime C.prime) small (length bs) c path red (λ f lf i li. null f i lf li) every A.start A.finish between f lf q inside
      (λ h. out (record {
        inside = lt;
        from = ap (λ (e : ℕ × ℕ). e.0) (C.ends f lf) ∙ sym h.0 ∙ e.0;
        to = ap (λ (e : ℕ × ℕ). e.1) (C.ends f lf) ∙ sym h.1 ∙ e.1;
      })))
      ∙ zero-mul (path_at (path f) j))
      ∙ ap (λ k. total k (λ f. c f q * path_at (path f) j)) C.count)))
      (cong-sym T.prime n A.count t (omega (arith, big)) (class-is T.prime n A.count t big (inverses T.prime C.prime) small (length bs) c path red (λ f lf i li. null f i lf li) every q inside)))
      (λ (past : A.count ≤ q).
      cong-same T.prime n A.count t (path_vector T bs x y row) (path_at q)
      (λ j lj. ap (λ s. s % T.prime) (read j
      ∙ total-zeros w (λ l. entry_of (hom_at T x y l) q * path_at (path (hom_at T x y l)) j)
      (λ l lt. ap (λ s. s * path_at (path (hom_at T x y l)) j) (sym (cond_above q A.count (c (hom_at T x y l) q) 0 0 past refl)) ∙ zero-mul (path_at (path (hom_at T x y l)) j))
      ∙ sym (no-path A.count q j past lj))))
      (cases_lt q A.count)

  pub class-quotient : IsQuotient n A t bs T
  class-quotient = record {
    prime = C.prime;
    objects = C.objects;
    basis = leads-basis T.prime n A.count t big (inverses T.prime C.prime) small (length bs) c path red (λ f lf i li. null f i lf li) every bs refl (λ f lf. refl);
    count = C.count;
    ends = C.ends;
    unit_rows = λ x lt. subst (λ r. IsRow T x x r) (sym (C.units x lt)) (row-is x x (A.unit x));
    units = λ x lt.
        let u = K.unit_ends x (omega (arith, lt, C.objects)) in
        subst (λ r. IsCongruent T.prime n A.count t (path_vector T bs x x r) (path_at (A.unit x))) (sym (C.units x lt)) (row-stands x x (A.unit x) (λ inside. (u.1, u.2)));
    product_rows = λ i j li lj meet. subst (λ r. IsRow T (ends_of T i).0 (ends_of T j).1 r) (sym (C.products i j li lj meet)) (row-is (ends_of T i).0 (ends_of T j).1 (A.join (path i) (path j)));
    products = λ i j li lj meet.
        subst (λ r. IsCongruent T.prime n A.count t (path_vector T bs (ends_of T i).0 (ends_of T j).1 r) (path_at (A.join (path i) (path j)))) (sym (C.products i j li lj meet))
        (row-stands (ends_of T i).0 (ends_of T j).1 (A.join (path i) (path j))
        (λ inside.
        let e = K.join_ends (path i) (path j) inside in (
          e.0 ∙ sym (ap (λ (e : ℕ × ℕ). e.0) (C.ends i li)),
          e.1 ∙ sym (ap (λ (e : ℕ × ℕ). e.1) (C.ends j lj)),
        )));
  }
