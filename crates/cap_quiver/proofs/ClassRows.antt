-- The table whose rows are the coordinates of paths.
use Rattle.std.proofs.Common.{◌≡◌, ℕ, ◌+◌, ◌*◌, ◌/◌, ◌%◌, ◌<◌, true, List, [], ◌∷◌, ◌++◌, length, get_or, refl, sym, ap, ◌∙◌, arith}
use Rattle.std.proofs.lemmas.List.FromFn.{map-range_with_len_more}
use Rattle.std.proofs.lemmas.Nat.{div-mul-add, mod-mul-add, mul-add-lt}
use Rattle.cap_field.specs.Residue.{is_tabled}
use Rattle.cap_laws.specs.Table.{TableData, row_below, ends_of}
use Rattle.cap_lincat.specs.Data.{table_of, shape, homs_below, AreHomsSoFar, HasHoms}
use Rattle.cap_lincat_laws.proofs.Homs.{member}
use Rattle.cap_lincat.proofs.HomLists.{homs-all}
use Rattle.cap_quiver_laws.specs.Quotient.{PathNumbers, IsPathAlgebra}
use Rattle.cap_quiver_laws.specs.ClassTable.{IsClassTable, class_row}
use Rattle.cap_quiver.specs.Rows.{class_of, product_class_of, AreInside, AreEndsOf, AreUnitRows, AreProductRows}

-- one more coefficient
pub row-more : (k : ℕ) (f : ℕ → ℕ) → row_below (k + 1) f ≡ row_below k f ++ f k ∷ []
row-more k f = map-range_with_len_more f 0 k k (omega arith)

-- the elements of a Hom are in the basis
pub homs-inside : (o : ℕ) (ends : List (ℕ × ℕ)) (homs : List (List ℕ)) (n : ℕ) → length ends ≡ n → AreHomsSoFar o ends homs (o * o) → AreInside n homs
homs-inside o ends homs n long h i l li ll =
    let x = i / o in
    let y = i % o in
    let e : get_or homs i [] ≡ homs_below ends x y (length ends) = h.at i (omega (arith, li, h.long)) in
    let lt : l < length (homs_below ends x y (length ends)) = omega (arith, ll, ap (λ (s : List ℕ). length s) e) in
    let M = member (shape 0 o ends) x y l lt in
    omega (arith, M.inside, ap (λ (s : List ℕ). get_or s l 0) e, long)

module _ (p : ℕ) (A : PathNumbers) (c : ℕ → ℕ → ℕ) (bs : List ℕ) (ends : List (ℕ × ℕ)) (units products homs : List (List ℕ)) (tabled : is_tabled p ≡ true) (K : IsPathAlgebra A)
    (inside : (b : ℕ) → b < length bs → get_or bs b 0 < A.count) (E : AreEndsOf A bs ends (length bs)) (H : AreHomsSoFar A.objects ends homs (A.objects * A.objects))
    (U : AreUnitRows A A.count c homs units A.objects) (P : AreProductRows A A.count c homs bs products (length bs * length bs)) where
  abbrev T : TableData
  T = table_of p A.objects ends units products

  homs-are : HasHoms (table_of p A.objects ends units products) homs
  homs-are = homs-all (table_of p A.objects ends units products) homs H

  product-is : (i j : ℕ) → i < length bs → j < length bs → T.product i j ≡ class_row T A.count c (ends_of T i).0 (ends_of T j).1 (A.join (get_or bs i 0) (get_or bs j 0))
  product-is i j li lj =
      let n = length bs in
      let a = get_or bs i 0 in
      let b = get_or bs j 0 in
      let k = i * n + j in
      let x = A.start a in
      let y = A.finish b in
      ap (λ s. get_or products (i * s + j) []) E.long
      ∙ P.at k (mul-add-lt i n j n li lj)
      ∙ ap (λ s. product_class_of A A.count c homs (get_or bs s 0) (get_or bs (k % n) 0)) (div-mul-add i n j lj)
      ∙ ap (λ s. product_class_of A A.count c homs a (get_or bs s 0)) (mod-mul-add i n j lj)
      ∙ ap (λ (h : List ℕ). class_of A.count c h (A.join a b)) (homs-are.at x y (K.ends a (inside i li)).0 (K.ends b (inside j lj)).1)
      ∙ ap (λ s. class_row T A.count c s y (A.join a b)) (sym (ap (λ (e : ℕ × ℕ). e.0) (E.at i li)))
      ∙ ap (λ s. class_row T A.count c (ends_of T i).0 s (A.join a b)) (sym (ap (λ (e : ℕ × ℕ). e.1) (E.at j lj)))

  pub class-table : IsClassTable A c bs (table_of p A.objects ends units products)
  class-table = record {
    prime = tabled;
    objects = refl;
    count = E.long;
    ends = E.at;
    units = λ x lt. U.at x lt ∙ ap (λ (h : List ℕ). class_of A.count c h (A.unit x)) (homs-are.at x x lt lt);
    products = λ i j li lj meet. product-is i j li lj;
  }
