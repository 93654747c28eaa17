-- Kinds of rows, and of the products of three.
use Rattle.std.proofs.Common.{◌≡◌, ◌≢◌, ℕ, ◌+◌, ◌*◌, ◌/◌, ◌%◌, ◌<◌, ◌≤◌, IsTrue, Bool, true, false, Option, Some, None, cond, eqb, List, [], ◌∷◌, ◌++◌, length, get_or, refl, sym, ap, ◌∙◌, subst, arith, ⊎_elim}
use Rattle.std.proofs.lemmas.List.{length_push, get_or_push, get_or_append_left, get_or_default}
use Rattle.std.proofs.lemmas.Bool.{cases_lt, cases_eq, false≢true, eqb-true, eq-eqb}
use Rattle.std.proofs.lemmas.Nat.{div-mul-add, mod-mul-add, mul-add-lt}
use Rattle.std.proofs.Math.Nat.{zero-mul, zero-mod, mod-eq_of_lt}
use Rattle.cap_matrix.specs.Grid.{total}
use Rattle.cap_matrix.proofs.Sums.{total-same, total-zeros}
use Rattle.cap_matrix.proofs.Entries.{delta, delta-same, delta-other}
use Rattle.cap_laws.specs.Table.{TableData, ends_of, hom_of, width_of}
use Rattle.cap_lincat_laws.specs.Tests.{IsDimensioned, IsChain, IsAssociativeAt}
use Rattle.cap_lincat_laws.proofs.Homs.{Member, hom_at, member, place}
use Rattle.cap_lincat_laws.proofs.Elements.{constant, element-sum}
use Rattle.cap_lincat_laws.proofs.Products.{left_triple_at, right_triple_at, own-delta, associative-sums, sums-associative}
use Rattle.cap_lincat.specs.declared.kinds.RowKind.{RowKind}
use Rattle.cap_lincat.specs.declared.kinds.RowKind.TheVariants.{Zero, Element, Other}
use Rattle.cap_lincat.specs.Kinds.{IsRowKind, IsElement, IsKind, AreKindsSoFar, Agree}

-- a basis element is 1 at its own place
own-one : (T : TableData) (x y : ℕ) (f : ℕ → ℕ) (b : ℕ) → IsElement T x y f b → (k : ℕ) × (k < width_of T x y) × (hom_at T x y k ≡ b) × (f k ≡ 1)
own-one T x y f b E =
    let P = place T {x = x} {y = y} {b = b} (record { inside = E.inside; from = E.from; to = E.to }) in
    (P.at, P.below, P.here, E.at P.at P.below ∙ ap (λ h. delta h b) P.here ∙ delta-same b)

no-element : (T : TableData) (x y : ℕ) (f g : ℕ → ℕ) (b : ℕ) → IsElement T x y f b → ((k : ℕ) → k < width_of T x y → g k ≡ 0) → ((k : ℕ) → k < width_of T x y → f k ≡ g k) → ⊥
no-element T x y f g b E z h = let o = own-one T x y f b E in omega (arith, o.3, h o.0 o.1, z o.0 o.1)

one-element : (T : TableData) (x y : ℕ) (f g : ℕ → ℕ) (a b : ℕ) → IsElement T x y f a → IsElement T x y g b → ((k : ℕ) → k < width_of T x y → f k ≡ g k) → a ≡ b
one-element T x y f g a b E F h =
    let o = own-one T x y f a E in
    ⊎_elim (λ same. same)
    (λ apart. absurd (omega (arith, o.3, h o.0 o.1, F.at o.0 o.1 ∙ ap (λ s. delta s b) o.2 ∙ delta-other a b apart)))
    (cases_eq a b)

pub zero-zero : Agree Zero Zero (Some true)
zero-zero T x y f g F G = (λ t k lt. F k lt ∙ sym (G k lt), λ h. refl)

pub zero-element : (b : ℕ) → Agree Zero (Element b) (Some false)
zero-element b T x y f g F G = (λ t. absurd (false≢true t), λ h. absurd (no-element T x y g f b G F (λ k lt. sym (h k lt))))

pub element-zero : (a : ℕ) → Agree (Element a) Zero (Some false)
element-zero a T x y f g F G = (λ t. absurd (false≢true t), λ h. absurd (no-element T x y f g a F G h))

pub element-element : (a b : ℕ) → Agree (Element a) (Element b) (Some (eqb a b))
element-element a b T x y f g F G = (
  λ t k lt. F.at k lt ∙ ap (λ s. delta (hom_at T x y k) s) (eqb-true a b t) ∙ sym (G.at k lt),
  λ h. eq-eqb a b (one-element T x y f g a b F G h),
)

pub agree-by : (left right L R : RowKind) (o : Option Bool) → left ≡ L → right ≡ R → Agree L R o → Agree left right o
agree-by left right L R o e f h = subst (λ a. Agree a right o) (sym e) (subst (λ b. Agree L b o) (sym f) h)

-- the kind of a product by that of its row
pub kind-from_row : (T : TableData) (x y : ℕ) (row : List ℕ) (K : RowKind) → length row ≡ width_of T x y → IsRowKind row (hom_of T x y) K → IsKind T x y (λ k. get_or row k 0) K
kind-from_row T x y row Zero long h = λ k lt. h k (omega (arith, lt, long))
kind-from_row T x y row (Element b) long h =
    let M = member T x y h.0 h.1 in
    record {
      inside = subst (λ s. s < length T.basis) h.2 M.inside;
      from = subst (λ s. (ends_of T s).0 ≡ x) h.2 M.from;
      to = subst (λ s. (ends_of T s).1 ≡ y) h.2 M.to;
      at = λ k lt. h.3 k (omega (arith, lt, long)) ∙ swap k h.0 ∙ sym (own-delta T x y k h.0 lt h.1) ∙ ap (λ s. delta (hom_at T x y k) s) h.2;
    } where
      swap : (k l : ℕ) → delta k l ≡ delta l k
      swap k l = ⊎_elim
          (λ (e : k ≡ l). ap (λ s. delta s l) e ∙ ap (λ s. delta l s) (sym e))
          (λ ne. delta-other k l ne ∙ sym (delta-other l k (λ e. ne (sym e))))
          (cases_eq k l)
kind-from_row T x y row Other long h = tt

-- one more pair
pub kinds-push : (T : TableData) (kinds : List RowKind) (m : ℕ) (K : RowKind) → AreKindsSoFar T kinds m
    → ((ends_of T (m / length T.basis)).1 ≡ (ends_of T (m % length T.basis)).0 → IsKind T (ends_of T (m / length T.basis)).0 (ends_of T (m % length T.basis)).1 (λ k. get_or (T.product (m / length T.basis) (m % length T.basis)) k 0) K)
    → AreKindsSoFar T (kinds ++ K ∷ []) (m + 1)
kinds-push T kinds m K A h = record {
  long = length_push kinds K ∙ ap (λ n. n + 1) A.long;
  at = λ i j li lj lt meet. ⊎_elim
      (λ (less : i * length T.basis + j < m).
      subst (λ x. IsKind T (ends_of T i).0 (ends_of T j).1 (λ k. get_or (T.product i j) k 0) x) (sym (get_or_append_left kinds (K ∷ []) Other (i * length T.basis + j) (omega (arith, less, A.long)))) (A.at i j li lj less meet))
      (λ (ge : m ≤ i * length T.basis + j).
      let n = length T.basis in
      let here : i * n + j ≡ m = omega (arith, lt, ge) in
      let a : m / n ≡ i = ap (λ s. s / n) (sym here) ∙ div-mul-add i n j lj in
      let b : m % n ≡ j = ap (λ s. s % n) (sym here) ∙ mod-mul-add i n j lj in
      subst (λ x. IsKind T (ends_of T i).0 (ends_of T j).1 (λ k. get_or (T.product i j) k 0) x) (sym (get_or_push kinds K Other (i * n + j) (A.long ∙ sym here)))
      (subst (λ u. IsKind T (ends_of T u).0 (ends_of T j).1 (λ k. get_or (T.product u j) k 0) K) a
      (subst (λ v. IsKind T (ends_of T (m / n)).0 (ends_of T v).1 (λ k. get_or (T.product (m / n) v) k 0) K) b (h (subst (λ v. (ends_of T (m / n)).1 ≡ (ends_of T v).0) (sym b) (subst (λ u. (ends_of T u).1 ≡ (ends_of T j).0) (sym a) meet))))))
      (cases_lt (i * length T.basis + j) m);
}

-- what is listed for i and j
pub told-kind : (T : TableData) (kinds : List RowKind) (n i j : ℕ) (d K : RowKind) → AreKindsSoFar T kinds (length T.basis * length T.basis) → n ≡ length T.basis
    → i < length T.basis → j < length T.basis → (ends_of T i).1 ≡ (ends_of T j).0 → get_or kinds (i * n + j) d ≡ K → IsKind T (ends_of T i).0 (ends_of T j).1 (λ k. get_or (T.product i j) k 0) K
told-kind T kinds n i j d K A e li lj meet is =
    let N = length T.basis in
    let lt : i * N + j < N * N = mul-add-lt i N j N li lj in
    let at : get_or kinds (i * N + j) Other ≡ K = get_or_default kinds (i * N + j) Other d (omega (arith, lt, A.long)) ∙ ap (λ m. get_or kinds (i * m + j) d) (sym e) ∙ is in
    subst (λ x. IsKind T (ends_of T i).0 (ends_of T j).1 (λ k. get_or (T.product i j) k 0) x) at (A.at i j li lj lt meet)

-- kinds are of coefficients
pub kind-same : (T : TableData) (x y : ℕ) (f g : ℕ → ℕ) (K : RowKind) → IsKind T x y f K → ((k : ℕ) → k < width_of T x y → g k ≡ f k) → IsKind T x y g K
kind-same T x y f g Zero F e = λ k lt. e k lt ∙ F k lt
kind-same T x y f g (Element b) F e = record { inside = F.inside; from = F.from; to = F.to; at = λ k lt. e k lt ∙ F.at k lt }
kind-same T x y f g Other F e = tt

-- where i·j is 0, so is (i·j)·k; where it is a basis element, that one's product with k is (i·j)·k; and the same on the other side
module _ (T : TableData) (D : IsDimensioned T) where
  pub left-zero : (x z w i j k : ℕ) → IsKind T x z (λ l. get_or (T.product i j) l 0) Zero → IsKind T x w (left_triple_at T x z i j k) Zero
  left-zero x z w i j k F = λ m lt.
      ap (λ s. s % T.prime) (total-zeros (width_of T x z) (λ l. constant T i j l * constant T (hom_at T x z l) k m) (λ l below. ap (λ s. s * constant T (hom_at T x z l) k m) (F l below) ∙ zero-mul (constant T (hom_at T x z l) k m)))
      ∙ zero-mod T.prime

  pub right-zero : (x y w i j k : ℕ) → IsKind T y w (λ l. get_or (T.product j k) l 0) Zero → IsKind T x w (right_triple_at T y w i j k) Zero
  right-zero x y w i j k F = λ m lt.
      ap (λ s. s % T.prime) (total-zeros (width_of T y w) (λ l. constant T j k l * constant T i (hom_at T y w l) m) (λ l below. ap (λ s. s * constant T i (hom_at T y w l) m) (F l below) ∙ zero-mul (constant T i (hom_at T y w l) m)))
      ∙ zero-mod T.prime

  pub left-element_kind : (x z w i j k s : ℕ) (K : RowKind) → Member T z w k → IsElement T x z (λ l. get_or (T.product i j) l 0) s → IsKind T x w (λ m. get_or (T.product s k) m 0) K → IsKind T x w (left_triple_at T x z i j k) K
  left-element_kind x z w i j k s K O F G =
      let M : Member T x z s = record { inside = F.inside; from = F.from; to = F.to } in
      kind-same T x w (λ m. get_or (T.product s k) m 0) (left_triple_at T x z i j k) K G
      (λ m lt.
      let row = D.products s k F.inside O.inside (F.to ∙ sym O.from) in
      let small : constant T s k m < T.prime = row.residues m (omega (arith, row.long, lt, ap (λ a. width_of T a (ends_of T k).1) F.from, ap (λ b. width_of T x b) O.to)) in
      ap (λ a. a % T.prime)
      (total-same (width_of T x z) (λ l. constant T i j l * constant T (hom_at T x z l) k m) (λ l. delta (hom_at T x z l) s * constant T (hom_at T x z l) k m) (λ l below. ap (λ a. a * constant T (hom_at T x z l) k m) (F.at l below))
      ∙ element-sum T (λ l. constant T (hom_at T x z l) k m) M ∙ ap (λ h. constant T h k m) (place T M).here)
      ∙ mod-eq_of_lt small)

  pub right-element_kind : (x y w i j k s : ℕ) (K : RowKind) → Member T x y i → IsElement T y w (λ l. get_or (T.product j k) l 0) s → IsKind T x w (λ m. get_or (T.product i s) m 0) K → IsKind T x w (right_triple_at T y w i j k) K
  right-element_kind x y w i j k s K O F G =
      let M : Member T y w s = record { inside = F.inside; from = F.from; to = F.to } in
      kind-same T x w (λ m. get_or (T.product i s) m 0) (right_triple_at T y w i j k) K G
      (λ m lt.
      let row = D.products i s O.inside F.inside (O.to ∙ sym F.from) in
      let small : constant T i s m < T.prime = row.residues m (omega (arith, row.long, lt, ap (λ a. width_of T a (ends_of T s).1) O.from, ap (λ b. width_of T x b) F.to)) in
      ap (λ a. a % T.prime)
      (total-same (width_of T y w) (λ l. constant T j k l * constant T i (hom_at T y w l) m) (λ l. delta (hom_at T y w l) s * constant T i (hom_at T y w l) m) (λ l below. ap (λ a. a * constant T i (hom_at T y w l) m) (F.at l below))
      ∙ element-sum T (λ l. constant T i (hom_at T y w l) m) M ∙ ap (λ h. constant T i h m) (place T M).here)
      ∙ mod-eq_of_lt small)

-- equal kinds tell that a product of three does not depend on the brackets
pub kinds-associative : (T : TableData) (i j k : ℕ) (L R : RowKind) (b : Bool) → IsChain T i j k → IsKind T (ends_of T i).0 (ends_of T k).1 (left_triple_at T (ends_of T i).0 (ends_of T j).1 i j k) L
    → IsKind T (ends_of T i).0 (ends_of T k).1 (right_triple_at T (ends_of T i).1 (ends_of T k).1 i j k) R → Agree L R (Some b)
    → (IsTrue b → IsAssociativeAt T i j k) × (IsAssociativeAt T i j k → IsTrue b)
kinds-associative T i j k L R b C F G A =
    let M : Member T (ends_of T i).0 (ends_of T i).1 i = record { inside = C.first; from = refl; to = refl } in
    let N : Member T (ends_of T i).1 (ends_of T j).1 j = record { inside = C.second; from = sym C.left; to = refl } in
    let O : Member T (ends_of T j).1 (ends_of T k).1 k = record { inside = C.third; from = sym C.right; to = refl } in
    let h = A T (ends_of T i).0 (ends_of T k).1 (left_triple_at T (ends_of T i).0 (ends_of T j).1 i j k) (right_triple_at T (ends_of T i).1 (ends_of T k).1 i j k) F G in
    (λ t. sums-associative T M N O (h.0 t), λ e. h.1 (associative-sums T M N O e))
