-- Lists by a formula, one more element at a time.
use Rattle.std.proofs.Common.{◌≡◌, ◌≢◌, ℕ, ◌+◌, ◌*◌, ◌/◌, ◌%◌, ◌<◌, ◌≤◌, List, [], ◌∷◌, ◌++◌, length, get_or, sym, ap, ◌∙◌, subst, arith, ⊎_elim}
use Rattle.std.proofs.lemmas.List.{length_push, get_or_push, get_or_append_left, get_or_default}
use Rattle.std.proofs.lemmas.Bool.{cases_lt}
use Rattle.cap_quiver_laws.specs.Paths.{Path, path_of}
use Rattle.cap_quiver_laws.specs.Quotient.{PathNumbers}
use Rattle.cap_quiver_laws.specs.ClassTable.{IsLeads}
use Rattle.cap_quiver.specs.Rows.{class_of, product_class_of, AreInside, AreEndsOf, AreArrowsOf, AreUnitRows, AreProductRows}

ends-at : (f : ℕ → ℕ × ℕ) (xs : List (ℕ × ℕ)) (n : ℕ) (x : ℕ × ℕ) → length xs ≡ n → ((a : ℕ) → a < n → get_or xs a (0, 0) ≡ f a) → x ≡ f n → (a : ℕ) → a < n + 1 → get_or (xs ++ x ∷ []) a (0, 0) ≡ f a
ends-at f xs n x long at e a lt = ⊎_elim
    (λ less. get_or_append_left xs (x ∷ []) (0, 0) a (omega (arith, less, long)) ∙ at a less)
    (λ ge. let same : a ≡ n = omega (arith, lt, ge) in get_or_push xs x (0, 0) a (long ∙ sym same) ∙ e ∙ ap f (sym same))
    (cases_lt a n)

rows-at : (f : ℕ → List ℕ) (xs : List (List ℕ)) (n : ℕ) (x : List ℕ) → length xs ≡ n → ((a : ℕ) → a < n → get_or xs a [] ≡ f a) → x ≡ f n → (a : ℕ) → a < n + 1 → get_or (xs ++ x ∷ []) a [] ≡ f a
rows-at f xs n x long at e a lt = ⊎_elim
    (λ less. get_or_append_left xs (x ∷ []) [] a (omega (arith, less, long)) ∙ at a less)
    (λ ge. let same : a ≡ n = omega (arith, lt, ge) in get_or_push xs x [] a (long ∙ sym same) ∙ e ∙ ap f (sym same))
    (cases_lt a n)

pub ends-push : (A : PathNumbers) (bs : List ℕ) (ends : List (ℕ × ℕ)) (k : ℕ) (x : ℕ × ℕ) → AreEndsOf A bs ends k → x ≡ (A.start (get_or bs k 0), A.finish (get_or bs k 0)) → AreEndsOf A bs (ends ++ x ∷ []) (k + 1)
ends-push A bs ends k x h e = record { long = length_push ends x ∙ ap (λ n. n + 1) h.long; at = ends-at (λ b. (A.start (get_or bs b 0), A.finish (get_or bs b 0))) ends k x h.long h.at e }

pub arrows-push : (ps : List Path) (bs : List ℕ) (arrows : List (List ℕ)) (k : ℕ) (x : List ℕ) → AreArrowsOf ps bs arrows k → x ≡ (path_of ps (get_or bs k 0)).arrows → AreArrowsOf ps bs (arrows ++ x ∷ []) (k + 1)
arrows-push ps bs arrows k x h e = record { long = length_push arrows x ∙ ap (λ n. n + 1) h.long; at = rows-at (λ b. (path_of ps (get_or bs b 0)).arrows) arrows k x h.long h.at e }

pub units-push : (A : PathNumbers) (m : ℕ) (c : ℕ → ℕ → ℕ) (homs units : List (List ℕ)) (k : ℕ) (x : List ℕ) → AreUnitRows A m c homs units k → x ≡ class_of m c (get_or homs (k * A.objects + k) []) (A.unit k) → AreUnitRows A m c homs (units ++ x ∷ []) (k + 1)
units-push A m c homs units k x h e = record { long = length_push units x ∙ ap (λ n. n + 1) h.long; at = rows-at (λ y. class_of m c (get_or homs (y * A.objects + y) []) (A.unit y)) units k x h.long h.at e }

pub products-push : (A : PathNumbers) (m : ℕ) (c : ℕ → ℕ → ℕ) (homs : List (List ℕ)) (bs : List ℕ) (rows : List (List ℕ)) (k : ℕ) (x : List ℕ) → AreProductRows A m c homs bs rows k
    → x ≡ product_class_of A m c homs (get_or bs (k / length bs) 0) (get_or bs (k % length bs) 0) → AreProductRows A m c homs bs (rows ++ x ∷ []) (k + 1)
products-push A m c homs bs rows k x h e = record {
  long = length_push rows x ∙ ap (λ n. n + 1) h.long;
  at = rows-at (λ i. product_class_of A m c homs (get_or bs (i / length bs) 0) (get_or bs (i % length bs) 0)) rows k x h.long h.at e;
}

-- one more lead
pub leads-push : (c : ℕ → ℕ → ℕ) (m : ℕ) (bs : List ℕ) (k q : ℕ) → length bs ≡ k → IsLeads c m bs → q < m → ((j : ℕ) → j < q → c k j ≡ 0) → c k q ≢ 0 → IsLeads c m (bs ++ q ∷ [])
leads-push c m bs k q long L inside before some = record {
  inside = λ f lf. subst-at f lf (λ g x. x < m) (λ g lg. L.inside g lg) inside;
  before = λ f j lf lj. subst-at f lf (λ g x. (i : ℕ) → i < x → c g i ≡ 0) (λ g lg i li. L.before g i lg li) before j lj;
  some = λ f lf. subst-at f lf (λ g x. c g x ≢ 0) (λ g lg. L.some g lg) some;
} where
  subst-at : (f : ℕ) → f < length (bs ++ q ∷ []) → (P : ℕ → ℕ → Type 0) → ((g : ℕ) → g < length bs → P g (get_or bs g 0)) → P k q → P f (get_or (bs ++ q ∷ []) f 0)
  subst-at f lf P old new = ⊎_elim
      (λ (less : f < length bs). subst (λ x. P f x) (sym (get_or_append_left bs (q ∷ []) 0 f less)) (old f less))
      (λ (ge : length bs ≤ f).
      let same : k ≡ f = omega (arith, lf, ge, length_push bs q, long) in
      subst (λ g. P g (get_or (bs ++ q ∷ []) g 0)) same (subst (λ x. P k x) (sym (get_or_push bs q 0 k long)) new))
      (cases_lt f (length bs))

-- the list at a place that was read
pub list-is : (homs : List (List ℕ)) (i : ℕ) (found hom : List ℕ) → hom ≡ found → found ≡ get_or homs i found → i < length homs → hom ≡ get_or homs i []
list-is homs i found hom e is lt = e ∙ is ∙ get_or_default homs i found [] lt

pub list-inside : (n : ℕ) (homs : List (List ℕ)) (i : ℕ) (hom : List ℕ) → hom ≡ get_or homs i [] → i < length homs → AreInside n homs → (l : ℕ) → l < length hom → get_or hom l 0 < n
list-inside n homs i hom e li h = subst (λ (x : List ℕ). (l : ℕ) → l < length x → get_or x l 0 < n) (sym e) (λ l lt. h i l li lt)
