-- The list of the leads, and that the leads of the transpose are the rows that are no combination of those before them.
use Rattle.std.proofs.Common.{◌≡◌, ℕ, ◌+◌, ◌%◌, ◌<◌, ◌≤◌, List, [], ◌∷◌, ◌++◌, length, get_or, sym, ap, ◌∙◌, subst, arith, inl, inr, ⊎_elim}
use Rattle.std.specs.List.{Contains}
use Rattle.std.proofs.lemmas.List.{length_push, get_or_push, get_or_append_left, get_or_default, ext_get_or}
use Rattle.std.proofs.lemmas.List.Elements.{Contains-push, Contains-append_left, Contains-get_or}
use Rattle.std.proofs.lemmas.Bool.{cases_eq, cases_lt}
use Rattle.cap_matrix.specs.Grid.{Grid, IsMatrixOf, entry}
use Rattle.cap_matrix.specs.Reduced.{InSpan, IsReducedBy, IsRedundant}
use Rattle.cap_reduce.specs.Answers.{IsGreedy}
use Rattle.cap_reduce.specs.Laws.{OneGreedyList}
use Rattle.cap_reduce.proofs.Unique.{same_rising}
use Rattle.cap_reduce.specs.NullTable.{IsScanned, IsLeadList}
use Rattle.cap_reduce.specs.Cleared.{IsCleared, IsSameSpan}
use Rattle.cap_reduce.proofs.Spans.{span_same, span_within}
use Rattle.cap_reduce.proofs.Kept.{reduced_at_end, span_at_end}
use Rattle.cap_reduce.proofs.Reduced.{span_of_same}
use Rattle.cap_reduce.proofs.Solutions.{lead_is_outside, other_is_inside}

pub lead_list_start : (r : ℕ) (place : ℕ → ℕ) → IsLeadList r place 0 []
lead_list_start r place = record {
  inside = λ k lt. absurd (omega arith);
  rising = λ k l less lt. absurd (omega arith);
  listed = λ i lt below. absurd (omega arith);
  leads = λ k lt. absurd (omega arith);
}

pub lead_list_push : (r : ℕ) (place : ℕ → ℕ) (n : ℕ) (xs : List ℕ) → IsLeadList r place n xs → place n < r → IsLeadList r place (n + 1) (xs ++ n ∷ [])
lead_list_push r place n xs h here =
    let long = length_push xs n in
    let old : (k : ℕ) → k < length xs → get_or (xs ++ n ∷ []) k 0 ≡ get_or xs k 0 = λ k lt. get_or_append_left xs (n ∷ []) 0 k lt in
    let new : (k : ℕ) → length xs ≤ k → k < length (xs ++ n ∷ []) → get_or (xs ++ n ∷ []) k 0 ≡ n = λ k ge lt. get_or_push xs n 0 k (omega arith) in
    record {
      inside = λ k lt. ⊎_elim (λ less. omega (arith, old k less, h.inside k less)) (λ ge. omega (arith, new k ge lt)) (cases_lt k (length xs));
      rising = λ k l less lt. let first : k < length xs = omega arith in ⊎_elim
          (λ under. omega (arith, old k first, old l under, h.rising k l less under))
          (λ ge. omega (arith, old k first, h.inside k first, new l ge lt))
          (cases_lt l (length xs));
      listed = λ i lt below. ⊎_elim
          (λ less. Contains-append_left xs (n ∷ []) i (h.listed i less below))
          (λ ge. subst (λ y. Contains (xs ++ n ∷ []) y) (let e : n ≡ i = omega arith in e) (Contains-push xs n))
          (cases_lt i n);
      leads = λ k lt. ⊎_elim
          (λ less. subst (λ y. place y < r) (sym (old k less)) (h.leads k less))
          (λ ge. subst (λ y. place y < r) (sym (new k ge lt)) here)
          (cases_lt k (length xs));
    }

pub lead_list_skip : (r : ℕ) (place : ℕ → ℕ) (n : ℕ) (xs : List ℕ) → IsLeadList r place n xs → r ≤ place n → IsLeadList r place (n + 1) xs
lead_list_skip r place n xs h none = record {
  inside = λ k lt. omega (arith, h.inside k lt);
  rising = h.rising;
  listed = λ i lt below. h.listed i (⊎_elim (λ e. absurd (omega (arith, ap place e))) (λ ne. omega arith) (cases_eq i n)) below;
  leads = h.leads;
}

-- a number in a list stands at some place of it
place_of : (xs : List ℕ) (i : ℕ) → Contains xs i → (k : ℕ) × (k < length xs) × (get_or xs k 0 ≡ i)
place_of xs i s = (s.0, s.1, sym (get_or_default xs s.0 i 0 s.1) ∙ s.2)

-- the leads of the reduced transpose are the rows that are no combination of those before them
pub greedy_from_leads : {p n w : ℕ} {m : Grid} (r : ℕ) (u : ℕ → ℕ → ℕ) (lead place free : ℕ → ℕ) (xs : List ℕ) → 2 ≤ p → IsMatrixOf p n w m → IsReducedBy p r n u lead
    → ((a : ℕ) → a < r → InSpan p w n (λ j i. entry m.entries i j) (u a)) → ((j : ℕ) → j < w → InSpan p r n u (λ i. entry m.entries i j))
    → IsScanned r lead place free r n → IsLeadList r place n xs → IsGreedy m xs
greedy_from_leads {p} {n} {w} {m} r u lead place free xs big M h there back scan list =
    let e = entry m.entries in
    let to_plain : (i : ℕ) → IsRedundant m i → InSpan p i w e (e i) = λ i s. subst (λ q. InSpan q i w e (e i)) M.is.prime (subst (λ c. InSpan m.prime i c e (e i)) M.to s) in
    let from_plain : (i : ℕ) → InSpan p i w e (e i) → IsRedundant m i = λ i s. subst (λ c. InSpan m.prime i c e (e i)) (sym M.to) (subst (λ q. InSpan q i w e (e i)) (sym M.is.prime) s) in
    record {
      inside = λ k lt. omega (arith, list.inside k lt, M.from);
      rising = list.rising;
      decided = λ i lt. ⊎_elim
          (λ f. let here : place i ≡ f.0 = ap place (sym f.2) ∙ scan.placed f.0 f.1 in inl (
            list.listed i (omega (arith, M.from)) (omega (arith, f.1)),
            λ s. lead_is_outside p n w r e u lead big h there back f.0 f.1 (subst (λ z. InSpan p z w e (e z)) (sym f.2) (to_plain i s)),
          ))
          (λ f. let here : place i ≡ r = ap place (sym f.2) ∙ scan.nowhere f.0 f.1 in inr (
            λ s. let at = place_of xs i s in omega (arith, list.leads at.0 at.1, ap place at.2, here),
            from_plain i (other_is_inside p n w r e u lead big h there back i (omega (arith, M.from))
                (λ a la same. omega (arith, scan.placed a la, ap place same, here, la))),
          ))
          (scan.every i (omega (arith, M.from)));
    }

-- the same, from the elimination of the transpose
pub greedy_of_table : {p n w : ℕ} {m : Grid} (r : ℕ) (first u : ℕ → ℕ → ℕ) (lead place free : ℕ → ℕ) (xs : List ℕ) → 2 ≤ p → IsMatrixOf p n w m
    → ((j i : ℕ) → j < w → i < n → first j i ≡ entry m.entries i j)
    → IsSameSpan p w n first u → IsCleared p w n u lead r n → IsScanned r lead place free r n → IsLeadList r place n xs → IsGreedy m xs
greedy_of_table {p} {n} {w} {m} r first u lead place free xs big M turned span cleared scan list =
    greedy_from_leads r u lead place free xs big M (reduced_at_end p w n u lead r cleared)
    (λ a lt. span_of_same p w n first (λ j i. entry m.entries i j) (u a) (λ j i under below. sym (turned j i under below)) (span.there a (omega (arith, cleared.few))))
    (λ j lt. span_same p r n u (first j) (λ i. entry m.entries i j)
    (span_within p r n u w u (first j) (span_at_end p w n u lead r cleared) (span.back j lt))
    (λ i below. ap (λ y. y % p) (turned j i lt below)))
    scan list

-- what one list has, the other has
shared : (m : Grid) (xs ys : List ℕ) → IsGreedy m xs → IsGreedy m ys → (i : ℕ) → i < length xs → (k : ℕ) × (k < length ys) × (get_or ys k 0 ≡ get_or xs i 0)
shared m xs ys g h i lt = ⊎_elim
    (λ a. place_of ys (get_or xs i 0) a.0)
    (λ a. ⊎_elim (λ b. absurd (b.1 a.1)) (λ b. absurd (b.0 (Contains-get_or xs i 0 lt))) (g.decided (get_or xs i 0) (g.inside i lt)))
    (h.decided (get_or xs i 0) (g.inside i lt))

pub one_greedy_list : OneGreedyList
one_greedy_list m xs ys g h =
    let s = same_rising (λ i. get_or xs i 0) (λ i. get_or ys i 0) (length xs) (length ys) g.rising h.rising (shared m xs ys g h) (shared m ys xs h g) in
    ext_get_or 0 xs ys s.0 s.1
