-- A list that changes from the front, and one that grows with it.
use Rattle.std.proofs.Common.{◌≡◌, ℕ, zero, suc, ◌+◌, ◌<◌, List, [], ◌∷◌, ◌++◌, length, map, take, drop, set, get_or, refl, ap, sym, ◌∙◌}
use Rattle.std.proofs.lemmas.List.{map_more}
use Rattle.std.proofs.lemmas.List.Edits.{map_over_more}

module _ {A : Type 0} (f : A → A) where
  -- what has not come is as it was
  not-yet : (all : List A) (i : ℕ) (d : A) → get_or (map f (take i all) ++ drop i all) i d ≡ get_or all i d
  not-yet [] zero d = refl
  not-yet [] (suc i) d = refl
  not-yet (x ∷ xs) zero d = refl
  not-yet (x ∷ xs) (suc i) d = not-yet xs i d

  pub changes-by : (all now : List A) (i : ℕ) (k k' : A) → i < length all → now ≡ map f (take i all) ++ drop i all → k ≡ get_or now i k → k' ≡ f (get_or now i k) → set now i k' ≡ map f (take (i + 1) all) ++ drop (i + 1) all
  changes-by all now i k k' h e at is = ap (λ x. set now i x) (is ∙ ap f (sym at)) ∙ map_over_more f all now i k h e at

  pub grows-by : {B : Type 0} (g : A → B) (all now : List A) (i : ℕ) (k : A) (row row' : List B) (s : B) → i < length all → now ≡ map f (take i all) ++ drop i all → k ≡ get_or now i k
      → row ≡ map g (take i all) → s ≡ g (get_or now i k) → row' ≡ row ++ s ∷ [] → row' ≡ map g (take (i + 1) all)
  grows-by g all now i k row row' s h e at so is grown =
      let same : get_or now i k ≡ get_or all i k = ap (λ (l : List A). get_or l i k) e ∙ not-yet all i k in
      grown ∙ ap (λ (r : List _). r ++ s ∷ []) so ∙ ap (λ x. map g (take i all) ++ x ∷ []) (is ∙ ap g same) ∙ sym (map_more g all i k h)
