-- The units, and the paths of one arrow.
use Rattle.std.proofs.Common.{◌≡◌, inl, inr, ℕ, ◌+◌, ◌<◌, List, [], ◌∷◌, ◌++◌, length, get_or, refl, sym, ap, ◌∙◌, subst, arith, ⊎_elim}
use Rattle.std.specs.List.{Contains}
use Rattle.std.proofs.lemmas.List.{length_push, get_or_push, get_or_append_left}
use Rattle.std.proofs.lemmas.List.Elements.{Contains-get_or}
use Rattle.std.proofs.lemmas.Bool.{cases_lt}
use Rattle.cap_quiver_laws.specs.Paths.{Path, IsWalk, IsEarlier, path_of, IsLevel}
use Rattle.cap_quiver_laws.proofs.Numbering.{path}
use Rattle.cap_quiver_paths.specs.Data.{quiver, AreUnitsSoFar, AreSinglesSoFar}

-- a list of paths by a formula, one more at a time
push-at : (f : ℕ → Path) (level : List Path) (n : ℕ) (P : Path) → length level ≡ n → ((a : ℕ) → a < n → path_of level a ≡ f a) → P ≡ f n → (a : ℕ) → a < n + 1 → path_of (level ++ P ∷ []) a ≡ f a
push-at f level n P long at e a lt = ⊎_elim
    (λ less. get_or_append_left level (P ∷ []) (path 0 []) a (omega (arith, less, long)) ∙ at a less)
    (λ ge. let same : a ≡ n = omega (arith, lt, ge) in get_or_push level P (path 0 []) a (long ∙ sym same) ∙ e ∙ ap f (sym same))
    (cases_lt a n)

pub units_push : (level : List Path) (n : ℕ) (P : Path) → AreUnitsSoFar level n → P ≡ path n [] → AreUnitsSoFar (level ++ P ∷ []) (n + 1)
units_push level n P h e = record { long = length_push level P ∙ ap (λ k. k + 1) h.long; at = push-at (λ a. path a []) level n P h.long h.at e }

pub singles_push : (arrows : List (ℕ × ℕ)) (level : List Path) (n : ℕ) (P : Path) → AreSinglesSoFar arrows level n → P ≡ path (get_or arrows n (0, 0)).0 (n ∷ []) → AreSinglesSoFar arrows (level ++ P ∷ []) (n + 1)
singles_push arrows level n P h e = record { long = length_push level P ∙ ap (λ k. k + 1) h.long; at = push-at (λ a. path (get_or arrows a (0, 0)).0 (a ∷ [])) level n P h.long h.at e }

no-arrow : (xs : List ℕ) → length xs ≡ 0 → xs ≡ []
no-arrow [] h = refl
no-arrow (x ∷ xs) h = absurd (omega (arith, h))

module _ (objects : ℕ) (arrows : List (ℕ × ℕ)) (level : List Path) where
  pub units-level : AreUnitsSoFar level objects → IsLevel (quiver objects arrows 0) 0 level
  units-level h =
      let Q = quiver objects arrows 0 in
      let at : (a : ℕ) → a < length level → path_of level a ≡ path a [] = λ a lt. h.at a (omega (arith, lt, h.long)) in
      record {
        start = λ a lt. omega (arith, ap (λ (P : Path). P.start) (at a lt), lt, h.long);
        walk = λ a lt. subst (λ (P : Path). IsWalk Q P.start P.arrows) (sym (at a lt)) tt;
        long = λ a lt. ap (λ (P : Path). length P.arrows) (at a lt);
        every = λ P lt w long.
            let inside : P.start < length level = omega (arith, lt, h.long) in
            subst (λ R. Contains level R) (at P.start inside ∙ ap (λ xs. path P.start xs) (sym (no-arrow P.arrows long))) (Contains-get_or level P.start (path 0 []) inside);
        rising = λ a b less lt.
            let la : a < length level = omega (arith, less, lt) in
            subst (λ P. IsEarlier P (path_of level b)) (sym (at a la)) (subst (λ P. IsEarlier (path a []) P) (sym (at b lt)) (inr (refl, inr (refl, less))));
      }

  one-arrow : (xs : List ℕ) → length xs ≡ 1 → xs ≡ get_or xs 0 0 ∷ []
  one-arrow [] h = absurd (omega (arith, h))
  one-arrow (x ∷ []) h = refl
  one-arrow (x ∷ y ∷ rest) h = absurd (omega (arith, h))

  pub singles-level : ((a : ℕ) → a < length arrows → ((get_or arrows a (0, 0)).0 < objects) × ((get_or arrows a (0, 0)).1 < objects)) → AreSinglesSoFar arrows level (length arrows) → IsLevel (quiver objects arrows 0) 1 level
  singles-level ends h =
      let Q = quiver objects arrows 0 in
      let at : (a : ℕ) → a < length level → path_of level a ≡ path (get_or arrows a (0, 0)).0 (a ∷ []) = λ a lt. h.at a (omega (arith, lt, h.long)) in
      let inside : (a : ℕ) → a < length level → a < length arrows = λ a lt. omega (arith, lt, h.long) in
      record {
        start = λ a lt. omega (arith, ap (λ (P : Path). P.start) (at a lt), (ends a (inside a lt)).0);
        walk = λ a lt. subst (λ (P : Path). IsWalk Q P.start P.arrows) (sym (at a lt)) (inside a lt, refl, tt);
        long = λ a lt. ap (λ (P : Path). length P.arrows) (at a lt);
        every = λ P lt w long.
            let x = get_or P.arrows 0 0 in
            let e = one-arrow P.arrows long in
            let v : IsWalk Q P.start (x ∷ []) = subst (λ (xs : List ℕ). IsWalk Q P.start xs) e w in
            let lx : x < length level = omega (arith, v.0, h.long) in
            subst (λ R. Contains level R) (at x lx ∙ ap (λ z. path z (x ∷ [])) v.1 ∙ ap (λ xs. path P.start xs) (sym e)) (Contains-get_or level x (path 0 []) lx);
        rising = λ a b less lt.
            let la : a < length level = omega (arith, less, lt) in
            subst (λ P. IsEarlier P (path_of level b)) (sym (at a la)) (subst (λ P. IsEarlier (path (get_or arrows a (0, 0)).0 (a ∷ [])) P) (sym (at b lt)) (inr (refl, inl (inl less))));
      }
