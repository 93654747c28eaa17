-- The steps of a loop along a list of arrows.
use Rattle.std.proofs.Common.{◌≡◌, ℕ, suc, ◌+◌, ◌-◌, ◌<◌, ◌≤◌, List, [], ◌∷◌, length, get_or, drop, refl, sym, ap, ◌∙◌, subst, arith, drop-cons}
use Rattle.cap_quiver_laws.specs.Paths.{QuiverData, IsWalk, end_of}
use Rattle.cap_quiver_laws.specs.Ideal.{IsTermPath}
use Rattle.cap_quiver_paths.proofs.Ends.{end-last, last-inside}

-- the arrows go from x to y, one after the other
abbrev pub Goes : QuiverData → ℕ → ℕ → List ℕ → Type 0
Goes Q x y xs = IsWalk Q x xs × (end_of Q x xs ≡ y)

-- the rest of the list after i arrows, by its first arrow
rest : (xs : List ℕ) (i : ℕ) → i < length xs → drop i xs ≡ get_or xs i 0 ∷ drop (i + 1) xs
rest xs i lt = drop-cons xs i 0 lt ∙ ap (λ k. get_or xs i 0 ∷ drop k xs) (let e : suc i ≡ i + 1 = omega arith in e)

module _ (Q : QuiverData) (at y : ℕ) (xs : List ℕ) (i : ℕ) (lt : i < length xs) where
  pub goes-on : Goes Q at y (drop i xs) → (get_or xs i 0 < length Q.arrows) × ((get_or Q.arrows (get_or xs i 0) (0, 0)).0 ≡ at) × Goes Q (get_or Q.arrows (get_or xs i 0) (0, 0)).1 y (drop (i + 1) xs)
  goes-on h = let g = subst (λ l. Goes Q at y l) (rest xs i lt) h in (g.0.0, g.0.1, (g.0.2, g.1))

  pub goes-from : get_or xs i 0 < length Q.arrows → (get_or Q.arrows (get_or xs i 0) (0, 0)).0 ≡ at → Goes Q (get_or Q.arrows (get_or xs i 0) (0, 0)).1 y (drop (i + 1) xs) → Goes Q at y (drop i xs)
  goes-from inside from g = subst (λ l. Goes Q at y l) (sym (rest xs i lt)) ((inside, from, g.0), g.1)

-- the outer ends of a term
module _ (Q : QuiverData) (x y : ℕ) (xs : List ℕ) (T : IsTermPath Q x y xs) where
  begins : (l : List ℕ) → (l ≡ [] → ⊥) → IsWalk Q x l → (get_or l 0 0 < length Q.arrows) × ((get_or Q.arrows (get_or l 0 0) (0, 0)).0 ≡ x)
  begins [] some w = absurd (some refl)
  begins (a ∷ l) some w = (w.0, w.1)

  long : (l : List ℕ) → (l ≡ [] → ⊥) → 1 ≤ length l
  long [] some = absurd (some refl)
  long (a ∷ l) some = omega arith

  pub term-first : (get_or xs 0 0 < length Q.arrows) × ((get_or Q.arrows (get_or xs 0 0) (0, 0)).0 ≡ x)
  term-first = begins xs T.some T.walk

  pub term-last : (get_or xs (length xs - 1) 0 < length Q.arrows) × ((get_or Q.arrows (get_or xs (length xs - 1) 0) (0, 0)).1 ≡ y)
  term-last = (last-inside Q x xs (long xs T.some) T.walk, end-last Q x xs (long xs T.some) ∙ T.finish)
