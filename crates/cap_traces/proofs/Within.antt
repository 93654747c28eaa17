-- A list within another: its elements stand there, each once and in their order.
use Rattle.std.proofs.Common.{◌≡◌, ◌⊎◌, inl, inr, ◌≤◌, List, [], ◌∷◌, ◌++◌, length, refl, sym, ap, ◌∙◌, subst, append_assoc, arith}
use Rattle.cap_history.specs.declared.entries.Entry.{Entry}
use Rattle.cap_desk.specs.Woven.{IsWoven}

module _ {X : Type 0} where
  -- an element of the longer list is not of the other, or is its next
  abbrev pub IsWithin : List X → List X → Type 0
  IsWithin own [] = own ≡ []
  IsWithin own (x ∷ xs) = IsWithin own xs ⊎ ((rest : List X) × (own ≡ x ∷ rest) × IsWithin rest xs)

  within-nil : (xs : List X) → IsWithin [] xs
  within-nil [] = refl
  within-nil (x ∷ xs) = inl (within-nil xs)

  pub within-self : (xs : List X) → IsWithin xs xs
  within-self [] = refl
  within-self (x ∷ xs) = inr (xs, refl, within-self xs)

  -- what is within a list is within one that begins or ends with it
  pub within-front : (own xs more : List X) → IsWithin own xs → IsWithin own (xs ++ more)
  within-front own [] more w = subst (λ o. IsWithin o more) (sym w) (within-nil more)
  within-front own (x ∷ xs) more (inl w) = inl (within-front own xs more w)
  within-front own (x ∷ xs) more (inr (rest, is, w)) = inr (rest, is, within-front rest xs more w)

  pub within-back : (own before xs : List X) → IsWithin own xs → IsWithin own (before ++ xs)
  within-back own [] xs w = w
  within-back own (x ∷ before) xs w = inl (within-back own before xs w)

  pub within-length : (own xs : List X) → IsWithin own xs → length own ≤ length xs
  within-length own [] w = omega (arith, ap length w)
  within-length own (x ∷ xs) (inl w) = omega (arith, within-length own xs w)
  within-length own (x ∷ xs) (inr (rest, is, w)) = omega (arith, ap length is, within-length rest xs w)

  -- as long as the other, it is the other
  pub within-whole : (own xs : List X) → IsWithin own xs → length xs ≤ length own → own ≡ xs
  within-whole own [] w le = w
  within-whole own (x ∷ xs) (inl w) le = absurd (omega (arith, within-length own xs w))
  within-whole own (x ∷ xs) (inr (rest, is, w)) le = is ∙ ap (λ es. x ∷ es) (within-whole rest xs w (omega (arith, ap length is)))

module _ {O M : Type 0} (others : List (Entry O M) → Type 0) where
  regroup : (a b : List (Entry O M)) (e : Entry O M) (c : List (Entry O M)) → (a ++ b ++ e ∷ []) ++ c ≡ a ++ (b ++ e ∷ c)
  regroup a b e c = append_assoc (a ++ b) (e ∷ []) c ∙ append_assoc a b (e ∷ c)

  -- woven entries stand within what was seen behind the start
  pub woven-within : (start own seen : List (Entry O M)) → IsWoven others start own seen → (more : List (Entry O M)) × (seen ≡ start ++ more) × IsWithin own more
  woven-within start [] seen w = (w.0, w.2, within-nil w.0)
  woven-within start (e ∷ own) seen w =
      let later = woven-within (start ++ w.0 ++ e ∷ []) own seen w.2 in
      (w.0 ++ e ∷ later.0, later.1 ∙ regroup start w.0 e later.0, within-back (e ∷ own) w.0 (e ∷ later.0) (inr (own, refl, later.2)))
