-- Four places with the arguments first tell how many there are.
use Rattle.std.proofs.Common.{◌≡◌, ℕ, zero, suc, ◌<◌, ◌≤◌, Bool, true, false, List, [], ◌∷◌, length, get_or, refl, sym, ap, ◌∙◌, arith}
use Rattle.std.specs.Prelude.{Option, Some, None, slice_get, is_some}
use Rattle.cap_ops.specs.Ends.{padded}

inside : {X : Type 0} (xs : List X) (i : ℕ) → is_some (slice_get xs i) ≡ true → i < length xs
inside [] i e = absurd (cc)
inside (x ∷ xs) zero e = omega arith
inside (x ∷ xs) (suc i) e = let h = inside xs i e in omega arith

outside : {X : Type 0} (xs : List X) (i : ℕ) → is_some (slice_get xs i) ≡ false → length xs ≤ i
outside [] i e = omega arith
outside (x ∷ xs) zero e = absurd (cc)
outside (x ∷ xs) (suc i) e = let h = outside xs i e in omega arith

pub padded-at : {X : Type 0} (xs : List X) (i : ℕ) → i < 4 → get_or (padded xs) i None ≡ slice_get xs i
padded-at xs zero h = refl
padded-at xs (suc zero) h = refl
padded-at xs (suc (suc zero)) h = refl
padded-at xs (suc (suc (suc zero))) h = refl
padded-at xs (suc (suc (suc (suc i)))) h = absurd (omega arith)

module _ {X : Type 0} (places : List (Option X)) (xs : List X) (is : places ≡ padded xs) (i : ℕ) (low : i < 4) where
  same : (b : Bool) → b ≡ is_some (get_or places i None) → is_some (slice_get xs i) ≡ b
  same b e = sym (e ∙ ap (λ ps. is_some (get_or ps i None)) is ∙ ap is_some (padded-at xs i low))

  pub there : true ≡ is_some (get_or places i None) → i < length xs
  there e = inside xs i (same true e)

  pub not_there : false ≡ is_some (get_or places i None) → length xs ≤ i
  not_there e = outside xs i (same false e)
