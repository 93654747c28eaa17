-- Lists side by side, and their last elements.
use Rattle.std.proofs.Common.{◌≡◌, ℕ, zero, suc, List, [], ◌∷◌, ◌++◌, length, Some, refl, ap, subst}
use Rattle.std.specs.Prelude.{slice_get}
use Rattle.std.specs.List.{All, AllZip}
use Rattle.std.proofs.lemmas.List.Elements.{All-pop}

module _ {A : Type 0} where
  pub at-end : (xs : List A) (x : A) → slice_get (xs ++ x ∷ []) (length xs) ≡ Some x
  at-end [] x = refl
  at-end (y ∷ xs) x = at-end xs x

  pub before-end : (xs : List A) (x : A) (c : ℕ) (y : A) → slice_get xs c ≡ Some y → slice_get (xs ++ x ∷ []) c ≡ Some y
  before-end [] x c y e = absurd cc
  before-end (z ∷ xs) x zero y e = e
  before-end (z ∷ xs) x (suc c) y e = before-end xs x c y e

  pub all-front : (P : A → Type 0) (xs : List A) (x : A) → All P (xs ++ x ∷ []) → All P xs
  all-front P xs x h = (All-pop P (xs ++ x ∷ []) xs (Some x) refl h).0

  pub all-last : (P : A → Type 0) (xs : List A) (x : A) → All P (xs ++ x ∷ []) → P x
  all-last P xs x h = (All-pop P (xs ++ x ∷ []) xs (Some x) refl h).1

module _ {A B : Type 0} (R : A → B → Type 0) where
  pub zip-more : (xs : List A) (ys : List B) (x : A) (y : B) → AllZip R xs ys → R x y → AllZip R (xs ++ x ∷ []) (ys ++ y ∷ [])
  zip-more [] [] x y a r = (r, tt)
  zip-more [] (b ∷ ys) x y a r = absurd a
  zip-more (a ∷ xs) [] x y z r = absurd z
  zip-more (a ∷ xs) (b ∷ ys) x y z r = (z.0, zip-more xs ys x y z.1 r)

  pub zip-long : (xs : List A) (ys : List B) → AllZip R xs ys → length ys ≡ length xs
  zip-long [] [] a = refl
  zip-long [] (b ∷ ys) a = absurd a
  zip-long (a ∷ xs) [] z = absurd z
  zip-long (a ∷ xs) (b ∷ ys) z = ap suc (zip-long xs ys z.1)

  -- what stands at one place in both
  pub zip-get : (xs : List A) (ys : List B) (c : ℕ) (x : A) → AllZip R xs ys → slice_get xs c ≡ Some x → (y : B) × (slice_get ys c ≡ Some y) × R x y
  zip-get [] ys c x z e = absurd cc
  zip-get (a ∷ xs) [] c x z e = absurd z
  zip-get (a ∷ xs) (b ∷ ys) zero x z e = let same : a ≡ x = cc in (b, refl, subst (λ u. R u b) same z.0)
  zip-get (a ∷ xs) (b ∷ ys) (suc c) x z e = zip-get xs ys c x z.1 e
