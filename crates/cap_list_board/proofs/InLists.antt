-- Places in lists that have grown.
use Rattle.std.proofs.Common.{◌≡◌, ℕ, zero, suc, ◌+◌, ◌<◌, ◌≤◌, List, [], ◌∷◌, ◌++◌, Some, length, ap, refl, arith, ◌⊎◌, inl, inr}
use Rattle.std.specs.Prelude.{slice_get, map}
use Rattle.cap_ops.proofs.DerivationsBounds.{lt_or_le}
use Rattle.cap_ops.proofs.Places.{none≢some}

pub some-inj : {A : Type 0} (x y : A) → Some x ≡ Some y → x ≡ y
some-inj x y e = cc

-- a place in two lists is one in the first, or one in the second
pub get-apart : {A : Type 0} (xs ys : List A) (i : ℕ) (x : A) → slice_get (xs ++ ys) i ≡ Some x → (slice_get xs i ≡ Some x) ⊎ ((k : ℕ) × (i ≡ length xs + k) × (slice_get ys k ≡ Some x))
get-apart [] ys i x e = inr (i, omega arith, e)
get-apart (a ∷ xs) ys zero x e = inl e
get-apart (a ∷ xs) ys (suc i) x e = elim (get-apart xs ys i x e) [ inl f ↦ inl f | inr r ↦ inr (r.0, omega (arith, r.1), r.2) ]

pub get-single : {A : Type 0} (a : A) (k : ℕ) (x : A) → slice_get (a ∷ []) k ≡ Some x → (k ≡ 0) × (a ≡ x)
get-single a zero x e = (refl, some-inj a x e)
get-single a (suc k) x e = absurd (none≢some e)

pub map-snoc : {A B : Type 0} (f : A → B) (xs : List A) (x : A) → map f (xs ++ x ∷ []) ≡ map f xs ++ f x ∷ []
map-snoc f [] x = refl
map-snoc f (a ∷ xs) x = ap (λ ys. f a ∷ ys) (map-snoc f xs x)

pub below-or-past : {A : Type 0} (xs : List A) (i : ℕ) → (i < length xs) ⊎ (length xs ≤ i)
below-or-past xs i = lt_or_le i (length xs)
