-- Objects by place, in lists that grow.
use Rattle.std.proofs.Common.{◌≡◌, ℕ, zero, suc, ◌+◌, List, [], ◌∷◌, ◌++◌, ◌⊎◌, Some, length, subst, refl, arith, inl, inr}
use Rattle.std.specs.Prelude.{slice_get}
use Rattle.cap_laws.specs.Linear.{CategoryData}
use Rattle.cap_ops.specs.Arrows.{Between}
use Rattle.cap_ops.specs.Told.{AreObjects}
use Rattle.cap_ops.proofs.Places.{none≢some, some_inner}

-- a place in two lists is one in the first, or one in the second
pub get-apart : {A : Type 0} (xs ys : List A) (i : ℕ) (x : A) → slice_get (xs ++ ys) i ≡ Some x → (slice_get xs i ≡ Some x) ⊎ ((k : ℕ) × (i ≡ length xs + k) × (slice_get ys k ≡ Some x))
get-apart [] ys i x e = inr (i, omega arith, e)
get-apart (a ∷ xs) ys zero x e = inl e
get-apart (a ∷ xs) ys (suc i) x e = elim (get-apart xs ys i x e) [ inl f ↦ inl f | inr r ↦ inr (r.0, omega (arith, r.1), r.2) ]

pub get-single : {A : Type 0} (a : A) (k : ℕ) (x : A) → slice_get (a ∷ []) k ≡ Some x → (k ≡ 0) × (a ≡ x)
get-single a zero x e = (refl, some_inner e)
get-single a (suc k) x e = absurd (none≢some e)

-- the new objects of an answer are told by their place
pub objects-told : {O M : Type 0} (C : CategoryData O (Between O M)) (fresh : List O) → AreObjects C fresh → (k : ℕ) (o : O) → slice_get fresh k ≡ Some o → C.is_object o
objects-told C [] a k o e = absurd (none≢some e)
objects-told C (x ∷ fresh) a zero o e = subst C.is_object (some_inner e) a.0
objects-told C (x ∷ fresh) a (suc k) o e = objects-told C fresh a.1 k o e
