-- Elements at a place of two lists that go together one by one.
use Rattle.std.proofs.Common.{◌≡◌, ℕ, zero, suc, List, [], ◌∷◌, Some, refl, subst, slice_get}
use Rattle.std.specs.List.{AllZip}
use Rattle.cap_ops.proofs.Places.{none≢some, some_inner}

pub zip-left : {X Y : Type 0} (R : X → Y → Type 0) (xs : List X) (ys : List Y) (i : ℕ) (y : Y) → AllZip R xs ys → slice_get ys i ≡ Some y → (x : X) × (slice_get xs i ≡ Some x) × R x y
zip-left R [] [] i y all e = absurd (none≢some e)
zip-left R [] (z ∷ ys) i y all e = absurd all
zip-left R (x ∷ xs) [] i y all e = absurd all
zip-left R (x ∷ xs) (z ∷ ys) zero y all e = (x, refl, subst (R x) (some_inner e) all.0)
zip-left R (x ∷ xs) (z ∷ ys) (suc i) y all e = zip-left R xs ys i y all.1 e

pub zip-right : {X Y : Type 0} (R : X → Y → Type 0) (xs : List X) (ys : List Y) (i : ℕ) (x : X) → AllZip R xs ys → slice_get xs i ≡ Some x → (y : Y) × (slice_get ys i ≡ Some y) × R x y
zip-right R [] [] i x all e = absurd (none≢some e)
zip-right R [] (z ∷ ys) i x all e = absurd all
zip-right R (w ∷ xs) [] i x all e = absurd all
zip-right R (w ∷ xs) (z ∷ ys) zero x all e = (z, refl, subst (λ w. R w z) (some_inner e) all.0)
zip-right R (w ∷ xs) (z ∷ ys) (suc i) x all e = zip-right R xs ys i x all.1 e
