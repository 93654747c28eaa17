-- Lists with one more element at their end.
use Rattle.std.proofs.Common.{◌≡◌, ◌⊎◌, inl, inr, ℕ, zero, suc, ◌<◌, Bool, List, [], ◌∷◌, ◌++◌, length, get_or, Option, Some, None, refl, sym, ap, ◌∙◌, slice_get, find, arith}
use Rattle.std.specs.Option.{option_or}
use Rattle.std.specs.List.{AllZip, flat_map}
use Rattle.std.proofs.lemmas.List.Folds.{find-append}
use Rattle.cap_ops.proofs.Places.{none≢some, some_inner}

last-cons : {X : Type 0} (z : X) (xs : List X) (x : X) (i : ℕ) (y : X) → (slice_get xs i ≡ Some y) ⊎ ((i ≡ length xs) × (y ≡ x)) → (slice_get (z ∷ xs) (suc i) ≡ Some y) ⊎ ((suc i ≡ length (z ∷ xs)) × (y ≡ x))
last-cons z xs x i y (inl f) = inl f
last-cons z xs x i y (inr f) = inr (omega (arith, f.0), f.1)

-- an element of a longer list stands in the list, or is the last
pub slice-last : {X : Type 0} (xs : List X) (x : X) (i : ℕ) (y : X) → slice_get (xs ++ x ∷ []) i ≡ Some y → (slice_get xs i ≡ Some y) ⊎ ((i ≡ length xs) × (y ≡ x))
slice-last [] x zero y e = inr (refl, sym (some_inner e))
slice-last [] x (suc i) y e = absurd (none≢some e)
slice-last (z ∷ xs) x zero y e = inl e
slice-last (z ∷ xs) x (suc i) y e = last-cons z xs x i y (slice-last xs x i y e)

pub slice-front : {X : Type 0} (xs ys : List X) (i : ℕ) (y : X) → slice_get xs i ≡ Some y → slice_get (xs ++ ys) i ≡ Some y
slice-front [] ys i y e = absurd (none≢some e)
slice-front (x ∷ xs) ys zero y e = e
slice-front (x ∷ xs) ys (suc i) y e = slice-front xs ys i y e

pub zip-push : {X Y : Type 0} (R : X → Y → Type 0) (xs : List X) (ys : List Y) (x : X) (y : Y) → AllZip R xs ys → R x y → AllZip R (xs ++ x ∷ []) (ys ++ y ∷ [])
zip-push R [] [] x y a r = (r, tt)
zip-push R [] (w ∷ ys) x y a r = absurd a
zip-push R (z ∷ xs) [] x y a r = absurd a
zip-push R (z ∷ xs) (w ∷ ys) x y a r = (a.0, zip-push R xs ys x y a.1 r)

-- what is found in a list is found in a longer one
pub found-first : {X : Type 0} (p : X → Bool) (xs ys : List X) (x : X) → find p xs ≡ Some x → find p (xs ++ ys) ≡ Some x
found-first p xs ys x e = find-append p xs ys ∙ ap (λ o. option_or o (find p ys)) e

pub found-none : {X : Type 0} (p : X → Bool) (xs ys : List X) → find p xs ≡ None → find p (xs ++ ys) ≡ find p ys
found-none p xs ys e = find-append p xs ys ∙ ap (λ o. option_or o (find p ys)) e

or-none : {X : Type 0} (o r : Option X) → option_or o r ≡ None → (o ≡ None) × (r ≡ None)
or-none None r e = (refl, e)
or-none (Some x) r e = absurd (none≢some (sym e))

pub none-apart : {X : Type 0} (p : X → Bool) (xs ys : List X) → find p (xs ++ ys) ≡ None → (find p xs ≡ None) × (find p ys ≡ None)
none-apart p xs ys e = or-none (find p xs) (find p ys) (sym (find-append p xs ys) ∙ e)

-- of joined lists none is longer than all
both-empty : {X : Type 0} (xs ys : List X) → xs ++ ys ≡ [] → (xs ≡ []) × (ys ≡ [])
both-empty [] ys e = (refl, e)
both-empty (x ∷ xs) ys e = absurd (cc)

pub none-there : {X Y : Type 0} (f : X → List Y) (xs : List X) → flat_map f xs ≡ [] → (i : ℕ) (x : X) → i < length xs → x ≡ get_or xs i x → f x ≡ []
none-there f [] e i x h at = absurd (omega arith)
none-there f (z ∷ xs) e zero x h at = ap f at ∙ (both-empty (f z) (flat_map f xs) e).0
none-there f (z ∷ xs) e (suc i) x h at = none-there f xs (both-empty (f z) (flat_map f xs) e).1 i x (omega arith) at
