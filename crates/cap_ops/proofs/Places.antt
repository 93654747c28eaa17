-- Elements of a list by place, and letters under other names.
use Rattle.std.proofs.Common.{◌≡◌, ℕ, zero, suc, ◌+◌, ◌<◌, ◌≤◌, List, [], ◌∷◌, ◌++◌, length, refl, sym, ap, ◌∙◌, ◌⊎◌, inl, inr, arith, take}
use Rattle.std.specs.Prelude.{Option, Some, None, slice_get, map}
use Rattle.std.proofs.lemmas.List.{map-append}
use Rattle.cap_ops.specs.declared.ends.Ends.{Ends}
use Rattle.cap_ops.specs.declared.ends.Shape.{Shape}
use Rattle.cap_ops.specs.declared.ends.Shape.TheVariants.{Object, Morphism, Two, Four, Truth, Scalar}
use Rattle.cap_ops.specs.Ends.{places, ends_in, renamed, renamed_ends}

pub none≢some : {X : Type 0} {x : X} → None ≡ Some x → ⊥
none≢some e = cc

pub some_inner : {X : Type 0} {x y : X} → Some x ≡ Some y → x ≡ y
some_inner e = cc

abbrev pub Among : {X : Type 0} → List X → X → Type 0
Among [] y = ⊥
Among (x ∷ xs) y = (x ≡ y) ⊎ Among xs y

pub Among-left : {X : Type 0} (xs ys : List X) (y : X) → Among xs y → Among (xs ++ ys) y
Among-left [] ys y m = absurd m
Among-left (x ∷ xs) ys y m = elim m [ inl e ↦ inl e | inr r ↦ inr (Among-left xs ys y r) ]

pub Among-right : {X : Type 0} (xs ys : List X) (y : X) → Among ys y → Among (xs ++ ys) y
Among-right [] ys y m = m
Among-right (x ∷ xs) ys y m = inr (Among-right xs ys y m)

pub Among-either : {X : Type 0} (xs ys : List X) (y : X) → Among (xs ++ ys) y → Among xs y ⊎ Among ys y
Among-either [] ys y m = inr m
Among-either (x ∷ xs) ys y m = elim m [ inl e ↦ inl (inl e) | inr r ↦ elim (Among-either xs ys y r) [ inl a ↦ inl (inr a) | inr b ↦ inr b ] ]

pub slice_get-left : {X : Type 0} (xs ys : List X) (i : ℕ) → i < length xs → slice_get (xs ++ ys) i ≡ slice_get xs i
slice_get-left [] ys i h = absurd (omega arith)
slice_get-left (x ∷ xs) ys zero h = refl
slice_get-left (x ∷ xs) ys (suc i) h = slice_get-left xs ys i (omega arith)

pub slice_get-end : {X : Type 0} (xs : List X) (x : X) → slice_get (xs ++ x ∷ []) (length xs) ≡ Some x
slice_get-end [] x = refl
slice_get-end (y ∷ xs) x = slice_get-end xs x

-- an element of a list with one more is an element of the list, or the last
pub slice_get-push : {X : Type 0} (xs : List X) (x y : X) (i : ℕ) → slice_get (xs ++ x ∷ []) i ≡ Some y → ((i < length xs) × (slice_get xs i ≡ Some y)) ⊎ ((i ≡ length xs) × (x ≡ y))
slice_get-push [] x y zero h = inr (refl, some_inner h)
slice_get-push [] x y (suc i) h = absurd (none≢some h)
slice_get-push (z ∷ xs) x y zero h = inl (omega arith, h)
slice_get-push (z ∷ xs) x y (suc i) h = elim (slice_get-push xs x y i h) [ inl a ↦ let inside = a.0 in inl (omega arith, a.1) | inr b ↦ inr (ap suc b.0, b.1) ]

pub slice_get-there : {X : Type 0} (xs : List X) (i : ℕ) → i < length xs → (x : X) × (slice_get xs i ≡ Some x)
slice_get-there [] i h = absurd (omega arith)
slice_get-there (x ∷ xs) zero h = (x, refl)
slice_get-there (x ∷ xs) (suc i) h = slice_get-there xs i (omega arith)

pub slice_get-take : {X : Type 0} (n : ℕ) (xs : List X) (i : ℕ) (x : X) → slice_get (take n xs) i ≡ Some x → slice_get xs i ≡ Some x
slice_get-take zero xs i x h = absurd (none≢some h)
slice_get-take (suc n) [] i x h = absurd (none≢some h)
slice_get-take (suc n) (y ∷ xs) zero x h = h
slice_get-take (suc n) (y ∷ xs) (suc i) x h = slice_get-take n xs i x h

-- places in a list that has grown
pub get-more : {X : Type 0} (xs ys : List X) (i : ℕ) (x : X) → slice_get xs i ≡ Some x → slice_get (xs ++ ys) i ≡ Some x
get-more [] ys i x e = absurd (none≢some e)
get-more (a ∷ xs) ys zero x e = e
get-more (a ∷ xs) ys (suc i) x e = get-more xs ys i x e

pub get-behind : {X : Type 0} (xs ys : List X) (n k : ℕ) → n ≡ length xs + k → slice_get (xs ++ ys) n ≡ slice_get ys k
get-behind [] ys n k e = let same : n ≡ k = omega (arith, e) in ap (slice_get ys) same
get-behind (a ∷ xs) ys zero k e = absurd (omega (arith, e))
get-behind (a ∷ xs) ys (suc n) k e = get-behind xs ys n k (omega (arith, e))

ends_in-renamed : {X Y : Type 0} (σ : X → Y) (s : Shape X) → ends_in (renamed σ s) ≡ map σ (ends_in s)
ends_in-renamed σ (Object a) = refl
ends_in-renamed σ (Morphism e) = refl
ends_in-renamed σ (Two d e) = refl
ends_in-renamed σ (Four c d e f) = refl
ends_in-renamed σ Truth = refl
ends_in-renamed σ Scalar = refl

places-renamed : {X Y : Type 0} (σ : X → Y) (ss : List (Shape X)) → places (map (renamed σ) ss) ≡ map σ (places ss)
places-renamed σ [] = refl
places-renamed σ (s ∷ ss) = rw (ends_in-renamed σ s, places-renamed σ ss) (sym (map-append σ (ends_in s) (places ss)))

pub same-names : {Y : Type 0} (σ τ : ℕ → Y) (xs : List ℕ) (y : ℕ) → map σ xs ≡ map τ xs → Among xs y → σ y ≡ τ y
same-names σ τ [] y h m = absurd m
same-names σ τ (x ∷ xs) y h m = elim m [ inl e ↦ let first : σ x ≡ τ x = cc in cc | inr r ↦ let rest : map σ xs ≡ map τ xs = cc in same-names σ τ xs y rest r ]

-- two choices that rename some shapes alike agree at their letters
pub same-at_letters : {Y : Type 0} (σ τ : ℕ → Y) (ss : List (Shape ℕ)) (y : ℕ) → map (renamed σ) ss ≡ map (renamed τ) ss → Among (places ss) y → σ y ≡ τ y
same-at_letters σ τ ss y h m = same-names σ τ (places ss) y (sym (places-renamed σ ss) ∙ ap places h ∙ places-renamed τ ss) m

ends-agree : {Y : Type 0} (σ τ : ℕ → Y) (e : Ends ℕ) → σ e.src ≡ τ e.src → σ e.tgt ≡ τ e.tgt → renamed_ends σ e ≡ renamed_ends τ e
ends-agree σ τ e a b = rw (a, b) refl

pub renamed-agree : {Y : Type 0} (σ τ : ℕ → Y) (s : Shape ℕ) → ((y : ℕ) → Among (ends_in s) y → σ y ≡ τ y) → renamed σ s ≡ renamed τ s
renamed-agree σ τ (Object a) h = ap Object (h a (inl refl))
renamed-agree σ τ (Morphism e) h = ap Morphism (ends-agree σ τ e (h e.src (inl refl)) (h e.tgt (inr (inl refl))))
renamed-agree σ τ (Two d e) h = rw (ends-agree σ τ d (h d.src (inl refl)) (h d.tgt (inr (inl refl))), ends-agree σ τ e (h e.src (inr (inr (inl refl)))) (h e.tgt (inr (inr (inr (inl refl)))))) refl
renamed-agree σ τ (Four c d e f) h =
    rw (ends-agree σ τ c (h c.src (inl refl)) (h c.tgt (inr (inl refl))), ends-agree σ τ d (h d.src (inr (inr (inl refl)))) (h d.tgt (inr (inr (inr (inl refl))))), ends-agree σ τ e (h e.src (inr (inr (inr (inr (inl refl)))))) (h e.tgt (inr (inr (inr (inr (inr (inl refl))))))), ends-agree σ τ f (h f.src (inr (inr (inr (inr (inr (inr (inl refl)))))))) (h f.tgt (inr (inr (inr (inr (inr (inr (inr (inl refl)))))))))) refl
renamed-agree σ τ Truth h = refl
renamed-agree σ τ Scalar h = refl

-- and the other way round
pub renamed-alike : {Y : Type 0} (σ τ : ℕ → Y) (ss : List (Shape ℕ)) → ((y : ℕ) → Among (places ss) y → σ y ≡ τ y) → map (renamed σ) ss ≡ map (renamed τ) ss
renamed-alike σ τ [] h = refl
renamed-alike σ τ (s ∷ ss) h =
    rw (renamed-agree σ τ s (λ y m. h y (Among-left (ends_in s) (places ss) y m)), renamed-alike σ τ ss (λ y m. h y (Among-right (ends_in s) (places ss) y m))) refl
