-- One element more in a list whose elements are taken once each.
use Rattle.std.proofs.Common.{◌≡◌, ℕ, zero, suc, ◌+◌, ◌<◌, Bool, true, false, List, [], ◌∷◌, ◌++◌, length, refl, sym, ap, subst, ◌∙◌, inl, inr, arith}
use Rattle.std.specs.Prelude.{◌==◌, ◌||◌, if◌then◌else◌, Some, slice_get}
use Rattle.std.proofs.lemmas.Bool.{eqb-true, eq-eqb}
use Rattle.std.specs.List.{list_any, Contains, slice_index_or}
use Rattle.cap_ops.specs.Once.{is_among, once}
use Rattle.cap_ops.proofs.Places.{Among, none≢some, some_inner}

either-of : (a b c : Bool) → ((b || a) || c) ≡ (a || (b || c))
either-of true true c = refl
either-of true false c = refl
either-of false true c = refl
either-of false false c = refl

module _ {A : Type 0} (number : A → ℕ) where
  -- the last element is new where it is neither among the seen ones nor among those before it
  pub once-snoc : (seen xs : List A) (x : A) → once number seen (xs ++ x ∷ []) ≡ once number seen xs ++ (if is_among number seen x || is_among number xs x then [] else x ∷ [])
  once-snoc seen [] x = go (is_among number seen x)
    where
      go : (b : Bool) → (if b then [] else x ∷ []) ≡ (if b || false then [] else x ∷ [])
      go true = refl
      go false = refl
  once-snoc seen (y ∷ xs) x = go (is_among number seen y) refl (once-snoc seen xs x) (once-snoc (y ∷ seen) xs x)
    where
      known : (c : Bool) → (number y == number x) ≡ c → is_among number seen y ≡ true → (is_among number seen x || is_among number xs x) ≡ (is_among number seen x || (c || is_among number xs x))
      known false e t = refl
      known true e t =
          let s : is_among number seen x ≡ true = ap (λ n. list_any (λ z. number z == n) seen) (sym (eqb-true (number y) (number x) e)) ∙ t in
          ap (λ b. b || is_among number xs x) s ∙ sym (ap (λ b. b || true) s)

      go : (b : Bool) → is_among number seen y ≡ b → once number seen (xs ++ x ∷ []) ≡ once number seen xs ++ (if is_among number seen x || is_among number xs x then [] else x ∷ [])
          → once number (y ∷ seen) (xs ++ x ∷ []) ≡ once number (y ∷ seen) xs ++ (if ((number y == number x) || is_among number seen x) || is_among number xs x then [] else x ∷ [])
          → (if b then once number seen (xs ++ x ∷ []) else y ∷ once number (y ∷ seen) (xs ++ x ∷ [])) ≡ (if b then once number seen xs else y ∷ once number (y ∷ seen) xs) ++ (if is_among number seen x || ((number y == number x) || is_among number xs x) then [] else x ∷ [])
      go true e h k = h ∙ ap (λ b. once number seen xs ++ (if b then [] else x ∷ [])) (known (number y == number x) refl e)
      go false e h k = ap (λ zs. y ∷ zs) k ∙ ap (λ b. y ∷ (once number (y ∷ seen) xs ++ (if b then [] else x ∷ []))) (either-of (is_among number seen x) (number y == number x) (is_among number xs x))

true≢false : true ≡ false → ⊥
true≢false e = cc

or-true : (a b : Bool) → b ≡ true → (a || b) ≡ true
or-true true b e = refl
or-true false b e = e

or-second : (a b : Bool) → (a || b) ≡ false → b ≡ false
or-second true b e = absurd (true≢false e)
or-second false b e = e

or-none : (a b : Bool) → a ≡ false → b ≡ false → (a || b) ≡ false
or-none true b e f = absurd (true≢false e)
or-none false b e f = f

-- elements by place, and elements among others
pub among-contained : {A : Type 0} (xs : List A) (x : A) → Contains xs x → Among xs x
among-contained [] x (k, inside, e) = absurd (omega (arith, inside))
among-contained (y ∷ xs) x (zero, inside, e) = inl e
among-contained (y ∷ xs) x (suc k, inside, e) = inr (among-contained xs x (k, omega (arith, inside), e))

pub contained-among : {A : Type 0} (xs : List A) (x : A) → Among xs x → Contains xs x
contained-among [] x m = absurd m
contained-among (y ∷ xs) x (inl e) = (0, omega arith, e)
contained-among (y ∷ xs) x (inr m) = let c = contained-among xs x m in let inside = c.1 in (suc c.0, omega (arith, inside), c.2)

-- where elements with one number are one
module _ {A : Type 0} (number : A → ℕ) (one : (x y : A) → number x ≡ number y → x ≡ y) where
  pub among-is : (xs : List A) (x : A) → is_among number xs x ≡ true → Among xs x
  among-is [] x e = absurd (true≢false (sym e))
  among-is (y ∷ xs) x e = go (number y == number x) refl e (λ k. among-is xs x k)
    where
      go : (b : Bool) → (number y == number x) ≡ b → (b || is_among number xs x) ≡ true → (is_among number xs x ≡ true → Among xs x) → Among (y ∷ xs) x
      go true same k rest = inl (one y x (eqb-true (number y) (number x) same))
      go false other k rest = inr (rest k)

  pub is-among : (xs : List A) (x : A) → Among xs x → is_among number xs x ≡ true
  is-among [] x m = absurd m
  is-among (y ∷ xs) x (inl e) = ap (λ b. b || is_among number xs x) (eq-eqb (number y) (number x) (ap number e))
  is-among (y ∷ xs) x (inr m) = or-true (number y == number x) (is_among number xs x) (is-among xs x m)

  same-among : (xs : List A) (x y : A) → x ≡ y → is_among number xs x ≡ is_among number xs y
  same-among xs x y e = ap (λ z. is_among number xs z) e

  -- what is taken once is an element that is not among the seen ones
  pub once-in : (seen xs : List A) (k : ℕ) (x : A) → slice_get (once number seen xs) k ≡ Some x → Among xs x × (is_among number seen x ≡ false)
  once-in seen [] k x e = absurd (none≢some e)
  once-in seen (y ∷ xs) k x e = go (is_among number seen y) refl k e (λ i h. once-in seen xs i x h) (λ i h. once-in (y ∷ seen) xs i x h)
    where
      go : (b : Bool) → is_among number seen y ≡ b → (k : ℕ) → slice_get (if b then once number seen xs else y ∷ once number (y ∷ seen) xs) k ≡ Some x
          → ((i : ℕ) → slice_get (once number seen xs) i ≡ Some x → Among xs x × (is_among number seen x ≡ false)) → ((i : ℕ) → slice_get (once number (y ∷ seen) xs) i ≡ Some x → Among xs x × (is_among number (y ∷ seen) x ≡ false))
          → Among (y ∷ xs) x × (is_among number seen x ≡ false)
      go true known k h before behind = let r = before k h in (inr r.0, r.1)
      go false known zero h before behind = let same = some_inner h in (inl same, sym (same-among seen y x same) ∙ known)
      go false known (suc k) h before behind = let r = behind k h in (inr r.0, or-second (number y == number x) (is_among number seen x) r.1)

  -- and each such element is taken
  pub once-finds : (seen xs : List A) (x : A) → Among xs x → is_among number seen x ≡ false → (k : ℕ) × (slice_get (once number seen xs) k ≡ Some x)
  once-finds seen [] x m new = absurd m
  once-finds seen (y ∷ xs) x m new = go (is_among number seen y) refl m (λ r. once-finds seen xs x r new) (λ r e. once-finds (y ∷ seen) xs x r e)
    where
      go : (b : Bool) → is_among number seen y ≡ b → Among (y ∷ xs) x → (Among xs x → (k : ℕ) × (slice_get (once number seen xs) k ≡ Some x)) → (Among xs x → is_among number (y ∷ seen) x ≡ false → (k : ℕ) × (slice_get (once number (y ∷ seen) xs) k ≡ Some x))
          → (k : ℕ) × (slice_get (if b then once number seen xs else y ∷ once number (y ∷ seen) xs) k ≡ Some x)
      go true known (inl e) before behind = absurd (true≢false (sym known ∙ (same-among seen y x e ∙ new)))
      go true known (inr r) before behind = before r
      go false known (inl e) before behind = (0, ap Some e)
      go false known (inr r) before behind = next (number y == number x) refl
        where
          next : (b : Bool) → (number y == number x) ≡ b → (k : ℕ) × (slice_get (y ∷ once number (y ∷ seen) xs) k ≡ Some x)
          next true same = (0, ap Some (one y x (eqb-true (number y) (number x) same)))
          next false other = let found = behind r (or-none (number y == number x) (is_among number seen x) other new) in (suc found.0, found.1)

  -- none is taken twice
  pub once-apart : (seen xs : List A) (i j : ℕ) (x : A) → slice_get (once number seen xs) i ≡ Some x → slice_get (once number seen xs) j ≡ Some x → i ≡ j
  once-apart seen [] i j x e f = absurd (none≢some e)
  once-apart seen (y ∷ xs) i j x e f = go (is_among number seen y) i j e f (λ a b. once-apart seen xs i j x a b) (λ k l a b. once-apart (y ∷ seen) xs k l x a b) (λ k a. once-in (y ∷ seen) xs k x a)
    where
      seen-now : y ≡ x → is_among number (y ∷ seen) x ≡ true
      seen-now e = is-among (y ∷ seen) x (inl e)

      go : (b : Bool) (i j : ℕ) → slice_get (if b then once number seen xs else y ∷ once number (y ∷ seen) xs) i ≡ Some x → slice_get (if b then once number seen xs else y ∷ once number (y ∷ seen) xs) j ≡ Some x
          → (slice_get (once number seen xs) i ≡ Some x → slice_get (once number seen xs) j ≡ Some x → i ≡ j)
          → ((k l : ℕ) → slice_get (once number (y ∷ seen) xs) k ≡ Some x → slice_get (once number (y ∷ seen) xs) l ≡ Some x → k ≡ l)
          → ((k : ℕ) → slice_get (once number (y ∷ seen) xs) k ≡ Some x → Among xs x × (is_among number (y ∷ seen) x ≡ false)) → i ≡ j
      go true i j e f before behind among = before e f
      go false zero zero e f before behind among = refl
      go false zero (suc j) e f before behind among = absurd (true≢false (sym (seen-now (some_inner e)) ∙ (among j f).1))
      go false (suc i) zero e f before behind among = absurd (true≢false (sym (seen-now (some_inner f)) ∙ (among i e).1))
      go false (suc i) (suc j) e f before behind among = ap suc (behind i j e f)
