-- Fronts of lists, and lists that are made element by element.
use Rattle.std.proofs.Common.{◌≡◌, ◌+◌, List, [], ◌∷◌, ◌++◌, length, map, Bool, true, false, ◌||◌, cond, None, Some, find, refl, ap, sym, ◌∙◌, subst, append_assoc, append-nil, arith}
use Rattle.std.specs.List.{All, list_any}
use Rattle.std.proofs.lemmas.List.Elements.{All-nil, All-cons}

-- what holds of the empty front, and with each front of the one that has an element more, holds of the whole list
fronts_from : {A : Type 0} (P : List A → Type 0) (all front rest : List A) → all ≡ front ++ rest → ((before behind : List A) (x : A) → all ≡ before ++ (x ∷ behind) → P before → P (before ++ x ∷ [])) → P front → P all
fronts_from P all front [] e step h = subst P (sym (e ∙ append-nil front)) h
fronts_from P all front (x ∷ rest) e step h = fronts_from P all (front ++ x ∷ []) rest (e ∙ sym (append_assoc front (x ∷ []) rest)) step (step front rest x e h)

pub by_fronts : {A : Type 0} (P : List A → Type 0) (all : List A) → P [] → ((before behind : List A) (x : A) → all ≡ before ++ (x ∷ behind) → P before → P (before ++ x ∷ [])) → P all
by_fronts P all start step = fronts_from P all [] all refl step start

pub longer : {A : Type 0} (before : List A) (x : A) → length (before ++ x ∷ []) ≡ length before + 1
longer [] x = refl
longer (y ∷ before) x = let e = longer before x in omega (arith, e)

-- a place in a list that f made is one in the list of which it was made
pub record Made {A B : Type 0} (f : A → B) (xs : List A) (before : List B) (y : B) : Type 0 where
  pub front : List A
  pub rest : List A
  pub one : A
  pub whole : xs ≡ front ++ (one ∷ rest)
  pub same_front : before ≡ map f front
  pub same : y ≡ f one

pub heads : {A : Type 0} (x y : A) (xs ys : List A) → x ∷ xs ≡ y ∷ ys → x ≡ y
heads x y xs ys e = cc

pub tails : {A : Type 0} (x y : A) (xs ys : List A) → x ∷ xs ≡ y ∷ ys → xs ≡ ys
tails x y xs ys e = cc

pub made_of : {A B : Type 0} (f : A → B) (xs : List A) (before behind : List B) (y : B) → map f xs ≡ before ++ (y ∷ behind) → Made f xs before y
made_of f [] [] behind y e = absurd (let n = ap length e in omega (arith, n))
made_of f [] (z ∷ before) behind y e = absurd (let n = ap length e in omega (arith, n))
made_of f (x ∷ xs) [] behind y e = record { front = []; rest = xs; one = x; whole = refl; same_front = refl; same = sym (heads (f x) y (map f xs) behind e) }
made_of f (x ∷ xs) (z ∷ before) behind y e =
    let more = made_of f xs before behind y (tails (f x) z (map f xs) (before ++ (y ∷ behind)) e) in
    record {
      front = x ∷ more.front;
      rest = more.rest;
      one = more.one;
      whole = ap (λ l. x ∷ l) more.whole;
      same_front = ap (λ l. z ∷ l) more.same_front ∙ ap (λ w. w ∷ map f more.front) (sym (heads (f x) z (map f xs) (before ++ (y ∷ behind)) e));
      same = more.same;
    }

-- where no element passes a test, none is found
none_more : {A : Type 0} (p : A → Bool) (x : A) (xs : List A) (b : Bool) → (list_any p xs ≡ false → find p xs ≡ None) → (b || list_any p xs) ≡ false → cond b (Some x) (find p xs) ≡ None
none_more p x xs true rest e = absurd (cc)
none_more p x xs false rest e = rest e

pub none_found : {A : Type 0} (p : A → Bool) (xs : List A) → list_any p xs ≡ false → find p xs ≡ None
none_found p [] e = refl
none_found p (x ∷ xs) e = none_more p x xs (p x) (none_found p xs) e

pub either_front : (a b : Bool) → (a || b) ≡ false → a ≡ false
either_front true b e = absurd (cc)
either_front false b e = refl

pub either_rest : (a b : Bool) → (a || b) ≡ false → b ≡ false
either_rest true b e = absurd (cc)
either_rest false b e = e

-- where no element passes a test, each fails it
pub each_fails : {A : Type 0} (p : A → Bool) (xs : List A) → list_any p xs ≡ false → All (λ x. p x ≡ false) xs
each_fails p [] e = All-nil (λ x. p x ≡ false)
each_fails p (x ∷ xs) e = All-cons (λ x. p x ≡ false) x xs (either_front (p x) (list_any p xs) e) (each_fails p xs (either_rest (p x) (list_any p xs) e))
