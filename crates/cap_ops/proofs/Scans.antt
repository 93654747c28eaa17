-- The scan of the ends finds the first wrong one, and there is none exactly where the arguments fit.
use Rattle.std.proofs.Common.{◌≡◌, ℕ, zero, suc, ◌+◌, ◌-◌, ◌<◌, Bool, true, false, List, [], ◌∷◌, ◌++◌, length, refl, sym, ap, subst, ◌∙◌, arith}
use Rattle.std.specs.Prelude.{◌==◌, if◌then◌else◌, Option, Some, None, slice_get, slice_set}
use Rattle.std.proofs.lemmas.Bool.{eqb-true, eqb-false, eq-eqb}
use Rattle.cap_names.specs.declared.identifiers.Handle.{Handle}
use Rattle.cap_ops.specs.declared.ends.Shape.{Shape}
use Rattle.cap_ops.specs.declared.ends.Shape.TheVariants.{Object, Morphism, Two, Four, Truth, Scalar}
use Rattle.cap_ops.specs.declared.fitting.Mismatch.{Mismatch}
use Rattle.cap_ops.specs.declared.keys.Arg.{Arg}
use Rattle.cap_ops.specs.declared.keys.Arg.TheVariants.{Obj, Mor, Num}
use Rattle.cap_ops.specs.Ends.{profile_of, places, ends_in}
use Rattle.cap_ops.specs.Mismatches.{Place, place, all_places, places_of, first_with, IsFirstWrong}
use Rattle.cap_ops.specs.Scan.{scan, met, no_handles}
use Rattle.cap_ops.proofs.Places.{none≢some, some_inner, slice_get-left, slice_get-end}
use Rattle.cap_ops.proofs.Letters.{AllBelow, few_letters}

-- what f tells of the letters of the places are the handles there
abbrev pub AllTell : (ℕ → Option Handle) → List Place → Type 0
AllTell f [] = Unit {0}
AllTell f (p ∷ ps) = (f p.letter ≡ Some p.handle) × AllTell f ps

pub told-at : (f : ℕ → Option Handle) (ps : List Place) → AllTell f ps → (i : ℕ) (p : Place) → slice_get ps i ≡ Some p → f p.letter ≡ Some p.handle
told-at f [] all i p e = absurd (none≢some e)
told-at f (q ∷ ps) all zero p e = subst (λ x. f x.letter ≡ Some x.handle) (some_inner e) all.0
told-at f (q ∷ ps) all (suc i) p e = told-at f ps all.1 i p e

pub first-told : (f : ℕ → Option Handle) (ps : List Place) → AllTell f ps → (l : ℕ) (h : Handle) → first_with ps l ≡ Some h → f l ≡ Some h
first-told f [] all l h e = absurd (none≢some e)
first-told f (p ∷ ps) all l h e = go (p.letter == l) refl e (λ k. first-told f ps all.1 l h k)
  where
    go : (b : Bool) → (p.letter == l) ≡ b → (if b then Some p.handle else first_with ps l) ≡ Some h → (first_with ps l ≡ Some h → f l ≡ Some h) → f l ≡ Some h
    go true same k rest = subst (λ x. f x ≡ Some p.handle) (eqb-true p.letter l same) all.0 ∙ k
    go false differ k rest = rest k

first-left : (ps qs : List Place) (l : ℕ) (h : Handle) → first_with ps l ≡ Some h → first_with (ps ++ qs) l ≡ Some h
first-left [] qs l h e = absurd (none≢some e)
first-left (p ∷ ps) qs l h e = go (p.letter == l) e (λ k. first-left ps qs l h k)
  where
    go : (b : Bool) → (if b then Some p.handle else first_with ps l) ≡ Some h → (first_with ps l ≡ Some h → first_with (ps ++ qs) l ≡ Some h) → (if b then Some p.handle else first_with (ps ++ qs) l) ≡ Some h
    go true k rest = k
    go false k rest = rest k

first-right : (ps qs : List Place) (l : ℕ) → first_with ps l ≡ None → first_with (ps ++ qs) l ≡ first_with qs l
first-right [] qs l e = refl
first-right (p ∷ ps) qs l e = go (p.letter == l) e (λ k. first-right ps qs l k)
  where
    go : (b : Bool) → (if b then Some p.handle else first_with ps l) ≡ None → (first_with ps l ≡ None → first_with (ps ++ qs) l ≡ first_with qs l) → (if b then Some p.handle else first_with (ps ++ qs) l) ≡ first_with qs l
    go true k rest = absurd (none≢some (sym k))
    go false k rest = rest k

AllTell-wider : (f g : ℕ → Option Handle) → ((l : ℕ) (h : Handle) → f l ≡ Some h → g l ≡ Some h) → (ps : List Place) → AllTell f ps → AllTell g ps
AllTell-wider f g w [] all = tt
AllTell-wider f g w (p ∷ ps) all = (w p.letter p.handle all.0, AllTell-wider f g w ps all.1)

AllTell-push : (f : ℕ → Option Handle) (ps : List Place) (p : Place) → AllTell f ps → f p.letter ≡ Some p.handle → AllTell f (ps ++ p ∷ [])
AllTell-push f [] p all e = (e, tt)
AllTell-push f (q ∷ ps) p all e = (all.0, AllTell-push f ps p all.1 e)

-- each place has the first handle of its letter
abbrev pub AllRight : List Place → Type 0
AllRight ps = AllTell (first_with ps) ps

-- the handles of the letters of these places
pub record IsSeen (ps : List Place) (seen : List (Option Handle)) : Type 0 where
  pub long : length seen ≡ 5
  pub is : (l : ℕ) → l < 5 → slice_get seen l ≡ Some (first_with ps l)

abbrev pub AllFew : List Place → Type 0
AllFew [] = Unit {0}
AllFew (p ∷ ps) = (p.letter < 5) × AllFew ps

get-set-same : {X : Type 0} (xs : List X) (i : ℕ) (x : X) → i < length xs → slice_get (slice_set xs i x) i ≡ Some x
get-set-same [] i x h = absurd (omega arith)
get-set-same (y ∷ xs) zero x h = refl
get-set-same (y ∷ xs) (suc i) x h = get-set-same xs i x (omega arith)

get-set-other : {X : Type 0} (xs : List X) (i j : ℕ) (x : X) → (i ≡ j → ⊥) → slice_get (slice_set xs i x) j ≡ slice_get xs j
get-set-other [] i j x differ = refl
get-set-other (y ∷ xs) zero zero x differ = absurd (differ refl)
get-set-other (y ∷ xs) zero (suc j) x differ = refl
get-set-other (y ∷ xs) (suc i) zero x differ = refl
get-set-other (y ∷ xs) (suc i) (suc j) x differ = get-set-other xs i j x (λ e. differ (ap suc e))

length-set : {X : Type 0} (xs : List X) (i : ℕ) (x : X) → length (slice_set xs i x) ≡ length xs
length-set [] i x = refl
length-set (y ∷ xs) zero x = refl
length-set (y ∷ xs) (suc i) x = ap suc (length-set xs i x)

append-one : {X : Type 0} (xs : List X) (x : X) (ys : List X) → (xs ++ x ∷ []) ++ ys ≡ xs ++ x ∷ ys
append-one [] x ys = refl
append-one (y ∷ xs) x ys = ap (λ zs. y ∷ zs) (append-one xs x ys)

length-one : {X : Type 0} (xs : List X) (x : X) → length (xs ++ x ∷ []) ≡ length xs + 1
length-one [] x = refl
length-one (y ∷ xs) x = let e = length-one xs x in omega (arith, e)

-- what a scan says of the whole list of places
pub record Says (all : List Place) (result : Option Mismatch) : Type 0 where
  pub right : result ≡ None → AllRight all
  pub wrong : (m : Mismatch) → result ≡ Some m → IsFirstWrong all m

module _ (before : List Place) (p : Place) (seen : List (Option Handle)) (is : IsSeen before seen) where
  -- the letter is met for the first time
  seen-new : p.letter < 5 → first_with before p.letter ≡ None → IsSeen (before ++ p ∷ []) (slice_set seen p.letter (Some p.handle))
  seen-new few e = record { long = length-set seen p.letter (Some p.handle) ∙ is.long; is = λ l low. go l low (p.letter == l) refl }
    where
      go : (l : ℕ) → l < 5 → (b : Bool) → (p.letter == l) ≡ b → slice_get (slice_set seen p.letter (Some p.handle)) l ≡ Some (first_with (before ++ p ∷ []) l)
      go l low true same =
          let k : p.letter ≡ l = eqb-true p.letter l same in
          let long = is.long in
          let a = get-set-same seen p.letter (Some p.handle) (omega (arith, long)) in
          let b : first_with (before ++ p ∷ []) l ≡ Some p.handle = first-right before (p ∷ []) l (subst (λ x. first_with before x ≡ None) k e) ∙ ap (λ t. if t then Some p.handle else None) same in
          subst (λ x. slice_get (slice_set seen p.letter (Some p.handle)) x ≡ Some (Some p.handle)) k a ∙ ap Some (sym b)
      go l low false differ = get-set-other seen p.letter l (Some p.handle) (λ k. eqb-false p.letter l differ k) ∙ is.is l low ∙ ap Some (other l (first_with before l) refl differ)
        where
          other : (l : ℕ) (o : Option Handle) → first_with before l ≡ o → (p.letter == l) ≡ false → first_with before l ≡ first_with (before ++ p ∷ []) l
          other l None at d = at ∙ sym (first-right before (p ∷ []) l at ∙ ap (λ t. if t then Some p.handle else None) d)
          other l (Some h) at d = at ∙ sym (first-left before (p ∷ []) l h at)

  -- the letter was met with the same handle
  seen-same : first_with before p.letter ≡ Some p.handle → IsSeen (before ++ p ∷ []) seen
  seen-same e = record { long = is.long; is = λ l low. is.is l low ∙ ap Some (go l (first_with before l) refl) }
    where
      go : (l : ℕ) (o : Option Handle) → first_with before l ≡ o → first_with before l ≡ first_with (before ++ p ∷ []) l
      go l (Some h) at = at ∙ sym (first-left before (p ∷ []) l h at)
      go l None at = at ∙ sym (first-right before (p ∷ []) l at ∙ ap (λ t. if t then Some p.handle else None) (differs (p.letter == l) refl))
        where
          differs : (b : Bool) → (p.letter == l) ≡ b → (p.letter == l) ≡ false
          differs true same = absurd (none≢some (sym at ∙ (subst (λ x. first_with before x ≡ Some p.handle) (eqb-true p.letter l same) e)))
          differs false d = d

right-push : (before : List Place) (p : Place) → AllRight before → first_with (before ++ p ∷ []) p.letter ≡ Some p.handle → AllRight (before ++ p ∷ [])
right-push before p all e = AllTell-push (first_with (before ++ p ∷ [])) before p (AllTell-wider (first_with before) (first_with (before ++ p ∷ [])) (λ l h k. first-left before (p ∷ []) l h k) before all) e

abbrev handle_of : ℕ → Handle
handle_of n = record { 0 = n }

same-handle : (h k : Handle) → (h.0 == k.0) ≡ true → h ≡ k
same-handle h k e = ap handle_of (eqb-true h.0 k.0 e)

differ-handle : (h k : Handle) → (h.0 == k.0) ≡ false → h ≡ k → ⊥
differ-handle h k e same = eqb-false h.0 k.0 e (ap (λ x. x.0) same)

abbrev wrong_at : ℕ → Handle → Handle → Mismatch
wrong_at n left right = record { place = n + 1; left = left; right = right }

-- a place with another handle than the first with its letter, after places that are right
first-wrong : (before ps : List Place) (p : Place) (h : Handle) → AllRight before → first_with before p.letter ≡ Some h → (h.0 == p.handle.0) ≡ false → IsFirstWrong (before ++ p ∷ ps) (wrong_at (length before) h p.handle)
first-wrong before ps p h all at differ =
    let e : (length before + 1) - 1 ≡ length before = omega arith in
    record {
      from_one = omega arith;
      wrong = record {
        letter = p.letter;
        there = subst (λ n. slice_get (before ++ p ∷ ps) n ≡ Some p) (sym e) (subst (λ l. slice_get l (length before) ≡ Some p) (append-one before p ps) (slice_get-left (before ++ p ∷ []) ps (length before) (let k = length-one before p in omega (arith, k)) ∙ slice_get-end before p));
        first = first-left before (p ∷ ps) p.letter h at;
        differ = differ-handle h p.handle differ;
      };
      least = λ i low needed found w.
          let inside : i < length before = omega arith in
          let t : slice_get before i ≡ Some (place w.letter found) = sym (slice_get-left before (p ∷ ps) i inside) ∙ w.there in
          let told : first_with before w.letter ≡ Some found = told-at (first_with before) before all i (place w.letter found) t in
          w.differ (some_inner (sym w.first ∙ first-left before (p ∷ ps) w.letter found told));
    }

append-nil : {X : Type 0} (xs : List X) → xs ++ [] ≡ xs
append-nil [] = refl
append-nil (x ∷ xs) = ap (λ ys. x ∷ ys) (append-nil xs)

-- what follows a place, where the rest of the scan says what it should
module _ (before ps : List Place) (p : Place) (seen : List (Option Handle)) (n : ℕ) (many : n ≡ length before) (is : IsSeen before seen) (all : AllRight before) (low : p.letter < 5)
    (rest : (seen' : List (Option Handle)) → IsSeen (before ++ p ∷ []) seen' → AllRight (before ++ p ∷ []) → Says ((before ++ p ∷ []) ++ ps) (scan ps seen' (n + 1))) where
  next : (seen' : List (Option Handle)) → IsSeen (before ++ p ∷ []) seen' → first_with (before ++ p ∷ []) p.letter ≡ Some p.handle → Says (before ++ p ∷ ps) (scan ps seen' (n + 1))
  next seen' is' e = subst (λ l. Says l (scan ps seen' (n + 1))) (append-one before p ps) (rest seen' is' (right-push before p all e))

  decide : (h : Handle) → first_with before p.letter ≡ Some h → (b : Bool) → (h.0 == p.handle.0) ≡ b → Says (before ++ p ∷ ps) (if b then scan ps seen (n + 1) else Some (record { place = n + 1; left = h; right = p.handle }))
  decide h at true same =
      let e : first_with before p.letter ≡ Some p.handle = at ∙ ap Some (same-handle h p.handle same) in
      next seen (seen-same before p seen is e) (first-left before (p ∷ []) p.letter p.handle e)
  decide h at false differ = record {
    right = λ e. absurd (none≢some (sym e));
    wrong = λ m e. subst (IsFirstWrong (before ++ p ∷ ps)) (ap (λ k. wrong_at k h p.handle) (sym many) ∙ some_inner e) (first-wrong before ps p h all at differ);
  }

  at-letter : (o : Option Handle) → first_with before p.letter ≡ o → Says (before ++ p ∷ ps) (met p n (Some o) (scan ps seen (n + 1)) (scan ps (slice_set seen p.letter (Some p.handle)) (n + 1)))
  at-letter None at = next (slice_set seen p.letter (Some p.handle)) (seen-new before p seen is low at) (first-right before (p ∷ []) p.letter at ∙ ap (λ t. if t then Some p.handle else None) (eq-eqb p.letter p.letter refl))
  at-letter (Some h) at = decide h at (h.0 == p.handle.0) refl

  at-place : Says (before ++ p ∷ ps) (scan (p ∷ ps) seen n)
  at-place = subst (λ o. Says (before ++ p ∷ ps) (met p n o (scan ps seen (n + 1)) (scan ps (slice_set seen p.letter (Some p.handle)) (n + 1)))) (sym (is.is p.letter low)) (at-letter (first_with before p.letter) refl)

pub scan-says : (ps before : List Place) (seen : List (Option Handle)) (n : ℕ) → n ≡ length before → IsSeen before seen → AllRight before → AllFew ps → Says (before ++ ps) (scan ps seen n)
scan-says [] before seen n many is all few = record { right = λ e. subst AllRight (sym (append-nil before)) all; wrong = λ m e. absurd (none≢some e) }
scan-says (p ∷ ps) before seen n many is all few =
    at-place before ps p seen n many is all few.0 (λ seen' is' all'. scan-says ps (before ++ p ∷ []) seen' (n + 1) (let k = length-one before p in omega (arith, many, k)) is' all' few.1)

pub seen-none : IsSeen [] no_handles
seen-none = record { long = refl; is = go }
  where
    go : (l : ℕ) → l < 5 → slice_get no_handles l ≡ Some None
    go zero low = refl
    go (suc zero) low = refl
    go (suc (suc zero)) low = refl
    go (suc (suc (suc zero))) low = refl
    go (suc (suc (suc (suc zero)))) low = refl
    go (suc (suc (suc (suc (suc l))))) low = absurd (omega arith)

-- the letters of the places are those of the shapes
few-left : (xs ys : List ℕ) → AllBelow 5 (xs ++ ys) → AllBelow 5 ys
few-left [] ys h = h
few-left (x ∷ xs) ys h = few-left xs ys h.1

few-places : {M : Type 0} (ss : List (Shape ℕ)) (args : List (Arg M)) → AllBelow 5 (places ss) → AllFew (all_places ss args)
few-places [] args few = tt
few-places (s ∷ ss) [] few = tt
few-places (Object x ∷ ss) (Obj h ∷ args) few = (few.0, few-places ss args few.1)
few-places (Morphism e ∷ ss) (Mor f ∷ args) few = (few.0, (few.1.0, few-places ss args few.1.1))
few-places (Object x ∷ ss) (Mor f ∷ args) few = few-places ss args (few-left (x ∷ []) (places ss) few)
few-places (Object x ∷ ss) (Num n ∷ args) few = few-places ss args (few-left (x ∷ []) (places ss) few)
few-places (Morphism e ∷ ss) (Obj h ∷ args) few = few-places ss args (few-left (e.src ∷ e.tgt ∷ []) (places ss) few)
few-places (Morphism e ∷ ss) (Num n ∷ args) few = few-places ss args (few-left (e.src ∷ e.tgt ∷ []) (places ss) few)
few-places (Two d e ∷ ss) (a ∷ args) few = few-places ss args (few-left (ends_in (Two d e)) (places ss) few)
few-places (Four b c d e ∷ ss) (a ∷ args) few = few-places ss args (few-left (ends_in (Four b c d e)) (places ss) few)
few-places (Truth ∷ ss) (a ∷ args) few = few-places ss args few
few-places (Scalar ∷ ss) (a ∷ args) few = few-places ss args few

pub ends-say : {M : Type 0} (op : ℕ) (args : List (Arg M)) → Says (places_of op args) (scan (places_of op args) no_handles 0)
ends-say op args = scan-says (places_of op args) [] no_handles 0 refl seen-none tt (few-places (profile_of op).arguments args (few_letters op).0)
