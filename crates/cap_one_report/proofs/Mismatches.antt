-- Arguments have one first wrong end at most, and none where they fit.
use Rattle.std.proofs.Common.{◌≡◌, ℕ, zero, suc, ◌-◌, ◌<◌, ◌≤◌, Bool, true, false, List, [], ◌∷◌, ◌++◌, Option, Some, refl, sym, ap, subst, ◌∙◌, inl, inr, arith}
use Rattle.std.specs.Prelude.{◌==◌, if◌then◌else◌, slice_get}
use Rattle.std.proofs.lemmas.Bool.{eqb-true}
use Rattle.cap_names.specs.declared.identifiers.Handle.{Handle}
use Rattle.cap_ops.specs.declared.ends.Shape.{Shape}
use Rattle.cap_ops.specs.declared.ends.Shape.TheVariants.{Object, Morphism, Two, Four, Truth, Scalar}
use Rattle.cap_ops.specs.declared.fitting.Mismatch.{Mismatch}
use Rattle.cap_ops.specs.declared.keys.Arg.{Arg}
use Rattle.cap_ops.specs.declared.keys.Arg.TheVariants.{Obj, Mor, Num}
use Rattle.cap_ops.specs.Arrows.{over, argument, arguments}
use Rattle.cap_ops.specs.Ends.{profile_of}
use Rattle.cap_ops.specs.Mismatches.{Place, argument_places, all_places, places_of, first_with, IsWrong, IsFirstWrong, IsMismatch}
use Rattle.cap_ops.specs.Values.{HasShape, HaveShapes, Fits}
use Rattle.cap_ops.proofs.DerivationsBounds.{lt_or_le}
use Rattle.cap_ops.proofs.Places.{none≢some, some_inner}

abbrev wrong_at : ℕ → Handle → Handle → Mismatch
wrong_at n left right = record { place = n; left = left; right = right }

wrong-one : (ends : List Place) (i : ℕ) (a b c d : Handle) → IsWrong ends i a b → IsWrong ends i c d → (a ≡ c) × (b ≡ d)
wrong-one ends i a b c d F G =
    let same = some_inner (sym F.there ∙ G.there) in
    let letters : F.letter ≡ G.letter = ap (λ (p : Place). p.letter) same in
    (some_inner (sym F.first ∙ ap (first_with ends) letters ∙ G.first), ap (λ (p : Place). p.handle) same)

not-before : (ends : List Place) (m n : Mismatch) → IsFirstWrong ends m → IsFirstWrong ends n → m.place < n.place → ⊥
not-before ends m n F G h = G.least (m.place - 1) (let one = F.from_one in omega arith) m.left m.right F.wrong

pub mismatch-one : (ends : List Place) (m n : Mismatch) → IsFirstWrong ends m → IsFirstWrong ends n → m ≡ n
mismatch-one ends m n F G =
    let le : n.place ≤ m.place = elim (lt_or_le m.place n.place) [ inl h ↦ absurd (not-before ends m n F G h) | inr h ↦ h ] in
    let ge : m.place ≤ n.place = elim (lt_or_le n.place m.place) [ inl h ↦ absurd (not-before ends n m G F h) | inr h ↦ h ] in
    let e : m.place ≡ n.place = omega arith in
    let w = wrong-one ends (n.place - 1) m.left m.right n.left n.right (subst (λ i. IsWrong ends (i - 1) m.left m.right) e F.wrong) G.wrong in
    ap (λ i. wrong_at i m.left m.right) e ∙ ap (λ h. wrong_at n.place h m.right) w.0 ∙ ap (wrong_at n.place n.left) w.1

-- each end has the object that its letter stands for
module _ (objects : ℕ → Option Handle) where
  abbrev Hold : List Place → Type 0
  Hold [] = Unit {0}
  Hold (p ∷ ps) = (objects p.letter ≡ Some p.handle) × Hold ps

  hold-both : (ps qs : List Place) → Hold ps → Hold qs → Hold (ps ++ qs)
  hold-both [] qs h k = k
  hold-both (p ∷ ps) qs h k = (h.0, hold-both ps qs h.1 k)

  hold-at : (ps : List Place) (i : ℕ) (p : Place) → Hold ps → slice_get ps i ≡ Some p → objects p.letter ≡ Some p.handle
  hold-at [] i p h e = absurd (none≢some e)
  hold-at (q ∷ ps) zero p h e = subst (λ p. objects p.letter ≡ Some p.handle) (some_inner e) h.0
  hold-at (q ∷ ps) (suc i) p h e = hold-at ps i p h.1 e

  hold-first : (ps : List Place) (letter : ℕ) (k : Handle) → Hold ps → first_with ps letter ≡ Some k → objects letter ≡ Some k
  hold-first [] letter k h e = absurd (none≢some e)
  hold-first (p ∷ ps) letter k h e = go (λ f. hold-first ps letter k h.1 f) (p.letter == letter) refl e
    where
      go : (first_with ps letter ≡ Some k → objects letter ≡ Some k) → (b : Bool) → (p.letter == letter) ≡ b → (if b then Some p.handle else first_with ps letter) ≡ Some k → objects letter ≡ Some k
      go more true is f = subst (λ l. objects l ≡ Some k) (eqb-true p.letter letter is) (h.0 ∙ f)
      go more false is f = more f

  module _ {M : Type 0} (p : ℕ) where
    argument-holds : (s : Shape ℕ) (a : Arg M) → HasShape (over p) objects s (argument a) → Hold (argument_places s a)
    argument-holds (Object x) (Obj h) f = (f, tt)
    argument-holds (Object x) (Mor g) f = absurd f
    argument-holds (Object x) (Num n) f = absurd f
    argument-holds (Morphism e) (Mor g) f = (f.0, (f.1, tt))
    argument-holds (Morphism e) (Obj h) f = absurd f
    argument-holds (Morphism e) (Num n) f = absurd f
    argument-holds (Two d e) _ f = tt
    argument-holds (Four a b c d) _ f = tt
    argument-holds Truth _ f = tt
    argument-holds Scalar _ f = tt

    all-hold : (ss : List (Shape ℕ)) (args : List (Arg M)) → HaveShapes (over p) objects ss (arguments args) → Hold (all_places ss args)
    all-hold [] [] f = tt
    all-hold [] (a ∷ args) f = absurd f
    all-hold (s ∷ ss) [] f = absurd f
    all-hold (s ∷ ss) (a ∷ args) f = hold-both (argument_places s a) (all_places ss args) (argument-holds s a f.0) (all-hold ss args f.1)

pub fits-right : {M : Type 0} (p op : ℕ) (args : List (Arg M)) (m : Mismatch) → Fits (over p) op (arguments args) → IsMismatch op args m → ⊥
fits-right p op args m F W =
    let h = all-hold F.objects p (profile_of op).arguments args F.arguments in
    let there = hold-at F.objects (places_of op args) (m.place - 1) _ h W.wrong.there in
    let first = hold-first F.objects (places_of op args) W.wrong.letter m.left h W.wrong.first in
    W.wrong.differ (some_inner (sym first ∙ there))
