-- New objects that are used stand at the letters that only the answer has; and what a value names.
use Rattle.std.proofs.Common.{◌≡◌, ℕ, ◌<◌, true, false, Bool, List, [], ◌∷◌, ◌++◌, length, refl, sym, ap, subst, ◌∙◌, inl, inr, arith}
use Rattle.std.specs.Prelude.{Option, Some, slice_get}
use Rattle.std.specs.List.{Contains}
use Rattle.cap_names.specs.declared.identifiers.Handle.{Handle}
use Rattle.cap_ops.specs.declared.arrows.End.{End}
use Rattle.cap_ops.specs.declared.arrows.End.TheVariants.{Old, New}
use Rattle.cap_ops.specs.declared.ends.Ends.{Ends}
use Rattle.cap_ops.specs.declared.ends.Shape.{Shape}
use Rattle.cap_ops.specs.declared.ends.Shape.TheVariants.{Object, Morphism, Two, Four, Truth, Scalar}
use Rattle.cap_ops.specs.declared.keys.Value.{Value as Answer}
use Rattle.cap_ops.specs.Ends.{profile_of, ends_in, places, IsNew, new_letters}
use Rattle.cap_ops.specs.Values.{object, morphism, two, four, truth, scalar, none, HasEnds, HasShape, HaveShapes, FitsWithAnswer}
use Rattle.cap_ops.specs.Arrows.{Between, ValueOver, over, old, olds, named_arrow}
use Rattle.cap_ops.specs.Primitives.{AreUsed}
use Rattle.cap_ops.specs.Once.{is_among, once}
use Rattle.cap_ops.specs.Mentions.{number_of, mentions, mentioned}
use Rattle.cap_ops.specs.Fresh.{StandAtNew, UsedStandAtNew, NamesEachOnce}
use Rattle.cap_ops.proofs.Places.{Among, Among-either, slice_get-there}
use Rattle.cap_ops.proofs.Once.{among-contained, contained-among, among-is, is-among, once-in, once-finds, once-apart}
use Rattle.std.proofs.lemmas.Option.{slice_get_within, slice_get-get_or, get_or_from_slice_get}

-- the new letters of some operations: Identity, ZeroObject, DirectSum, Kernel, Pullback, Homology
identity-new : new_letters (profile_of 1) ≡ []
identity-new = refl

zero_object-new : new_letters (profile_of 10) ≡ 0 ∷ []
zero_object-new = refl

direct_sum-new : new_letters (profile_of 11) ≡ 2 ∷ []
direct_sum-new = refl

kernel-new : new_letters (profile_of 16) ≡ 2 ∷ []
kernel-new = refl

pullback-new : new_letters (profile_of 34) ≡ 3 ∷ []
pullback-new = refl

homology-new : new_letters (profile_of 43) ≡ 3 ∷ 4 ∷ []
homology-new = refl

same-number : (x y : ℕ) → x ≡ y → x ≡ y
same-number x y e = e

abbrev IsTold : (ℕ → Option End) → ℕ → Type 0
IsTold ends letter = (h : Handle) × (ends letter ≡ Some (Old h))

module _ {M : Type 0} (p : ℕ) (ends : ℕ → Option End) where
  ends-told : (e : Ends ℕ) (f : Between Handle M) → HasEnds (over p) ends e (named_arrow Old f) → (letter : ℕ) → Among (e.src ∷ e.tgt ∷ []) letter → IsTold ends letter
  ends-told e f h letter (inl m) = (f.src, subst (λ l. ends l ≡ Some (Old f.src)) m h.0)
  ends-told e f h letter (inr (inl m)) = (f.tgt, subst (λ l. ends l ≡ Some (Old f.tgt)) m h.1)
  ends-told e f h letter (inr (inr m)) = absurd m

  shape-told : (s : Shape ℕ) (v : ValueOver Handle M) → HasShape (over p) ends s (old v) → (letter : ℕ) → Among (ends_in s) letter → IsTold ends letter
  shape-told (Object x) (object a) h letter (inl m) = (a, subst (λ l. ends l ≡ Some (Old a)) m h)
  shape-told (Object x) (object a) h letter (inr m) = absurd m
  shape-told (Morphism e) (morphism f) h letter m = ends-told e f h letter m
  shape-told (Two d e) (two f g) h letter (inl m) = ends-told d f h.0 letter (inl m)
  shape-told (Two d e) (two f g) h letter (inr (inl m)) = ends-told d f h.0 letter (inr (inl m))
  shape-told (Two d e) (two f g) h letter (inr (inr m)) = ends-told e g h.1 letter m
  shape-told (Four a b c d) (four f g i j) h letter (inl m) = ends-told a f h.0 letter (inl m)
  shape-told (Four a b c d) (four f g i j) h letter (inr (inl m)) = ends-told a f h.0 letter (inr (inl m))
  shape-told (Four a b c d) (four f g i j) h letter (inr (inr (inl m))) = ends-told b g h.1 letter (inl m)
  shape-told (Four a b c d) (four f g i j) h letter (inr (inr (inr (inl m)))) = ends-told b g h.1 letter (inr (inl m))
  shape-told (Four a b c d) (four f g i j) h letter (inr (inr (inr (inr (inl m))))) = ends-told c i h.2 letter (inl m)
  shape-told (Four a b c d) (four f g i j) h letter (inr (inr (inr (inr (inr (inl m)))))) = ends-told c i h.2 letter (inr (inl m))
  shape-told (Four a b c d) (four f g i j) h letter (inr (inr (inr (inr (inr (inr m)))))) = ends-told d j h.3 letter m
  shape-told Truth v h letter m = absurd m
  shape-told Scalar v h letter m = absurd m
  shape-told _ _ h letter m = absurd h

  shapes-told : (ss : List (Shape ℕ)) (vs : List (ValueOver Handle M)) → HaveShapes (over p) ends ss (olds vs) → (letter : ℕ) → Among (places ss) letter → IsTold ends letter
  shapes-told [] vs h letter m = absurd m
  shapes-told (s ∷ ss) [] h letter m = absurd h
  shapes-told (s ∷ ss) (v ∷ vs) h letter m = elim (Among-either (ends_in s) (places ss) letter m) [ inl a ↦ shape-told s v h.0 letter a | inr b ↦ shapes-told ss vs h.1 letter b ]

-- a letter is new where it is not among those of the arguments
not-among : (xs : List ℕ) (letter : ℕ) → (Contains xs letter → ⊥) → is_among (λ x. x) xs letter ≡ false
not-among xs letter new = go (is_among (λ x. x) xs letter) (λ e. new (contained-among xs letter (among-is (λ x. x) same-number xs letter e)))
  where
    go : (b : Bool) → (b ≡ true → ⊥) → b ≡ false
    go true f = absurd (f refl)
    go false f = refl

is-new : (xs : List ℕ) (letter : ℕ) → is_among (λ x. x) xs letter ≡ false → Contains xs letter → ⊥
is-new xs letter e c = let t : true ≡ false = sym (is-among (λ x. x) same-number xs letter (among-contained xs letter c)) ∙ e in absurd cc

pub used-stand-at-new : {O M : Type 0} → UsedStandAtNew O M
used-stand-at-new p op args value fresh fits used =
    let taken = places (profile_of op).arguments in
    let given = ends_in (profile_of op).answer in
    record {
      told = λ letter c. shapes-told p fits.objects (profile_of op).arguments args fits.arguments letter (among-contained taken letter c);
      new = λ letter c n. (let found = once-finds (λ x. x) same-number taken given letter (among-contained given letter c) (not-among taken letter n) in (found.0, used.in_order found.0 letter found.1));
      each = λ some k inside. (
          let all = used.all some in
          let there = slice_get-there (new_letters (profile_of op)) k (omega (arith, inside, all)) in
          let is = once-in (λ x. x) same-number taken given k there.0 there.1 in
          (there.0, contained-among given there.0 is.0, is-new taken there.0 is.1, used.in_order k there.0 there.1));
    }

abbrev handle : ℕ → Handle
handle n = record { 0 = n }

same-handle : (h k : Handle) → number_of h ≡ number_of k → h ≡ k
same-handle h k e = ap handle e

pub names-each-once : {M : Type 0} (v : Answer M) → NamesEachOnce v
names-each-once v = record {
  same = λ h. (
    (λ c. contained-among (mentions v) h (once-in number_of same-handle [] (mentions v) c.0 h (slice_get-get_or (mentioned v) c.0 h c.1 ∙ ap Some c.2)).0),
    (λ c. let f = once-finds number_of same-handle [] (mentions v) h (among-contained (mentions v) h c) refl in (f.0, slice_get_within (mentioned v) f.0 h f.1, get_or_from_slice_get (mentioned v) f.0 h h f.1)),
  );
  once = λ i j h e f. once-apart number_of same-handle [] (mentions v) i j h e f;
}
