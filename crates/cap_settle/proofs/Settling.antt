-- The laws of values whose new objects get handles.
use Rattle.std.proofs.Common.{◌≡◌, ℕ, List, [], ◌∷◌, Option, Some, refl, ap, subst, ◌⊎◌, inl, inr}
use Rattle.std.specs.Prelude.{option_map}
use Rattle.cap_names.specs.declared.identifiers.Handle.{Handle}
use Rattle.cap_ops.specs.declared.arrows.End.{End}
use Rattle.cap_ops.specs.declared.arrows.End.TheVariants.{Old, New}
use Rattle.cap_ops.specs.declared.ends.Ends.{Ends}
use Rattle.cap_ops.specs.declared.ends.Shape.{Shape}
use Rattle.cap_ops.specs.declared.ends.Shape.TheVariants.{Object, Morphism, Two, Four, Truth, Scalar}
use Rattle.cap_ops.specs.declared.keys.Out.TheVariants.{One as OutOne, Many as OutMany, Truth as OutTruth, Nothing as OutNothing}
use Rattle.cap_ops.specs.Values.{object, morphism, two, four, truth, scalar, none, HasEnds, HasShape, HaveShapes}
use Rattle.cap_ops.specs.Ends.{profile_of}
use Rattle.cap_ops.specs.Arrows.{Between, ValueOver, over, olds, old, named, named_arrow}
use Rattle.cap_ops.specs.Told.{TellsArrow, Tells, end_object}
use Rattle.cap_settle.specs.Settled.{settled_end}
use Rattle.cap_settle.specs.Laws.{TellsNew, SettledTells, SettledValue, SettledFits}

module _ {O : Type 0} (told : Handle → Option O) (fresh : List O) (count : ℕ) (told' : Handle → Option O) (T : TellsNew told fresh count told') where
  end-told : (e : End) (o : O) → end_object told fresh e ≡ Some o → told' (settled_end count e) ≡ Some o
  end-told (Old h) o t = T.stays h o t
  end-told (New k) o t = T.news k o t

  arrow-told : {M : Type 0} (f : Between End M) (g : Between O M) → TellsArrow (end_object told fresh) f g → TellsArrow told' (named_arrow (settled_end count) f) g
  arrow-told f g t = record { src = end-told f.src g.src t.src; tgt = end-told f.tgt g.tgt t.tgt; value = t.value }

  value-told : {M : Type 0} (v : ValueOver End M) (d : ValueOver O M) → Tells (end_object told fresh) v d → Tells told' (named (settled_end count) v) d
  value-told (object h) (object o) t = end-told h o t
  value-told (morphism f) (morphism g) t = arrow-told f g t
  value-told (two f1 f2) (two g1 g2) t = (arrow-told f1 g1 t.0, arrow-told f2 g2 t.1)
  value-told (four f1 f2 f3 f4) (four g1 g2 g3 g4) t = (arrow-told f1 g1 t.0, arrow-told f2 g2 t.1, arrow-told f3 g3 t.2, arrow-told f4 g4 t.3)
  value-told (truth b) (truth c) t = t
  value-told (scalar m) (scalar n) t = t
  value-told none none t = t
  value-told _ _ t = absurd t

pub settled_tells : {O M : Type 0} → SettledTells O M
settled_tells told fresh count told' T v d t = value-told told fresh count told' T v d t

pub settled_value : {M : Type 0} → SettledValue M
settled_value count (OutOne f) = refl
settled_value count (OutMany []) = refl
settled_value count (OutMany (p ∷ [])) = refl
settled_value count (OutMany (p ∷ q ∷ [])) = refl
settled_value count (OutMany (p ∷ q ∷ r ∷ [])) = refl
settled_value count (OutMany (p ∷ q ∷ r ∷ s ∷ [])) = refl
settled_value count (OutMany (p ∷ q ∷ r ∷ s ∷ u ∷ more)) = refl
settled_value count (OutTruth b) = refl
settled_value count OutNothing = refl

-- the handles of the objects of letters
names : ℕ → (ℕ → Option End) → ℕ → Option Handle
names count o l = option_map (settled_end count) (o l)

module _ {M : Type 0} (count p : ℕ) (o : ℕ → Option End) where
  ends-named : (e : Ends ℕ) (f : Between End M) → HasEnds (over p) o e f → HasEnds (over p) (names count o) e (named_arrow (settled_end count) f)
  unfolding names
  ends-named e f h = (ap (option_map (settled_end count)) h.0, ap (option_map (settled_end count)) h.1)

  shape-named : (s : Shape ℕ) (v : ValueOver End M) → HasShape (over p) o s v → HasShape (over p) (names count o) s (named (settled_end count) v)
  unfolding names
  shape-named (Object x) (object a) h = ap (option_map (settled_end count)) h
  shape-named (Morphism e) (morphism f) h = ends-named e f h
  shape-named (Two d e) (two f g) h = (ends-named d f h.0, ends-named e g h.1)
  shape-named (Four a b c d) (four f g i j) h = (ends-named a f h.0, ends-named b g h.1, ends-named c i h.2, ends-named d j h.3)
  shape-named Truth (truth b) h = tt
  shape-named Scalar (scalar n) h = tt
  shape-named _ _ h = absurd h

  named-old : (v : ValueOver Handle M) → named (settled_end count) (old v) ≡ v
  named-old (object a) = refl
  named-old (morphism f) = refl
  named-old (two f g) = refl
  named-old (four f g h i) = refl
  named-old (truth b) = refl
  named-old (scalar n) = refl
  named-old none = refl

  shapes-named : (ss : List (Shape ℕ)) (vs : List (ValueOver Handle M)) → HaveShapes (over p) o ss (olds vs) → HaveShapes (over p) (names count o) ss vs
  shapes-named [] [] h = tt
  shapes-named (s ∷ ss) (v ∷ vs) h = (subst (HasShape (over p) (names count o) s) (named-old v) (shape-named s (old v) h.0), shapes-named ss vs h.1)
  shapes-named [] (v ∷ vs) h = absurd h
  shapes-named (s ∷ ss) [] h = absurd h

  answer-named : (s : Shape ℕ) (v : ValueOver End M) → (v ≡ none) ⊎ HasShape (over p) o s v → (named (settled_end count) v ≡ none) ⊎ HasShape (over p) (names count o) s (named (settled_end count) v)
  answer-named s v (inl e) = inl (ap (named (settled_end count)) e)
  answer-named s v (inr h) = inr (shape-named s v h)

pub settled_fits : {M : Type 0} → SettledFits M
settled_fits count p op args v F = record {
  operation = F.operation;
  objects = names count F.objects;
  arguments = shapes-named count p F.objects (profile_of op).arguments args F.arguments;
  answer = answer-named count p F.objects (profile_of op).answer v F.answer;
}
