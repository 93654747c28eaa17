-- Values of a shape: other names for the objects, names that tell more, and names that tell the same.
use Rattle.std.proofs.Common.{◌≡◌, ℕ, List, [], ◌∷◌, ◌++◌, refl, sym, ap, ◌∙◌, inl, inr}
use Rattle.std.specs.Prelude.{Option, Some, None, map}
use Rattle.std.proofs.lemmas.List.{map-append}
use Rattle.cap_ops.specs.declared.ends.Ends.{Ends}
use Rattle.cap_ops.specs.declared.ends.Shape.{Shape}
use Rattle.cap_ops.specs.declared.ends.Shape.TheVariants.{Object, Morphism, Two, Four, Truth, Scalar}
use Rattle.cap_ops.specs.Ends.{places, ends_in, renamed}
use Rattle.cap_ops.specs.Values.{Value, object, morphism, two, four, truth, scalar, none, Setting, HasEnds, HasShape, HaveShapes}
use Rattle.cap_ops.proofs.Places.{Among, Among-left, Among-right, same-names}

module _ {Obj Mor : Type 0} (S : Setting Obj Mor) where
  -- other names for the same objects
  pub HasShape-renamed : {X Y : Type 0} (object_of : Y → Option Obj) (σ : X → Y) (s : Shape X) (v : Value Obj Mor) → HasShape S object_of (renamed σ s) v → HasShape S (λ x. object_of (σ x)) s v
  HasShape-renamed f σ (Object x) (object a) h = h
  HasShape-renamed f σ (Morphism e) (morphism m) h = h
  HasShape-renamed f σ (Two d e) (two p q) h = h
  HasShape-renamed f σ (Four a b c d) (four p q r s) h = h
  HasShape-renamed f σ Truth (truth b) h = tt
  HasShape-renamed f σ Scalar (scalar n) h = tt
  HasShape-renamed f σ (Object x) _ h = absurd h
  HasShape-renamed f σ (Morphism e) _ h = absurd h
  HasShape-renamed f σ (Two d e) _ h = absurd h
  HasShape-renamed f σ (Four a b c d) _ h = absurd h
  HasShape-renamed f σ Truth _ h = absurd h
  HasShape-renamed f σ Scalar _ h = absurd h

  pub renamed-HasShape : {X Y : Type 0} (object_of : Y → Option Obj) (σ : X → Y) (s : Shape X) (v : Value Obj Mor) → HasShape S (λ x. object_of (σ x)) s v → HasShape S object_of (renamed σ s) v
  renamed-HasShape f σ (Object x) (object a) h = h
  renamed-HasShape f σ (Morphism e) (morphism m) h = h
  renamed-HasShape f σ (Two d e) (two p q) h = h
  renamed-HasShape f σ (Four a b c d) (four p q r s) h = h
  renamed-HasShape f σ Truth (truth b) h = tt
  renamed-HasShape f σ Scalar (scalar n) h = tt
  renamed-HasShape f σ (Object x) _ h = absurd h
  renamed-HasShape f σ (Morphism e) _ h = absurd h
  renamed-HasShape f σ (Two d e) _ h = absurd h
  renamed-HasShape f σ (Four a b c d) _ h = absurd h
  renamed-HasShape f σ Truth _ h = absurd h
  renamed-HasShape f σ Scalar _ h = absurd h

  -- g tells at least what f tells of these names
  abbrev pub Wider : {X : Type 0} → (X → Option Obj) → (X → Option Obj) → List X → Type 0
  Wider {X} f g xs = (x : X) → Among xs x → (a : Obj) → f x ≡ Some a → g x ≡ Some a

  abbrev both : {X : Type 0} → Ends X → List X
  both e = e.src ∷ e.tgt ∷ []

  HasEnds-wider : {X : Type 0} (f g : X → Option Obj) (e : Ends X) (m : Mor) → Wider f g (e.src ∷ e.tgt ∷ []) → HasEnds S f e m → HasEnds S g e m
  HasEnds-wider f g e m w h = (w e.src (inl refl) (S.source m) h.0, w e.tgt (inr (inl refl)) (S.target m) h.1)

  Wider-left : {X : Type 0} (f g : X → Option Obj) (xs ys : List X) → Wider f g (xs ++ ys) → Wider f g xs
  Wider-left f g xs ys w x m = w x (Among-left xs ys x m)

  Wider-right : {X : Type 0} (f g : X → Option Obj) (xs ys : List X) → Wider f g (xs ++ ys) → Wider f g ys
  Wider-right f g xs ys w x m = w x (Among-right xs ys x m)

  pub HasShape-wider : {X : Type 0} (f g : X → Option Obj) (s : Shape X) (v : Value Obj Mor) → Wider f g (ends_in s) → HasShape S f s v → HasShape S g s v
  HasShape-wider f g (Object x) (object a) w h = w x (inl refl) a h
  HasShape-wider f g (Morphism e) (morphism m) w h = HasEnds-wider f g e m w h
  HasShape-wider f g (Two d e) (two p q) w h = (HasEnds-wider f g d p (Wider-left f g (both d) (both e) w) h.0, HasEnds-wider f g e q (Wider-right f g (both d) (both e) w) h.1)
  HasShape-wider f g (Four a b c d) (four p q r s) w h =
      let x = Wider-right f g (both a) (both b ++ (both c ++ both d)) w in
      let y = Wider-right f g (both b) (both c ++ both d) x in (
        HasEnds-wider f g a p (Wider-left f g (both a) (both b ++ (both c ++ both d)) w) h.0,
        HasEnds-wider f g b q (Wider-left f g (both b) (both c ++ both d) x) h.1,
        HasEnds-wider f g c r (Wider-left f g (both c) (both d) y) h.2,
        HasEnds-wider f g d s (Wider-right f g (both c) (both d) y) h.3,
      )
  HasShape-wider f g Truth (truth b) w h = tt
  HasShape-wider f g Scalar (scalar n) w h = tt
  HasShape-wider f g (Object x) _ w h = absurd h
  HasShape-wider f g (Morphism e) _ w h = absurd h
  HasShape-wider f g (Two d e) _ w h = absurd h
  HasShape-wider f g (Four a b c d) _ w h = absurd h
  HasShape-wider f g Truth _ w h = absurd h
  HasShape-wider f g Scalar _ w h = absurd h

  pub HaveShapes-wider : {X : Type 0} (f g : X → Option Obj) (ss : List (Shape X)) (vs : List (Value Obj Mor)) → Wider f g (places ss) → HaveShapes S f ss vs → HaveShapes S g ss vs
  HaveShapes-wider f g [] [] w h = tt
  HaveShapes-wider f g (s ∷ ss) (v ∷ vs) w h = (HasShape-wider f g s v (Wider-left f g (ends_in s) (places ss) w) h.0, HaveShapes-wider f g ss vs (Wider-right f g (ends_in s) (places ss) w) h.1)
  HaveShapes-wider f g [] (v ∷ vs) w h = absurd h
  HaveShapes-wider f g (s ∷ ss) [] w h = absurd h

  pub HaveShapes-renamed : {X Y : Type 0} (object_of : Y → Option Obj) (σ : X → Y) (ss : List (Shape X)) (vs : List (Value Obj Mor)) → HaveShapes S object_of (map (renamed σ) ss) vs → HaveShapes S (λ x. object_of (σ x)) ss vs
  HaveShapes-renamed f σ [] [] h = tt
  HaveShapes-renamed f σ (s ∷ ss) (v ∷ vs) h = (HasShape-renamed f σ s v h.0, HaveShapes-renamed f σ ss vs h.1)
  HaveShapes-renamed f σ [] (v ∷ vs) h = absurd h
  HaveShapes-renamed f σ (s ∷ ss) [] h = absurd h

  -- the objects at the ends of a value, a source before its target
  objects_in : Value Obj Mor → List Obj
  objects_in (object a) = a ∷ []
  objects_in (morphism m) = S.source m ∷ S.target m ∷ []
  objects_in (two p q) = S.source p ∷ S.target p ∷ S.source q ∷ S.target q ∷ []
  objects_in (four p q r s) = S.source p ∷ S.target p ∷ S.source q ∷ S.target q ∷ S.source r ∷ S.target r ∷ S.source s ∷ S.target s ∷ []
  objects_in _ = []

  objects_of : List (Value Obj Mor) → List Obj
  objects_of [] = []
  objects_of (v ∷ vs) = objects_in v ++ objects_of vs

  named-objects : {X : Type 0} (f : X → Option Obj) (s : Shape X) (v : Value Obj Mor) → HasShape S f s v → map f (ends_in s) ≡ map Some (objects_in v)
  unfolding objects_in
  named-objects f (Object x) (object a) h = cc
  named-objects f (Morphism e) (morphism m) h = let a = h.0 in let b = h.1 in cc
  named-objects f (Two d e) (two p q) h = let a = h.0.0 in let b = h.0.1 in let c = h.1.0 in let k = h.1.1 in cc
  named-objects f (Four c d e g) (four p q r s) h =
      let h1 = h.0.0 in let h2 = h.0.1 in let h3 = h.1.0 in let h4 = h.1.1 in let h5 = h.2.0 in let h6 = h.2.1 in let h7 = h.3.0 in let h8 = h.3.1 in cc
  named-objects f Truth (truth b) h = refl
  named-objects f Scalar (scalar n) h = refl
  named-objects f (Object x) _ h = absurd h
  named-objects f (Morphism e) _ h = absurd h
  named-objects f (Two d e) _ h = absurd h
  named-objects f (Four a b c d) _ h = absurd h
  named-objects f Truth _ h = absurd h
  named-objects f Scalar _ h = absurd h

  all-named : {X : Type 0} (f : X → Option Obj) (ss : List (Shape X)) (vs : List (Value Obj Mor)) → HaveShapes S f ss vs → map f (places ss) ≡ map Some (objects_of vs)
  unfolding objects_of
  all-named f [] [] h = refl
  all-named f (s ∷ ss) (v ∷ vs) h = map-append f (ends_in s) (places ss) ∙ rw (named-objects f s v h.0, all-named f ss vs h.1) (sym (map-append Some (objects_in v) (objects_of vs)))
  all-named f [] (v ∷ vs) h = absurd h
  all-named f (s ∷ ss) [] h = absurd h

  -- what two assignments of objects tell of the letters of the same arguments is the same
  pub same-objects : (f g : ℕ → Option Obj) (ss : List (Shape ℕ)) (vs : List (Value Obj Mor)) → HaveShapes S f ss vs → HaveShapes S g ss vs → (x : ℕ) → Among (places ss) x → f x ≡ g x
  same-objects f g ss vs h k x m = same-names f g (places ss) x (all-named f ss vs h ∙ sym (all-named g ss vs k)) m
