-- The values that operations take and give, and when arguments fit an operation.
use Rattle.std.specs.Prelude.{◌≡◌, ℕ, Bool, List, [], ◌∷◌, Option, Some, ◌⊎◌}
use Rattle.cap_ops.specs.declared.ends.Ends.{Ends}
use Rattle.cap_ops.specs.declared.ends.Shape.{Shape}
use Rattle.cap_ops.specs.declared.ends.Shape.TheVariants.{Object, Morphism, Two, Four, Truth, Scalar}
use Rattle.cap_ops.specs.Ends.{IsOperation, profile_of}

-- objects and morphisms may be data of a category, or handles, or names
pub data Value (Obj Mor : Type 0) : Type 0 where
  object : Obj → Value Obj Mor
  morphism : Mor → Value Obj Mor
  two : Mor → Mor → Value Obj Mor
  four : Mor → Mor → Mor → Mor → Value Obj Mor
  truth : Bool → Value Obj Mor
  scalar : ℕ → Value Obj Mor
  none : Value Obj Mor

-- what rules read of a category: the ends of a morphism, and the scalar −1
pub record Setting (Obj Mor : Type 0) : Type 0 where
  pub source : Mor → Obj
  pub target : Mor → Obj
  pub minus_one : ℕ

-- the morphism has these ends, where `object_of` tells the objects that names stand for
abbrev pub HasEnds : {X Obj Mor : Type 0} → Setting Obj Mor → (X → Option Obj) → Ends X → Mor → Type 0
HasEnds S object_of e f = (object_of e.src ≡ Some (S.source f)) × (object_of e.tgt ≡ Some (S.target f))

-- the value has this sort and these ends
abbrev pub HasShape : {X Obj Mor : Type 0} → Setting Obj Mor → (X → Option Obj) → Shape X → Value Obj Mor → Type 0
HasShape S object_of (Object x) (object a) = object_of x ≡ Some a
HasShape S object_of (Morphism e) (morphism f) = HasEnds S object_of e f
HasShape S object_of (Two d e) (two f g) = HasEnds S object_of d f × HasEnds S object_of e g
HasShape S object_of (Four c d e f) (four p q r s) = HasEnds S object_of c p × HasEnds S object_of d q × HasEnds S object_of e r × HasEnds S object_of f s
HasShape S object_of Truth (truth b) = Unit {0}
HasShape S object_of Scalar (scalar n) = Unit {0}
HasShape S object_of _ _ = ⊥

abbrev pub HaveShapes : {X Obj Mor : Type 0} → Setting Obj Mor → (X → Option Obj) → List (Shape X) → List (Value Obj Mor) → Type 0
HaveShapes S object_of [] [] = Unit {0}
HaveShapes S object_of (s ∷ ss) (v ∷ vs) = HasShape S object_of s v × HaveShapes S object_of ss vs
HaveShapes S object_of _ _ = ⊥

-- the arguments have the operation's sorts, and all ends with one letter are one object
pub record Fits {Obj Mor : Type 0} (S : Setting Obj Mor) (op : ℕ) (args : List (Value Obj Mor)) : Type 0 where
  pub operation : IsOperation op
  pub objects : ℕ → Option Obj
  pub arguments : HaveShapes S objects (profile_of op).arguments args

-- besides, the answer is `none` or has the operation's sort, its ends being those of the arguments with the same letter, and all ends with one new letter being one object
pub record FitsWithAnswer {Obj Mor : Type 0} (S : Setting Obj Mor) (op : ℕ) (args : List (Value Obj Mor)) (v : Value Obj Mor) : Type 0 where
  pub operation : IsOperation op
  pub objects : ℕ → Option Obj
  pub arguments : HaveShapes S objects (profile_of op).arguments args
  pub answer : (v ≡ none) ⊎ HasShape S objects (profile_of op).answer v
