-- Values by the ends that they name: handles, ends of a primitive's answer, or the objects themselves.
use Rattle.std.specs.Prelude.{ℕ, ◌-◌, List, [], ◌∷◌, Option, Some, None, map}
use Rattle.cap_names.specs.declared.identifiers.Handle.{Handle}
use Rattle.cap_ops.specs.declared.arrows.Arrow.{Arrow}
use Rattle.cap_ops.specs.declared.arrows.OutArrow.{OutArrow}
use Rattle.cap_ops.specs.declared.arrows.End.{End}
use Rattle.cap_ops.specs.declared.arrows.End.TheVariants.{Old}
use Rattle.cap_ops.specs.declared.keys.Arg.{Arg}
use Rattle.cap_ops.specs.declared.keys.Arg.TheVariants.{Obj, Mor, Num}
use Rattle.cap_ops.specs.declared.keys.Value.TheVariants.{One, Many, Truth, Nothing}
use Rattle.cap_ops.specs.declared.keys.Value.{Value as Answer}
use Rattle.cap_ops.specs.declared.keys.Out.TheVariants.{One as OutOne, Many as OutMany, Truth as OutTruth, Nothing as OutNothing}
use Rattle.cap_ops.specs.declared.keys.Out.{Out}
use Rattle.cap_ops.specs.Values.{Value, object, morphism, two, four, truth, scalar, none, Setting}

-- a morphism with its ends, which are named by an E, and its data
pub record Between (E M : Type 0) : Type 0 where
  pub src : E
  pub tgt : E
  pub value : M

-- a value whose objects are named by an E
abbrev pub ValueOver : Type 0 → Type 0 → Type 0
ValueOver E M = Value E (Between E M)

-- morphisms have the ends that they name, and the scalars are residues below p
abbrev pub over : {E M : Type 0} → ℕ → Setting E (Between E M)
over p = record { source = λ f. f.src; target = λ f. f.tgt; minus_one = p - 1 }

abbrev pub between : {M : Type 0} → Arrow M → Between Handle M
between f = record { src = f.src; tgt = f.tgt; value = f.value }

abbrev pub out_between : {M : Type 0} → OutArrow M → Between End M
out_between f = record { src = f.src; tgt = f.tgt; value = f.value }

-- an argument as a value
abbrev pub argument : {M : Type 0} → Arg M → ValueOver Handle M
argument (Obj h) = object h
argument (Mor f) = morphism (between f)
argument (Num n) = scalar n

abbrev pub arguments : {M : Type 0} → List (Arg M) → List (ValueOver Handle M)
arguments args = map argument args

-- a tuple has two or four morphisms
abbrev pub tuple : {Obj Mor : Type 0} → List Mor → Option (Value Obj Mor)
tuple (p ∷ q ∷ []) = Some (two p q)
tuple (p ∷ q ∷ r ∷ s ∷ []) = Some (four p q r s)
tuple _ = None

-- the value that an answer is; several morphisms that are no tuple are none
abbrev pub value_of : {M : Type 0} → Answer M → Option (ValueOver Handle M)
value_of (One f) = Some (morphism (between f))
value_of (Many fs) = tuple (map between fs)
value_of (Truth b) = Some (truth b)
value_of Nothing = Some none

abbrev pub out_value : {M : Type 0} → Out M → Option (ValueOver End M)
out_value (OutOne f) = Some (morphism (out_between f))
out_value (OutMany fs) = tuple (map out_between fs)
out_value (OutTruth b) = Some (truth b)
out_value OutNothing = Some none

-- the same value with other names for its objects
abbrev pub named_arrow : {E F M : Type 0} → (E → F) → Between E M → Between F M
named_arrow name f = record { src = name f.src; tgt = name f.tgt; value = f.value }

abbrev pub named : {E F M : Type 0} → (E → F) → ValueOver E M → ValueOver F M
named name (object a) = object (name a)
named name (morphism f) = morphism (named_arrow name f)
named name (two p q) = two (named_arrow name p) (named_arrow name q)
named name (four p q r s) = four (named_arrow name p) (named_arrow name q) (named_arrow name r) (named_arrow name s)
named name (truth b) = truth b
named name (scalar n) = scalar n
named name none = none

-- a value by handles as an answer without new objects
abbrev pub old : {M : Type 0} → ValueOver Handle M → ValueOver End M
old v = named Old v

abbrev pub olds : {M : Type 0} → List (ValueOver Handle M) → List (ValueOver End M)
olds vs = map old vs
