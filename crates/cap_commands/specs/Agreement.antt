-- What holds before each command: each name that the script has bound stands for an answer of its sort, whose objects and morphisms its category has told.
use Rattle.std.specs.Prelude.{◌≡◌, ℕ, Bool, false, List, length, Option, Some, None}
use Rattle.std.specs.List.{All, AllZip}
use Rattle.cap_names.specs.declared.identifiers.Handle.{Handle}
use Rattle.cap_grammar.specs.declared.tree.Over.{Over}
use Rattle.cap_ops.specs.declared.arrows.Arrow.{Arrow}
use Rattle.cap_ops.specs.declared.sorts.Sort.{Sort}
use Rattle.cap_ops.specs.declared.sorts.Sort.TheVariants.{Obj, Mor, Num, Truth, Tuple}
use Rattle.cap_ops.specs.Primitives.{OfferData}
use Rattle.cap_ops.specs.Told.{IsArrow}
use Rattle.cap_primitives.specs.Given.{from_to}
use Rattle.cap_faults.specs.declared.values.Value.{Value}
use Rattle.cap_fitting.specs.Commands.{Scope}
use Rattle.cap_data.specs.declared.data.ObjData.{ObjData}
use Rattle.cap_data.specs.declared.data.MorData.{MorData}
use Rattle.cap_offer.specs.Labels.{Label, any_offer}
use Rattle.cap_report.specs.declared.lines.LineAnswer.{LineAnswer}
use Rattle.cap_report.specs.declared.lines.LineAnswer.TheVariants as line
use Rattle.cap_report.specs.declared.situation.Bound.{Bound}
use Rattle.cap_report.specs.declared.situation.Made.{Made}
use Rattle.cap_report.specs.declared.situation.Situation.{Situation}
use Rattle.cap_accounts.specs.Commands.{binds, category_of}
use Rattle.cap_commands.specs.Kinds.{CategoryIs}

-- what stands before a command, over the categories that are built
abbrev pub Standing : Type 0
Standing = Situation Label (Unit {0}) MorData

-- an answer has the sort of its name, or no name can stand for it
abbrev pub HasSort : Sort → LineAnswer MorData → Type 0
HasSort Obj (line.Object h) = Unit {0}
HasSort Mor (line.Morphism f) = Unit {0}
HasSort Truth (line.Truth b) = Unit {0}
HasSort (Tuple n) (line.Tuple fs) = length fs ≡ n
HasSort sort answer = binds answer ≡ false

-- a morphism of the category, between objects that were told
pub record IsToldArrow (D : OfferData ObjData MorData) (told : Handle → Option ObjData) (f : Arrow MorData) : Type 0 where
  pub from : ObjData
  pub to : ObjData
  pub src : told f.src ≡ Some from
  pub tgt : told f.tgt ≡ Some to
  pub is : IsArrow D.category (from_to from to f.value)

-- an object of the category that was told
pub record IsToldObject (D : OfferData ObjData MorData) (told : Handle → Option ObjData) (h : Handle) : Type 0 where
  pub object : ObjData
  pub stands : told h ≡ Some object
  pub is : D.category.is_object object

-- an answer's objects were told, and its morphisms are the category's
abbrev pub IsToldAnswer : OfferData ObjData MorData → (Handle → Option ObjData) → LineAnswer MorData → Type 0
IsToldAnswer D told (line.Object h) = IsToldObject D told h
IsToldAnswer D told (line.Morphism f) = IsToldArrow D told f
IsToldAnswer D told (line.Tuple fs) = All (IsToldArrow D told) fs
IsToldAnswer D told answer = Unit {0}

-- what each category has told, by its number
abbrev pub Telling : Type 0
Telling = ℕ → Handle → Option ObjData

-- the name of a value of the script, and what it is bound to in its category, which is made
pub record Stands (S : Standing) (telling : Telling) (v : Value) (b : Bound MorData) : Type 0 where
  pub name : v.name ≡ b.name
  pub sort : HasSort v.sort b.answer
  pub made : Made Label
  pub is : category_of S v.cat ≡ Some made
  pub told : IsToldAnswer (any_offer made.category) (telling made.number.0) b.answer

-- the category of this name is made, and is the one over this
pub record IsMadeOver (S : Standing) (cat : List ℕ) (over : Over) : Type 0 where
  pub made : Made Label
  pub is : category_of S cat ≡ Some made
  pub category : CategoryIs over None made.category

pub record Agrees (scope : Scope) (S : Standing) (telling : Telling) : Type 0 where
  pub bound : AllZip (Stands S telling) scope.values S.bound
  pub made : (cat : List ℕ) (over : Over) → scope.over cat ≡ Some over → IsMadeOver S cat over
