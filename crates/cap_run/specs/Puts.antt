-- When a value is that of a key by a plan, and when the put of a result is true.
use Rattle.std.specs.Prelude.{◌≡◌, ℕ, List, [], Option, Some}
use Rattle.cap_names.specs.declared.identifiers.Handle.{Handle}
use Rattle.cap_ops.specs.declared.arrows.End.{End}
use Rattle.cap_ops.specs.declared.keys.Arg.{Arg}
use Rattle.cap_ops.specs.declared.keys.PrimOut.{PrimOut}
use Rattle.cap_ops.specs.declared.keys.Value.{Value as Answer}
use Rattle.cap_ops.specs.declared.plans.Choice.{Choice}
use Rattle.cap_ops.specs.declared.plans.Choice.TheVariants.{Prim, Rule as ByRule, Missing}
use Rattle.cap_ops.specs.declared.plans.Plan.{Plan}
use Rattle.cap_ops.specs.Derivations.{choice}
use Rattle.cap_ops.specs.Values.{FitsWithAnswer}
use Rattle.cap_ops.specs.Arrows.{ValueOver, over, arguments, olds, value_of, out_value}
use Rattle.cap_ops.specs.Told.{Tells, TellsAll, IsDatum, AreData, AreObjects, end_object}
use Rattle.cap_ops.specs.Primitives.{OfferData, prime_of}
use Rattle.cap_terms.specs.declared.body.Rule.{Rule}
use Rattle.cap_terms.specs.Run.{done}
use Rattle.cap_run.specs.Runs.{Run}

-- v is the value of the key by the plan: its handles are told, the arguments are data of the category, its data are those of plain evaluation, each end that the signature gives is the argument's handle, and one object letter has one handle
pub record Good {O M : Type 0} (D : OfferData O M) (rules : List Rule) (p : Plan) (told : Handle → Option O) (op : ℕ) (args : List (Arg M)) (v : Answer M) : Type 0 where
  pub data_of : List (ValueOver O M)
  pub tells_arguments : TellsAll told (arguments args) data_of
  pub are_data : AreData D.category data_of
  pub value : ValueOver Handle M
  pub is_value : value_of v ≡ Some value
  pub out : ValueOver O M
  pub tells : Tells told value out
  pub is_datum : IsDatum D.category out
  pub runs : Run D rules p op data_of (done out)
  pub fits : FitsWithAnswer (over (prime_of D)) op (arguments args) value

-- the new objects of a result: the primitive's where the choice is the primitive, and none where it is a rule
abbrev pub FreshBy : {O M : Type 0} → OfferData O M → Choice → ℕ → List (ValueOver O M) → List O → Type 0
FreshBy D Prim op args fresh = fresh ≡ D.fresh op args
FreshBy D (ByRule k) op args fresh = fresh ≡ []
FreshBy D Missing op args fresh = ⊥

-- the result is the key's value by the plan, with the new objects of its choice; the arguments are data of the category
pub record PutTrue {O M : Type 0} (D : OfferData O M) (rules : List Rule) (p : Plan) (told : Handle → Option O) (op : ℕ) (args : List (Arg M)) (given : PrimOut O M) : Type 0 where
  pub data_of : List (ValueOver O M)
  pub tells_arguments : TellsAll told (arguments args) data_of
  pub are_data : AreData D.category data_of
  pub value : ValueOver End M
  pub is_value : out_value given.out ≡ Some value
  pub out : ValueOver O M
  pub tells : Tells (end_object told given.fresh) value out
  pub is_datum : IsDatum D.category out
  pub fresh_is : FreshBy D (choice p op) op data_of given.fresh
  pub fresh_objects : AreObjects D.category given.fresh
  pub runs : Run D rules p op data_of (done out)
  pub fits : FitsWithAnswer (over (prime_of D)) op (olds (arguments args)) value
