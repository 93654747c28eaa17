-- What a primitive gives: its answer's data are the offered category's, and its ends are the arguments' and those of its new objects.
use Rattle.std.specs.Prelude.{◌≡◌, ℕ, ◌+◌, ◌≤◌, List, [], length, Option, Some, None, IsSome, slice_get, Result, Ok, Err}
use Rattle.std.specs.List.{slice_index_or}
use Rattle.cap_names.specs.declared.identifiers.Handle.{Handle}
use Rattle.cap_laws.specs.Linear.{CategoryData}
use Rattle.cap_laws.specs.declared.faults.CatFault.{CatFault}
use Rattle.cap_laws.specs.declared.faults.CatFault.TheVariants.{TooLarge, NoMemory}
use Rattle.cap_ops.specs.declared.plans.Kind.{Kind}
use Rattle.cap_ops.specs.declared.arrows.End.{End}
use Rattle.cap_ops.specs.declared.arrows.End.TheVariants.{New}
use Rattle.cap_ops.specs.declared.keys.Arg.{Arg}
use Rattle.cap_ops.specs.declared.keys.PrimOut.{PrimOut}
use Rattle.cap_ops.specs.Values.{none, FitsWithAnswer}
use Rattle.cap_ops.specs.Ends.{profile_of, new_letters}
use Rattle.cap_ops.specs.Arrows.{Between, ValueOver, over, arguments, olds, out_value}
use Rattle.cap_ops.specs.Told.{Tells, TellsAll, IsDatum, AreObjects, end_object}
use Rattle.cap_ops.specs.Meaning.{Meaning}

-- what a category offers: the category, and what its primitives do on data of every size
pub record OfferData (O M : Type 0) : Type 1 where
  pub category : CategoryData O (Between O M)
  pub kind : Kind
  -- the default weight of an operation's primitive, where it is offered
  pub weight : ℕ → Option ℕ
  -- the answer of an operation's primitive
  pub answer : ℕ → List (ValueOver O M) → ValueOver O M → Type 0
  -- the new objects of that answer
  pub fresh : ℕ → List (ValueOver O M) → List O
  -- it meets a matrix of this size past the limits
  pub large : ℕ → List (ValueOver O M) → ℕ → ℕ → Type 0

abbrev pub prime_of : {O M : Type 0} → OfferData O M → ℕ
prime_of D = D.category.prime

-- no size past the limits is met
abbrev pub IsWithin : {O M : Type 0} → OfferData O M → ℕ → List (ValueOver O M) → Type 0
IsWithin D op args = (rows columns : ℕ) → D.large op args rows columns → ⊥

-- each registered operation is offered; the operation with number n stands at place n - 1
abbrev pub AreOffered : {O M : Type 0} → OfferData O M → List (Option ℕ) → Type 0
AreOffered D weights = (op n : ℕ) → slice_index_or weights op None ≡ Some n → IsSome (D.weight (op + 1))

-- where these are the ends of the letters: the letters that only the answer has are the new objects in order of first mention, and there are no more new objects; `none` has none
pub record AreUsed {O M : Type 0} (op : ℕ) (ends : ℕ → Option End) (value : ValueOver End M) (fresh : List O) : Type 0 where
  pub in_order : (k letter : ℕ) → slice_get (new_letters (profile_of op)) k ≡ Some letter → ends letter ≡ Some (New k)
  pub all : (value ≡ none → ⊥) → length fresh ≡ length (new_letters (profile_of op))
  pub at_none : value ≡ none → fresh ≡ []

-- an answer with its new objects: no size past the limits is met, the data are those of the primitive's answer, its ends that the signature gives are the arguments', one letter has one end, and new letters have the new objects
pub record PrimAnswers {O M : Type 0} (D : OfferData O M) (told : Handle → Option O) (op : ℕ) (args : List (Arg M)) (given : PrimOut O M) : Type 0 where
  pub data_of : List (ValueOver O M)
  pub tells_arguments : TellsAll told (arguments args) data_of
  pub value : ValueOver End M
  pub is_value : out_value given.out ≡ Some value
  pub out : ValueOver O M
  pub tells : Tells (end_object told given.fresh) value out
  pub answers : D.answer op data_of out
  pub within : IsWithin D op data_of
  pub fresh_is : given.fresh ≡ D.fresh op data_of
  pub fresh_objects : AreObjects D.category given.fresh
  pub is_datum : IsDatum D.category out
  pub fits : FitsWithAnswer (over (prime_of D)) op (olds (arguments args)) value
  pub used : AreUsed op fits.objects value given.fresh

pub record PrimIsLarge {O M : Type 0} (D : OfferData O M) (told : Handle → Option O) (op : ℕ) (args : List (Arg M)) (rows columns : ℕ) : Type 0 where
  pub data_of : List (ValueOver O M)
  pub tells_arguments : TellsAll told (arguments args) data_of
  pub large : D.large op data_of rows columns

abbrev pub PrimGives : {O M : Type 0} → OfferData O M → (Handle → Option O) → ℕ → List (Arg M) → Result (PrimOut O M) CatFault → Type 0
PrimGives D told op args (Ok given) = PrimAnswers D told op args given
PrimGives D told op args (Err (TooLarge rows columns)) = PrimIsLarge D told op args rows columns
PrimGives D told op args (Err NoMemory) = Unit {0}

-- each answer of a primitive has its operation's meaning
pub record PrimsMean {O M : Type 0} (D : OfferData O M) : Type 0 where
  pub means : (op : ℕ) (args : List (ValueOver O M)) (v : ValueOver O M) → D.answer op args v → Meaning D.category op args v

-- on each list of arguments a primitive has one answer, or sizes past the limits, never both
pub record HasOneOutcome {O M : Type 0} (D : OfferData O M) : Type 0 where
  pub one : (op : ℕ) (args : List (ValueOver O M)) (v w : ValueOver O M) → D.answer op args v → D.answer op args w → v ≡ w
  pub never_both : (op : ℕ) (args : List (ValueOver O M)) (v : ValueOver O M) (rows columns : ℕ) → D.answer op args v → D.large op args rows columns → ⊥

-- an answer has at most four new objects
pub record HasFewObjects {O M : Type 0} (D : OfferData O M) : Type 0 where
  pub few : (op : ℕ) (args : List (ValueOver O M)) → length (D.fresh op args) ≤ 4
