-- A command that fits where it stands: its categories and the values of its references are there, and its name may be bound (this project's own script language).
use Rattle.std.specs.Prelude.{◌≡◌, ℕ, ◌<◌, ◌≤◌, List, Option, Some, None}
use Rattle.std.specs.List.{AllZip}
use Rattle.cap_grammar.specs.declared.tree.RefTok.{RefTok}
use Rattle.cap_grammar.specs.declared.tree.ArgTok.{ArgTok}
use Rattle.cap_grammar.specs.declared.tree.ArgTok.TheVariants as argument
use Rattle.cap_grammar.specs.declared.tree.Over.{Over}
use Rattle.cap_grammar.specs.declared.tree.Command.{Command}
use Rattle.cap_grammar.specs.declared.tree.Command.TheVariants.{Register, Finalise, Plan, Object, Src, Tgt, Let, Call}
use Rattle.cap_ops.specs.declared.sorts.Sort.{Sort}
use Rattle.cap_ops.specs.declared.sorts.Sort.TheVariants.{Obj, Mor, Num, Truth, Tuple}
use Rattle.cap_ops.specs.Ends.{IsOperation, operation_arguments}
use Rattle.cap_ops.specs.Derivations.{IsWeight}
use Rattle.cap_faults.specs.declared.values.Value.{Value}
use Rattle.cap_faults.specs.Commands.{value_of}
use Rattle.cap_sound.specs.Forms.{IsShort}

-- where a command stands: what the categories before it are over, by their names, all values that are bound, and how many of them its own scope has bound, which is the prelude or a session
pub record Scope : Type 0 where
  pub over : List ℕ → Option Over
  pub values : List Value
  pub own : ℕ

-- the category of this name is there
pub record IsKnown (s : Scope) (cat : List ℕ) : Type 0 where
  pub over : Over
  pub known : s.over cat ≡ Some over

-- the name may be bound: no value has it, and fewer than 512 names are bound in the scope
pub record IsNew (s : Scope) (name : List ℕ) : Type 0 where
  pub new : value_of s.values name ≡ None
  pub room : s.own < 512

-- a tuple has this part, from 1
pub record HasPart (sort : Sort) (i : ℕ) : Type 0 where
  pub parts : ℕ
  pub tuple : sort ≡ Tuple parts
  pub first : 1 ≤ i
  pub last : i ≤ parts

-- a morphism: the value itself where no part of it is named, or a part of a tuple
abbrev pub IsMorphism : Sort → Option ℕ → Type 0
IsMorphism sort None = sort ≡ Mor
IsMorphism sort (Some i) = HasPart sort i

-- the reference is to an object of the category
pub record RefersToObject (values : List Value) (cat : List ℕ) (r : RefTok) : Type 0 where
  pub value : Value
  pub bound : value_of values r.name ≡ Some value
  pub category : value.cat ≡ cat
  pub object : value.sort ≡ Obj
  pub whole : r.part ≡ None

-- the reference is to a morphism of the category
pub record RefersToMorphism (values : List Value) (cat : List ℕ) (r : RefTok) : Type 0 where
  pub value : Value
  pub bound : value_of values r.name ≡ Some value
  pub category : value.cat ≡ cat
  pub morphism : IsMorphism value.sort r.part

-- the reference is to a morphism of whatever category
pub record RefersToAnyMorphism (values : List Value) (r : RefTok) : Type 0 where
  pub value : Value
  pub bound : value_of values r.name ≡ Some value
  pub morphism : IsMorphism value.sort r.part

-- an argument of an operation of the category: a reference to an object or a morphism where one is wanted, and an integer of at most 16 digits where a scalar is
abbrev pub ArgumentFits : List Value → List ℕ → Sort → ArgTok → Type 0
ArgumentFits values cat Obj (argument.Ref r) = RefersToObject values cat r
ArgumentFits values cat Mor (argument.Ref r) = RefersToMorphism values cat r
ArgumentFits values cat Num (argument.Ref r) = ⊥
ArgumentFits values cat Truth (argument.Ref r) = ⊥
ArgumentFits values cat (Tuple n) (argument.Ref r) = ⊥
ArgumentFits values cat Obj (argument.Int i) = ⊥
ArgumentFits values cat Mor (argument.Int i) = ⊥
ArgumentFits values cat Num (argument.Int i) = IsShort i
ArgumentFits values cat Truth (argument.Int i) = ⊥
ArgumentFits values cat (Tuple n) (argument.Int i) = ⊥

-- as many arguments as sorts, and each is of its sort
abbrev pub ArgumentsFit : List Value → List ℕ → List Sort → List ArgTok → Type 0
ArgumentsFit values cat sorts args = AllZip (ArgumentFits values cat) sorts args

-- the weight of an operation of a category
pub record RegisterFits (s : Scope) (cat : List ℕ) (op : ℕ) (weight : Option ℕ) : Type 0 where
  pub category : IsKnown s cat
  pub operation : IsOperation op
  pub range : IsWeight weight

-- a new object of a category
pub record ObjectFits (s : Scope) (cat x : List ℕ) : Type 0 where
  pub category : IsKnown s cat
  pub name : IsNew s x

-- the source or the target of a morphism, under a new name
pub record EndFits (s : Scope) (x : List ℕ) (of : RefTok) : Type 0 where
  pub name : IsNew s x
  pub morphism : RefersToAnyMorphism s.values of

-- a new morphism of a category, between two of its objects
pub record MorphismFits (s : Scope) (cat x : List ℕ) (src tgt : RefTok) : Type 0 where
  pub category : IsKnown s cat
  pub name : IsNew s x
  pub source : RefersToObject s.values cat src
  pub target : RefersToObject s.values cat tgt

-- the answer of an operation of a category to arguments of its sorts, under a new name
pub record CallFits (s : Scope) (cat x : List ℕ) (op : ℕ) (args : List ArgTok) : Type 0 where
  pub category : IsKnown s cat
  pub name : IsNew s x
  pub operation : IsOperation op
  pub arguments : ArgumentsFit s.values cat (operation_arguments op) args

-- a command, without its literal
abbrev pub CommandFits : {O M : Type 0} → Scope → Command O M → Type 0
CommandFits s (Register cat op weight) = RegisterFits s cat op.0 weight
CommandFits s (Finalise cat) = IsKnown s cat
CommandFits s (Plan cat) = IsKnown s cat
CommandFits s (Object cat x lit) = ObjectFits s cat x
CommandFits s (Src x of) = EndFits s x of
CommandFits s (Tgt x of) = EndFits s x of
CommandFits s (Let x cat src tgt lit) = MorphismFits s cat x src tgt
CommandFits s (Call x cat op args) = CallFits s cat x op.0 args
