-- What a command does at the seat of its category, and what its parts do there.
use Rattle.std.specs.Prelude.{◌≡◌, ◌⊎◌, ℕ, List, ◌++◌, Option, Some, None, Result, Ok, Err, IfOk}
use Rattle.std.specs.List.{filter_map}
use Rattle.cap_names.specs.declared.identifiers.Handle.{Handle}
use Rattle.cap_names.specs.declared.identifiers.OpId.{OpId}
use Rattle.cap_names.specs.declared.identifiers.SessionNo.{SessionNo}
use Rattle.cap_names.specs.declared.literals.MorLit.{MorLit}
use Rattle.cap_grammar.specs.declared.tree.ArgTok.{ArgTok}
use Rattle.cap_grammar.specs.declared.tree.Command.{Command}
use Rattle.cap_grammar.specs.declared.tree.Command.TheVariants.{Object, Let, Call}
use Rattle.cap_checked.specs.declared.tree.CheckedObj.{CheckedObj}
use Rattle.cap_ops.specs.declared.keys.Arg.{Arg}
use Rattle.cap_ops.specs.declared.sorts.Sort.TheVariants.{Obj, Mor}
use Rattle.cap_ops.specs.Arrows.{arguments}
use Rattle.cap_ops.specs.Ends.{operation_answer}
use Rattle.cap_ops.specs.Mismatches.{HaveSorts}
use Rattle.cap_ops.specs.Primitives.{prime_of}
use Rattle.cap_ops.specs.Told.{told_in, Known, IsArrow, StaysTold}
use Rattle.cap_primitives.specs.Given.{from_to}
use Rattle.cap_rules.specs.Table.{rule_table}
use Rattle.cap_data.specs.declared.data.ObjData.{ObjData}
use Rattle.cap_data.specs.declared.data.MorData.{MorData}
use Rattle.cap_data.specs.Counts.{cells_in_object, cells_in_morphism}
use Rattle.cap_offer.specs.Labels.{Label, any_offer}
use Rattle.cap_board.specs.Board.{Grows}
use Rattle.cap_board.specs.Call.{CallSays}
use Rattle.cap_board.specs.Trace.{CallEnd}
use Rattle.cap_history.specs.declared.entries.Event.TheVariants.{Declare}
use Rattle.cap_history.specs.declared.entries.Entry.{Entry}
use Rattle.cap_history.specs.Reading.{objects}
use Rattle.cap_report.specs.declared.lines.LineAnswer.{LineAnswer}
use Rattle.cap_report.specs.declared.lines.LineAnswer.TheVariants as line
use Rattle.cap_report.specs.declared.lines.LineRefusal.{LineRefusal}
use Rattle.cap_report.specs.declared.lines.LineRefusal.TheVariants as refusal
use Rattle.cap_report.specs.declared.situation.Made.{Made}
use Rattle.cap_report.specs.Named.{category_name}
use Rattle.cap_fitting.specs.Commands.{Scope, CommandFits}
use Rattle.cap_fitting.specs.Literals.{LiteralFits}
use Rattle.cap_accounts.specs.Arguments.{HaveValues}
use Rattle.cap_accounts.specs.Commands.{AreArguments, DoesIn, category_of, end_line, lacking}
use Rattle.cap_seat.specs.declared.tries.Try.{Try}
use Rattle.cap_seat.specs.Events.{entered, HasFullFront}
use Rattle.cap_seat.specs.Seats.{told_at, state_of}
use Rattle.cap_session_lines.specs.Doing.{EventDoes, CallDoes, GoesBy}
use Rattle.cap_commands.specs.Kinds.{kinds, ObjectIs, MorphismIs}
use Rattle.cap_commands.specs.Agreement.{Standing, HasSort, IsToldAnswer, Telling, Agrees}
use Rattle.cap_commands.specs.Seats.{AtSeat, OfData}

-- what is said of a command: of the objects that a whole history tells, of its entries and its answer; and of the sort that its answer has
pub record Saying : Type 1 where
  pub said : (Handle → Option ObjData) → List OfData → LineAnswer MorData → Type 0
  pub sort : LineAnswer MorData → Type 0

-- a line that is refused since a history is full was refused by a front of what was seen
abbrev pub IsFullSeen : List OfData → LineAnswer MorData → Type 0
IsFullSeen seen (line.Refused (refusal.Full n k)) = HasFullFront cells_in_object cells_in_morphism seen n k
IsFullSeen seen answer = Unit {0}

-- A command at a seat: on whatever whole history, its entries and its answer are as they are said; its answer has its sort, and its objects and morphisms are told; and what was told stays.
pub record DoesAt (others : List OfData → Type 0) (says : Saying) (s : AtSeat) (answer : LineAnswer MorData) (s' : AtSeat) : Type 0 where
  pub more : List (Try ObjData MorData)
  pub goes : GoesBy others s more s'
  pub does : (later : List OfData) → says.said (told_in (objects (s'.seen ++ later))) (filter_map entered more) answer
  pub sort : says.sort answer
  pub told : IsToldAnswer (any_offer s'.offer) (told_at s') answer
  pub full : IsFullSeen s'.seen answer
  pub stays : StaysTold (told_at s) (told_at s')

-- an object literal was refused, and nothing was done; or it was read, and its object declared
abbrev pub ObjectDoes : (List OfData → Type 0) → Label → List ℕ → CheckedObj → AtSeat → LineAnswer MorData → AtSeat → Type 0
ObjectDoes others x name lit s answer s' =
    ((why : LineRefusal) × ObjectIs x lit (Err why) × (s' ≡ s) × (answer ≡ line.Refused why))
    ⊎ ((object : ObjData) × ObjectIs x lit (Ok object) × EventDoes (any_offer x) cells_in_object cells_in_morphism others s (Declare name object) answer s')

-- the line of a morphism literal between two objects
abbrev pub literal_line : Handle → Handle → Result MorData LineRefusal → LineAnswer MorData
literal_line a b (Ok f) = line.Morphism (record { src = a; tgt = b; value = f })
literal_line a b (Err why) = line.Refused why

-- a morphism literal was read between two objects that were told
pub record MorphismDoes (x : Label) (told : Handle → Option ObjData) (a b : Handle) (lit : MorLit) (answer : LineAnswer MorData) : Type 0 where
  pub from : ObjData
  pub to : ObjData
  pub source : told a ≡ Some from
  pub target : told b ≡ Some to
  pub read : Result MorData LineRefusal
  pub is : MorphismIs x from to lit read
  pub answered : answer ≡ literal_line a b read
  pub arrow : IfOk read (λ f. IsArrow (any_offer x).category (from_to from to f))

-- the answer has the sort of the value that the command binds, where it is one with a category that binds a value
abbrev pub HasItsSort : Command CheckedObj MorLit → LineAnswer MorData → Type 0
HasItsSort (Object cat x lit) answer = HasSort Obj answer
HasItsSort (Let x cat src tgt lit) answer = HasSort Mor answer
HasItsSort (Call x cat op args) answer = HasSort (operation_answer op.0) answer
HasItsSort _ answer = Unit {0}

-- what a command does in its category, behind what stands
abbrev pub in_category : SessionNo → Standing → Made Label → Command CheckedObj MorLit → Saying
in_category session S made c = record { said = λ told entries answer. DoesIn kinds rule_table session S made told c entries answer; sort = HasItsSort c }

-- whatever arguments the tokens of a call stand for, they have the operation's sorts, and are data of the category between objects that were told
pub record AreCallable (S : Standing) (x : Label) (told : Handle → Option ObjData) (op : ℕ) (tokens : List ArgTok) : Type 0 where
  pub values : HaveValues S tokens
  pub sorts : (args : List (Arg MorData)) → AreArguments S (prime_of (any_offer x)) tokens args → HaveSorts op args
  pub known : (args : List (Arg MorData)) → AreArguments S (prime_of (any_offer x)) tokens args → Known (any_offer x).category told (arguments args)

-- a call of the operation on the arguments that the tokens stand for
pub record CallGives (others : List OfData → Type 0) (S : Standing) (x : Label) (op : OpId) (tokens : List ArgTok) (s : AtSeat) (answer : LineAnswer MorData) (s' : AtSeat) : Type 0 where
  pub given : List (Arg MorData)
  pub are : AreArguments S (prime_of (any_offer x)) tokens given
  pub does : CallDoes (any_offer x) cells_in_object cells_in_morphism others s op.0 given answer s'
  pub grows : Grows (state_of s) (told_at s) (state_of s') (told_at s')
  pub end : CallEnd MorData
  pub says : CallSays (any_offer x) (state_of s) (state_of s') (told_at s') op.0 given end
  pub answered : end_line end ≡ Some answer

-- A command comes to the seat of its category: it fits where the names agree with what stands, lacks nothing, and its category is made.
pub record IsAtSeat (S : Standing) (made : Made Label) (s : AtSeat) (c : Command CheckedObj MorLit) : Type 0 where
  pub name : List ℕ
  pub named : category_name c ≡ Some name
  pub is : category_of S name ≡ Some made
  pub lacks : lacking S c ≡ None
  pub scope : Scope
  pub telling : Telling
  pub here : telling made.number.0 ≡ told_at s
  pub agrees : Agrees scope S telling
  pub fits : CommandFits scope c
  pub literal : LiteralFits scope.over c
