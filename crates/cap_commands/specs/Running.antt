-- A command of a session over its seats: what it needs, and what running it ensures.
use Rattle.std.specs.Prelude.{◌≡◌, ℕ, List, [], ◌++◌, set, slice_get, Some, IsSome, option_map}
use Rattle.std.specs.List.{filter_map}
use Rattle.cap_names.specs.declared.identifiers.CatNo.{CatNo}
use Rattle.cap_names.specs.declared.identifiers.SessionNo.{SessionNo}
use Rattle.cap_names.specs.declared.literals.MorLit.{MorLit}
use Rattle.cap_grammar.specs.declared.tree.Command.{Command}
use Rattle.cap_grammar.specs.declared.tree.Command.TheVariants.{Src, Tgt}
use Rattle.cap_checked.specs.declared.tree.CheckedObj.{CheckedObj}
use Rattle.cap_fitting.specs.Commands.{Scope, CommandFits}
use Rattle.cap_fitting.specs.Literals.{LiteralFits}
use Rattle.cap_fitting.specs.Values.{bound_by}
use Rattle.cap_data.specs.declared.data.MorData.{MorData}
use Rattle.cap_data.specs.Counts.{cells_in_object, cells_in_morphism}
use Rattle.cap_ops.specs.Told.{StaysTold}
use Rattle.cap_offer.specs.Labels.{Label, any_offer}
use Rattle.cap_report.specs.declared.lines.LineAnswer.{LineAnswer}
use Rattle.cap_report.specs.declared.lines.LineAnswer.TheVariants as line
use Rattle.cap_report.specs.declared.situation.Made.{Made}
use Rattle.cap_report.specs.Named.{bound_name}
use Rattle.cap_accounts.specs.Commands.{arrow_at}
use Rattle.cap_accounts.specs.Accounts.{with_bound}
use Rattle.cap_seat.specs.Events.{entered}
use Rattle.cap_seat.specs.Seats.{Holds}
use Rattle.cap_commands.specs.Agreement.{Standing, Agrees}
use Rattle.cap_commands.specs.Seats.{AtSeat, OfData, with_number, telling, AreSeats, CommandRuns}
use Rattle.cap_commands.specs.Doing.{Saying, DoesAt, IsAtSeat, in_category}

-- a command at a seat whose entries are then taken and put behind the events, with the category's number
pub record DoesAlone (others : List OfData → Type 0) (says : Saying) (s : AtSeat) (number : CatNo) (before : List (CatNo × OfData)) (answer : LineAnswer MorData) (s' : AtSeat) (after : List (CatNo × OfData)) : Type 0 where
  pub behind : AtSeat
  pub does : DoesAt others says s answer behind
  pub holds : Holds (any_offer behind.offer) cells_in_object cells_in_morphism behind
  pub emptied : s' ≡ record behind { tries = [] }
  pub added : after ≡ before ++ with_number number (filter_map entered does.more)

-- the source or the target of a morphism
abbrev pub EndDoes : Standing → Command CheckedObj MorLit → LineAnswer MorData → Type 0
EndDoes S (Src x r) answer = option_map (λ f. line.Object f.src) (arrow_at S r) ≡ Some answer
EndDoes S (Tgt x r) answer = option_map (λ f. line.Object f.tgt) (arrow_at S r) ≡ Some answer
EndDoes S c answer = ⊥

-- A command comes to the seats of a session: it fits where the names agree with what stands.
pub record IsPrepared (S : Standing) (seats : List AtSeat) (c : Command CheckedObj MorLit) : Type 0 where
  pub session : SessionNo
  pub are : AreSeats session S seats
  pub scope : Scope
  pub agrees : Agrees scope S (telling seats)
  pub fits : CommandFits scope c
  pub literal : LiteralFits scope.over c

-- the scope behind a command, which binds a name at most
abbrev pub behind_command : Scope → Command CheckedObj MorLit → Scope
behind_command scope c = record scope { values = scope.values ++ bound_by scope.values c }

-- where the names agreed with what stood before a command that fits, they agree with what stands behind it
abbrev pub AgreesBehind : Standing → List AtSeat → Command CheckedObj MorLit → LineAnswer MorData → List AtSeat → Type 0
AgreesBehind S seats c answer seats' = (scope : Scope) → Agrees scope S (telling seats) → CommandFits scope c → LiteralFits scope.over c
    → Agrees (behind_command scope c) (with_bound S (bound_name c) answer) (telling seats')

-- what running a command ensures: its own events stand behind the events, it runs as the command does, for the session whose seats they are, the names agree with what stands behind it, and what was told stays
pub record Runs (others : List OfData → Type 0) (S : Standing) (seats : List AtSeat) (c : Command CheckedObj MorLit) (before : List (CatNo × OfData)) (answer : LineAnswer MorData) (seats' : List AtSeat) (after : List (CatNo × OfData)) : Type 0 where
  pub own : List (CatNo × OfData)
  pub added : after ≡ before ++ own
  pub are : (session : SessionNo) → AreSeats session S seats → AreSeats session S seats'
  pub runs : (session : SessionNo) → AreSeats session S seats → CommandRuns others session S seats c own answer seats'
  pub agrees : (session : SessionNo) → AreSeats session S seats → AgreesBehind S seats c answer seats'
  pub stays : (session : SessionNo) → AreSeats session S seats → (n : ℕ) → StaysTold (telling seats n) (telling seats' n)

-- the reference of a command that asks for an end names a morphism
abbrev pub NamesArrow : Standing → Command CheckedObj MorLit → Type 0
NamesArrow S (Src x r) = IsSome (arrow_at S r)
NamesArrow S (Tgt x r) = IsSome (arrow_at S r)
NamesArrow S c = ⊥

-- the seat of a category, to which a command comes: nothing is left of what was tried before
pub record ComesTo (S : Standing) (made : Made Label) (s : AtSeat) (c : Command CheckedObj MorLit) : Type 0 where
  pub comes : IsAtSeat S made s c
  pub offer : made.category ≡ s.offer
  pub taken : s.tries ≡ []
  pub holds : Holds (any_offer s.offer) cells_in_object cells_in_morphism s

abbrev pub ComesInPlace : Standing → Made Label → List AtSeat → ℕ → Command CheckedObj MorLit → Type 0
ComesInPlace S made seats place c = (s : AtSeat) → slice_get seats place ≡ Some s → ComesTo S made s c

-- a command at the seat in a place, and no other seat changes
pub record DoesInPlace (others : List OfData → Type 0) (S : Standing) (made : Made Label) (seats : List AtSeat) (place : ℕ) (c : Command CheckedObj MorLit) (before : List (CatNo × OfData)) (answer : LineAnswer MorData) (seats' : List AtSeat) (after : List (CatNo × OfData)) : Type 0 where
  pub seat : AtSeat
  pub there : slice_get seats place ≡ Some seat
  pub behind : AtSeat
  pub set_is : seats' ≡ set seats place behind
  pub does : DoesAlone others (in_category seat.session S made c) seat made.number before answer behind after
