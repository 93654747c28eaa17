-- The seats of a session, one before each category that was made, and what a command over them does.
use Rattle.std.specs.Prelude.{◌≡◌, ℕ, List, [], ◌∷◌, ◌++◌, length, map, Option, Some, None, slice_get}
use Rattle.std.specs.List.{AllZip}
use Rattle.cap_names.specs.declared.identifiers.CatNo.{CatNo}
use Rattle.cap_names.specs.declared.identifiers.Handle.{Handle}
use Rattle.cap_names.specs.declared.identifiers.SessionNo.{SessionNo}
use Rattle.cap_names.specs.declared.literals.MorLit.{MorLit}
use Rattle.cap_grammar.specs.declared.tree.Command.{Command}
use Rattle.cap_checked.specs.declared.tree.CheckedObj.{CheckedObj}
use Rattle.cap_rules.specs.Table.{rule_table}
use Rattle.cap_data.specs.declared.data.ObjData.{ObjData}
use Rattle.cap_data.specs.declared.data.MorData.{MorData}
use Rattle.cap_data.specs.Counts.{cells_in_object, cells_in_morphism}
use Rattle.cap_offer.specs.Labels.{Label, any_offer}
use Rattle.cap_history.specs.declared.entries.Entry.{Entry}
use Rattle.cap_legal.specs.Legal.{Legal}
use Rattle.cap_desk.specs.Books.{frame}
use Rattle.cap_desk.specs.Hands.{Hand, with_more}
use Rattle.cap_desk.specs.Woven.{IsWoven}
use Rattle.cap_seat.specs.Seats.{Sitting, told_at, Holds}
use Rattle.cap_report.specs.declared.lines.LineAnswer.{LineAnswer}
use Rattle.cap_report.specs.declared.lines.LineAnswer.TheVariants as line
use Rattle.cap_report.specs.declared.lines.LineRefusal.TheVariants as refusal
use Rattle.cap_report.specs.declared.report.History.{History}
use Rattle.cap_report.specs.declared.situation.Made.{Made}
use Rattle.cap_report.specs.Histories.{history_of}
use Rattle.cap_accounts.specs.Commands.{lacking}
use Rattle.cap_accounts.specs.Accounts.{of_category, DoesOrLacks, IsFullOf}
use Rattle.cap_commands.specs.Kinds.{kinds}
use Rattle.cap_commands.specs.Agreement.{Standing, Telling}

abbrev pub AtSeat : Type 0
AtSeat = Sitting Label ObjData MorData

abbrev pub OfData : Type 0
OfData = Entry ObjData MorData

-- entries with the number of their category
abbrev pub with_number : CatNo → List OfData → List (CatNo × OfData)
with_number number entries = map (λ e. (number, e)) entries

-- a seat of the session before the category: what was told there holds, and all that was tried has been taken
pub record IsSeat (session : SessionNo) (m : Made Label) (s : AtSeat) : Type 0 where
  pub offer : s.offer ≡ m.category
  pub own : s.session ≡ session
  pub holds : Holds (any_offer s.offer) cells_in_object cells_in_morphism s
  pub taken : s.tries ≡ []

-- the categories count from 0
abbrev pub AreNumbered : Standing → Type 0
AreNumbered S = (i : ℕ) (m : Made Label) → slice_get S.categories i ≡ Some m → m.number.0 ≡ i

pub record AreSeats (session : SessionNo) (S : Standing) (seats : List AtSeat) : Type 0 where
  pub numbered : AreNumbered S
  pub all : AllZip (IsSeat session) S.categories seats

-- what the category with a number has told the session
abbrev pub told_or_none : Option AtSeat → Handle → Option ObjData
told_or_none None h = None
told_or_none (Some s) h = told_at s h

abbrev pub telling : List AtSeat → Telling
telling seats n = told_or_none (slice_get seats n)

-- what the session has seen of the category with a number
abbrev pub seen_or_none : Option AtSeat → List OfData
seen_or_none None = []
seen_or_none (Some s) = s.seen

abbrev pub seen_at : List AtSeat → ℕ → List OfData
seen_at seats n = seen_or_none (slice_get seats n)

-- what the desk before the category with a number has of its state
abbrev pub hand_or_none : Option AtSeat → Hand
hand_or_none None = record { place = []; added = 0 }
hand_or_none (Some s) = s.hand

abbrev pub hand_at : List AtSeat → ℕ → Hand
hand_at seats n = hand_or_none (slice_get seats n)

-- whole histories of the categories, of which the session has seen fronts
pub record IsWholeOf (histories : List (History ObjData MorData)) (n : ℕ) (s : AtSeat) : Type 0 where
  pub later : List OfData
  pub whole : history_of histories n ≡ s.seen ++ later
  pub legal : Legal (frame (any_offer s.offer) cells_in_object cells_in_morphism) (history_of histories n)

abbrev pub AreWhole : List (History ObjData MorData) → List AtSeat → Type 0
AreWhole histories seats = (n : ℕ) (s : AtSeat) → slice_get seats n ≡ Some s → IsWholeOf histories n s

-- where a command is refused since a history is full, its numbers are those of the whole history, which is full
abbrev pub FullIsWhole : List (History ObjData MorData) → Standing → Command CheckedObj MorLit → LineAnswer MorData → Type 0
FullIsWhole histories S c (line.Refused (refusal.Full n k)) = (category : CatNo) × IsFullOf kinds rule_table histories S c category n k
FullIsWhole histories S c answer = Unit {0}

-- A command of a session: on whatever whole histories, its events and its answer are what it does; and in each category its own entries are woven among those of others, and are all that was added at the desk.
pub record CommandRuns (others : List OfData → Type 0) (session : SessionNo) (S : Standing) (seats : List AtSeat) (c : Command CheckedObj MorLit) (events : List (CatNo × OfData)) (answer : LineAnswer MorData) (seats' : List AtSeat) : Type 0 where
  pub does : (histories : List (History ObjData MorData)) → AreWhole histories seats' → DoesOrLacks kinds rule_table histories (lacking S c) session S c events answer
  pub full : (histories : List (History ObjData MorData)) → AreWhole histories seats' → FullIsWhole histories S c answer
  pub grown : (n : ℕ) → IsWoven others (seen_at seats n) (of_category n events) (seen_at seats' n)
  pub hands : (n : ℕ) → hand_at seats' n ≡ with_more (hand_at seats n) (length (of_category n events))
