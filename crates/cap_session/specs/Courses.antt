-- How far a run has come, and how a session's commands bring it on.
use Rattle.std.specs.Prelude.{◌≡◌, ℕ, ◌<◌, ◌≤◌, List, [], ◌∷◌, ◌++◌, length, map, take, get_or}
use Rattle.cap_names.specs.declared.identifiers.SessionNo.{SessionNo}
use Rattle.cap_names.specs.declared.literals.MorLit.{MorLit}
use Rattle.cap_grammar.specs.declared.tree.Command.{Command}
use Rattle.cap_checked.specs.declared.tree.CheckedObj.{CheckedObj}
use Rattle.cap_check.specs.Unbuilt.{CheckedPart}
use Rattle.cap_fitting.specs.Categories.{category_over}
use Rattle.cap_fitting.specs.Commands.{CommandFits}
use Rattle.cap_fitting.specs.Forms.{CheckedCommand, behind_commands}
use Rattle.cap_fitting.specs.Literals.{LiteralFits}
use Rattle.cap_ops.specs.Told.{StaysTold}
use Rattle.cap_data.specs.declared.data.ObjData.{ObjData}
use Rattle.cap_data.specs.declared.data.MorData.{MorData}
use Rattle.cap_report.specs.declared.lines.LineAnswer.{LineAnswer}
use Rattle.cap_report.specs.declared.report.Trace.{Trace}
use Rattle.cap_report.specs.Named.{bound_name}
use Rattle.cap_accounts.specs.Accounts.{CountFrom, with_bound}
use Rattle.cap_commands.specs.Agreement.{Agrees}
use Rattle.cap_commands.specs.Running.{Runs}
use Rattle.cap_commands.specs.Seats.{AtSeat, OfData, AreSeats, telling}
use Rattle.cap_traces.specs.Chains.{Chain}
use Rattle.cap_session.specs.declared.course.Course.{Course}

-- what a command answered is bound to its name and noted
pub record Notes {S : Type 0} (C : Course S) (c : Command CheckedObj MorLit) (answer : LineAnswer MorData) (C' : Course S) : Type 0 where
  pub standing : C'.standing ≡ with_bound C.standing (bound_name c) answer
  pub seats : C'.seats ≡ C.seats
  pub events : C'.events ≡ C.events
  pub done : C'.done.items ≡ C.done.items ++ record { command = length C.done.items; answer = answer } ∷ []

-- what a session has done is handed over, and nothing of it stays
pub record Hands {S : Type 0} (session : SessionNo) (C : Course S) (t : Trace ObjData MorData) (C' : Course S) : Type 0 where
  pub trace : t ≡ record { session = session; events = C.events.items; done = C.done.items }
  pub standing : C'.standing ≡ C.standing
  pub seats : C'.seats ≡ C.seats
  pub silent : C'.events.items ≡ []
  pub idle : C'.done.items ≡ []

-- a command has run, and its answer is bound and noted
pub record RunsOne (others : List OfData → Type 0) (C : Course AtSeat) (c : Command CheckedObj MorLit) (C' : Course AtSeat) : Type 0 where
  pub answer : LineAnswer MorData
  pub runs : Runs others C.standing C.seats.items c C.events.items answer C'.seats.items C'.events.items
  pub standing : C'.standing ≡ with_bound C.standing (bound_name c) answer
  pub done : C'.done.items ≡ C.done.items ++ record { command = length C.done.items; answer = answer } ∷ []

-- each command of a session fits behind the prelude and the commands before it
pub record CommandsFit (prelude : List CheckedPart) (commands : List CheckedCommand) : Type 0 where
  pub fits : (i : ℕ) (c : CheckedCommand) → i < length commands → c ≡ get_or commands i c → CommandFits (behind_commands prelude (take i commands)) c.node
  pub literals : (i : ℕ) (c : CheckedCommand) → i < length commands → c ≡ get_or commands i c → LiteralFits (category_over prelude) c.node

-- A session comes whose commands fit: the names of the prelude agree with what stands, and the session sits at the seats.
pub record Comes (session : SessionNo) (C : Course AtSeat) (commands : List CheckedCommand) : Type 0 where
  pub silent : C.events.items ≡ []
  pub idle : C.done.items ≡ []
  pub few : length commands ≤ 4096
  pub are : AreSeats session C.standing C.seats.items
  pub prelude : List CheckedPart
  pub fit : CommandsFit prelude commands
  pub agrees : Agrees (behind_commands prelude []) C.standing (telling C.seats.items)

-- the commands have run one after another, and what was told before stays
pub record RunsAll (others : List OfData → Type 0) (session : SessionNo) (C : Course AtSeat) (commands : List CheckedCommand) (C' : Course AtSeat) : Type 0 where
  pub chain : Chain others session C.standing C.seats.items (map (λ c. c.node) commands) C'.events.items (map (λ d. d.answer) C'.done.items) C'.standing C'.seats.items
  pub counted : CountFrom 0 C'.done.items
  pub are : AreSeats session C'.standing C'.seats.items
  pub stays : (n : ℕ) → StaysTold (telling C.seats.items n) (telling C'.seats.items n)
