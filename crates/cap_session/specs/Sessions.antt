-- Sessions behind the prelude, one after another.
use Rattle.std.specs.Prelude.{◌≡◌, ℕ, ◌≤◌, List, [], ◌++◌, length, map}
use Rattle.cap_names.specs.declared.identifiers.SessionNo.{SessionNo}
use Rattle.cap_checked.specs.declared.tree.Checked.{Checked}
use Rattle.cap_check.specs.Unbuilt.{CheckedPart}
use Rattle.cap_fitting.specs.Forms.{CheckedCommand, CheckedSession, behind_commands, FormFits}
use Rattle.cap_fitting.specs.Literals.{LiteralsFit}
use Rattle.cap_ops.specs.Told.{StaysTold}
use Rattle.cap_data.specs.declared.data.ObjData.{ObjData}
use Rattle.cap_data.specs.declared.data.MorData.{MorData}
use Rattle.cap_report.specs.declared.report.Trace.{Trace}
use Rattle.cap_accounts.specs.Accounts.{CountFrom}
use Rattle.cap_commands.specs.Agreement.{Standing, Agrees}
use Rattle.cap_commands.specs.Seats.{AtSeat, OfData, AreSeats, telling}
use Rattle.cap_traces.specs.Chains.{Chain}
use Rattle.cap_traces.specs.Runs.{seated, SessionsRun}
use Rattle.cap_session.specs.declared.course.Course.{Course}
use Rattle.cap_session.specs.Courses.{CommandsFit}

-- a session comes, and whoever sits at the seats goes
pub record SessionComes (C : Course AtSeat) (commands : List CheckedCommand) : Type 0 where
  pub silent : C.events.items ≡ []
  pub idle : C.done.items ≡ []
  pub few : length commands ≤ 4096
  pub last : SessionNo
  pub are : AreSeats last C.standing C.seats.items
  pub prelude : List CheckedPart
  pub fit : CommandsFit prelude commands
  pub agrees : Agrees (behind_commands prelude []) C.standing (telling C.seats.items)

-- a session has run behind the prelude, and nothing of what it bound stays
pub record RunsSession (others : List OfData → Type 0) (session : SessionNo) (C : Course AtSeat) (commands : List CheckedCommand) (t : Trace ObjData MorData) (C' : Course AtSeat) : Type 0 where
  pub number : t.session ≡ session
  pub counted : CountFrom 0 t.done
  pub behind : Standing
  pub chain : Chain others session C.standing (seated session C.seats.items) (map (λ c. c.node) commands) t.events (map (λ d. d.answer) t.done) behind C'.seats.items
  pub are : AreSeats session C.standing C'.seats.items
  pub stays : (n : ℕ) → StaysTold (telling C.seats.items n) (telling C'.seats.items n)
  pub standing : C'.standing ≡ C.standing
  pub silent : C'.events.items ≡ []
  pub idle : C'.done.items ≡ []

-- The sessions of a script come, behind the trace of its prelude.
pub record SessionsCome (C : Course AtSeat) (sessions : List CheckedSession) (traces : List (Trace ObjData MorData)) : Type 0 where
  pub form : Checked
  pub are_form : form.sessions ≡ sessions
  pub fits : FormFits form
  pub literals : LiteralsFit form
  pub silent : C.events.items ≡ []
  pub idle : C.done.items ≡ []
  pub last : SessionNo
  pub are : AreSeats last C.standing C.seats.items
  pub agrees : Agrees (behind_commands form.prelude []) C.standing (telling C.seats.items)
  pub prelude_alone : length traces ≡ 1

-- the sessions have run one after another, and their traces stand behind those before
pub record RunsSessions (C : Course AtSeat) (sessions : List CheckedSession) (traces : List (Trace ObjData MorData)) (C' : Course AtSeat) (traces' : List (Trace ObjData MorData)) : Type 0 where
  pub own : List (Trace ObjData MorData)
  pub added : traces' ≡ traces ++ own
  pub runs : SessionsRun 1 C.standing C.seats.items sessions own C'.seats.items
  pub last : SessionNo
  pub are : AreSeats last C.standing C'.seats.items
