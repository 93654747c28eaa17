-- Sessions at shared categories, before and after they ran.
use Rattle.std.specs.Prelude.{◌≡◌, ℕ, ◌-◌, ◌≤◌, List, [], ◌∷◌, ◌++◌, length, map, slice_get, Option, Some, None, Result, Ok, Vec}
use Rattle.std.specs.List.{All}
use Rattle.cap_names.specs.declared.faults.NoMemory.{NoMemory}
use Rattle.cap_check.specs.Unbuilt.{CheckedPart}
use Rattle.cap_fitting.specs.Forms.{CheckedCommand, CheckedSession, behind_commands}
use Rattle.cap_accounts.specs.Accounts.{CountFrom}
use Rattle.cap_commands.specs.Agreement.{Standing, Agrees}
use Rattle.cap_commands.specs.Seats.{AtSeat, AreSeats, telling}
use Rattle.cap_shares.specs.Shares.{Shared}
use Rattle.cap_thread_laws.specs.AtOnce.{IsAnything}
use Rattle.cap_traces.specs.Chains.{Chain}
use Rattle.cap_traces.specs.Runs.{seated}
use Rattle.cap_session.specs.declared.jobs.Job.{Job}
use Rattle.cap_session.specs.declared.jobs.Ended.{Ended}
use Rattle.cap_session.specs.declared.jobs.Seated.{Seated}
use Rattle.cap_session.specs.Courses.{CommandsFit}
use Rattle.cap_session.specs.Places.{AllFit, HoldsThere, sat_down, stood}

-- where the session sits down
abbrev pub seats_of : List Shared → Job → List AtSeat
seats_of ks job = sat_down job.session ks job.row.items

-- a session whose commands fit has a seat at each category, and the names of the prelude agree with what stands
pub record Ready (S : Standing) (ks : List Shared) (job : Job) : Type 0 where
  pub few : length job.commands.now ≤ 4096
  pub seats : length job.row.items ≤ 256
  pub fits : AllFit ks job.row.items
  pub are : AreSeats job.session S (seats_of ks job)
  pub prelude : List CheckedPart
  pub fit : CommandsFit prelude job.commands.now
  pub agrees : Agrees (behind_commands prelude []) S (telling (seats_of ks job))

-- it has run, among others of which nothing is known, and its seats are free again
pub record Ran (S : Standing) (ks : List Shared) (job : Job) (e : Ended) : Type 0 where
  pub ended : List AtSeat
  pub row : e.row.items ≡ map stood ended
  pub number : e.trace.session ≡ job.session
  pub counted : CountFrom 0 e.trace.done
  pub behind : Standing
  pub chain : Chain IsAnything job.session S (seated job.session (seats_of ks job)) (map (λ c. c.node) job.commands.now) e.trace.events (map (λ d. d.answer) e.trace.done) behind ended
  pub are : AreSeats job.session S ended

-- the sessions that ran before and the last one, where all have run
abbrev pub HaveBoth : {A : Type 0} → Result (Vec Ended A) NoMemory → Result Ended NoMemory → List Ended → Type 0
HaveBoth (Ok before) (Ok last) all = all ≡ before.items ++ last ∷ []
HaveBoth _ _ all = ⊥

-- a session can sit down at the categories
pub record CanSit (ks : List Shared) (job : Job) : Type 0 where
  pub few : length job.row.items ≤ 256
  pub fits : AllFit ks job.row.items
  pub holds : All HoldsThere (seats_of ks job)

-- it has sat down
pub record SatDown (ks : List Shared) (job : Job) (s : Seated AtSeat) : Type 0 where
  pub session : s.session ≡ job.session
  pub seats : s.seats.items ≡ seats_of ks job

-- the commands of the session with a number, which counts from 1
abbrev pub commands_or_none : Option CheckedSession → List CheckedCommand
commands_or_none None = []
commands_or_none (Some p) = p.node.commands

abbrev pub commands_at : List CheckedSession → ℕ → List CheckedCommand
commands_at sessions n = commands_or_none (slice_get sessions (n - 1))

-- it may run: its commands fit, and the names of the prelude agree with what stands
pub record MayRun (sessions : List CheckedSession) (S : Standing) (s : Seated AtSeat) : Type 0 where
  pub few : length (commands_at sessions s.session.0) ≤ 4096
  pub are : AreSeats s.session S s.seats.items
  pub prelude : List CheckedPart
  pub fit : CommandsFit prelude (commands_at sessions s.session.0)
  pub agrees : Agrees (behind_commands prelude []) S (telling s.seats.items)

-- it has run, among others of which nothing is known, and its seats are free again
pub record HasRunAs (sessions : List CheckedSession) (S : Standing) (s : Seated AtSeat) (e : Ended) : Type 0 where
  pub ended : List AtSeat
  pub row : e.row.items ≡ map stood ended
  pub number : e.trace.session ≡ s.session
  pub counted : CountFrom 0 e.trace.done
  pub behind : Standing
  pub chain : Chain IsAnything s.session S (seated s.session s.seats.items) (map (λ c. c.node) (commands_at sessions s.session.0)) e.trace.events (map (λ d. d.answer) e.trace.done) behind ended
  pub are : AreSeats s.session S ended
