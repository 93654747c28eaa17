-- Sessions that run at once behind a prelude: each sees its own entries among those of the others, of which it knows nothing.
use Rattle.std.specs.Prelude.{◌≡◌, ℕ, suc, ◌+◌, List, [], ◌∷◌, ◌++◌, length, map}
use Rattle.std.specs.List.{All, AllZip}
use Rattle.cap_grammar.specs.declared.tree.Placed.{Placed}
use Rattle.cap_grammar.specs.declared.tree.SessionPart.{SessionPart}
use Rattle.cap_names.specs.declared.literals.MorLit.{MorLit}
use Rattle.cap_checked.specs.declared.tree.Checked.{Checked}
use Rattle.cap_checked.specs.declared.tree.CheckedObj.{CheckedObj}
use Rattle.cap_rules.specs.Table.{rule_table}
use Rattle.cap_data.specs.declared.data.ObjData.{ObjData}
use Rattle.cap_data.specs.declared.data.MorData.{MorData}
use Rattle.cap_report.specs.declared.report.History.{History}
use Rattle.cap_report.specs.declared.report.Trace.{Trace}
use Rattle.cap_report.specs.Histories.{history_of}
use Rattle.cap_accounts.specs.Accounts.{CountFrom, IsHistory, at_first}
use Rattle.cap_commands.specs.Agreement.{Standing}
use Rattle.cap_commands.specs.Kinds.{kinds}
use Rattle.cap_commands.specs.Seats.{AtSeat, OfData, AreSeats, seen_at, hand_at}
use Rattle.cap_traces.specs.Chains.{Chain}
use Rattle.cap_traces.specs.Runs.{prelude_session, ItemsRun}

-- others may have put anything
abbrev pub IsAnything : List OfData → Type 0
IsAnything between = Unit {0}

-- a session with the n-th number has run behind the prelude: its seats had seen what the prelude saw, and nothing had been added there
pub record SessionRan (n : ℕ) (S : Standing) (between : List AtSeat) (part : Placed (SessionPart CheckedObj MorLit)) (t : Trace ObjData MorData) (seats' : List AtSeat) : Type 0 where
  pub number : t.session.0 ≡ n
  pub counted : CountFrom 0 t.done
  pub seats : List AtSeat
  pub are : AreSeats t.session S seats
  pub seen : (c : ℕ) → seen_at seats c ≡ seen_at between c
  pub nothing : (c : ℕ) → (hand_at seats c).added ≡ 0
  pub behind : Standing
  pub runs : Chain IsAnything t.session S seats (map (λ c. c.node) part.node.commands) t.events (map (λ d. d.answer) t.done) behind seats'

-- so have all sessions, which count from here, each with its seats at the end
abbrev pub SessionsRan : ℕ → Standing → List AtSeat → List (Placed (SessionPart CheckedObj MorLit)) → List (Trace ObjData MorData) → List (List AtSeat) → Type 0
SessionsRan n S between [] [] [] = Unit {0}
SessionsRan n S between (p ∷ parts) (t ∷ traces) (e ∷ ends) = SessionRan n S between p t e × SessionsRan (suc n) S between parts traces ends
SessionsRan n S between _ _ _ = ⊥

-- a script has run: its prelude, and then its sessions at once
pub record HasRunAtOnce (form : Checked) (behind : Standing) (prelude : Trace ObjData MorData) (between : List AtSeat) (sessions : List (Trace ObjData MorData)) (ends : List (List AtSeat)) : Type 0 where
  pub number : prelude.session ≡ prelude_session
  pub counted : CountFrom 0 prelude.done
  pub prelude_runs : ItemsRun at_first [] (map (λ i. i.node) form.prelude) prelude.events (map (λ d. d.answer) prelude.done) behind between
  pub sessions_ran : SessionsRan 1 behind between form.sessions sessions ends

-- how much was added to the state of a category at these seats
abbrev pub added_at : ℕ → List (List AtSeat) → ℕ
added_at c [] = 0
added_at c (seats ∷ ends) = (hand_at seats c).added + added_at c ends

-- a list begins with what was seen
abbrev pub BeginsWith : List OfData → List OfData → Type 0
BeginsWith entries seen = (rest : List OfData) × (entries ≡ seen ++ rest)

-- the histories of the categories at the end: each is legal and begins with what the prelude and each session have seen; and it has as many entries as were seen behind the prelude and were added by the sessions
pub record AreAtEnd (behind : Standing) (between : List AtSeat) (ends : List (List AtSeat)) (histories : List (History ObjData MorData)) : Type 0 where
  pub are : AllZip (IsHistory kinds rule_table histories) behind.categories histories
  pub prelude : (c : ℕ) → BeginsWith (history_of histories c) (seen_at between c)
  pub sessions : All (λ (seats : List AtSeat). (c : ℕ) → BeginsWith (history_of histories c) (seen_at seats c)) ends
  pub many : (c : ℕ) → length (history_of histories c) ≡ length (seen_at between c) + added_at c ends
