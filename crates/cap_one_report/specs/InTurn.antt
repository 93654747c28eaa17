-- When a report is that of sessions that run one after another.
use Rattle.std.specs.Prelude.{List, ◌∷◌, map}
use Rattle.std.specs.List.{All}
use Rattle.std.specs.List.Sorted.{IsNonDecreasing}
use Rattle.cap_names.specs.declared.literals.MorLit.{MorLit}
use Rattle.cap_grammar.specs.declared.tree.Command.{Command}
use Rattle.cap_grammar.specs.declared.tree.Placed.{Placed}
use Rattle.cap_grammar.specs.declared.tree.SessionPart.{SessionPart}
use Rattle.cap_checked.specs.declared.tree.Checked.{Checked}
use Rattle.cap_checked.specs.declared.tree.CheckedObj.{CheckedObj}
use Rattle.cap_terms.specs.declared.body.Rule.{Rule}
use Rattle.cap_history.specs.declared.entries.Entry.{Entry}
use Rattle.cap_report.specs.declared.lines.LineAnswer.{LineAnswer}
use Rattle.cap_report.specs.declared.report.History.{History}
use Rattle.cap_report.specs.declared.report.Report.{Report}
use Rattle.cap_report.specs.declared.report.Trace.{Trace}
use Rattle.cap_report.specs.declared.situation.Situation.{Situation}
use Rattle.cap_report.specs.Named.{bound_name}
use Rattle.cap_accounts.specs.Worlds.{World}
use Rattle.cap_accounts.specs.Accounts.{Accounts, FullForAll, with_bound}

module _ {X T O M : Type 0} (W : World X T O M) (rules : List Rule) (histories : List (History O M)) where
  -- where a history refuses one of these commands since it is full, no later session has an event in it
  abbrev pub StayFull : Situation X T M → List (Command CheckedObj MorLit) → List (LineAnswer M) → List (Trace O M) → Type 0
  StayFull S (c ∷ cs) (a ∷ answers) later = FullForAll W rules histories S c a later × StayFull (with_bound S (bound_name c) a) cs answers later
  StayFull S _ _ later = Unit {0}

  -- and so in each of these sessions
  abbrev pub AllStayFull : Situation X T M → List (Placed (SessionPart CheckedObj MorLit)) → List (Trace O M) → Type 0
  AllStayFull S (p ∷ parts) (t ∷ later) = StayFull S (map (λ c. c.node) p.node.commands) (map (λ d. d.answer) t.done) later × AllStayFull S parts later
  AllStayFull S _ _ = Unit {0}

-- the report accounts for the script; in each history each session's entries stand behind those of the sessions before it; and a history that was full for a session stays as it is
pub record IsInTurn {X T O M : Type 0} (W : World X T O M) (rules : List Rule) (form : Checked) (r : Report O M) : Type 0 where
  pub accounts : Accounts W rules form r
  pub in_turn : All (λ (h : History O M). IsNonDecreasing (map (λ (e : Entry O M). e.session.0) h.entries)) r.histories
  pub full : AllStayFull W rules r.histories accounts.behind form.sessions accounts.sessions
