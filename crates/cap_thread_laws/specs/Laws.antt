-- What a run of sessions at once is to the accounts.
use Rattle.std.specs.Prelude.{◌≡◌, List, ◌∷◌, option_map}
use Rattle.std.specs.List.{filter_map}
use Rattle.cap_checked.specs.declared.tree.Checked.{Checked}
use Rattle.cap_rules.specs.Table.{rule_table}
use Rattle.cap_data.specs.declared.data.ObjData.{ObjData}
use Rattle.cap_data.specs.declared.data.MorData.{MorData}
use Rattle.cap_history.specs.declared.reading.Finality.{Finality}
use Rattle.cap_history.specs.Reading.{finality}
use Rattle.cap_report.specs.declared.report.History.{History}
use Rattle.cap_report.specs.declared.report.Report.{Report}
use Rattle.cap_report.specs.declared.report.Trace.{Trace}
use Rattle.cap_accounts.specs.Accounts.{Accounts}
use Rattle.cap_commands.specs.Agreement.{Standing}
use Rattle.cap_commands.specs.Kinds.{kinds}
use Rattle.cap_commands.specs.Seats.{AtSeat}
use Rattle.cap_thread_laws.specs.AtOnce.{HasRunAtOnce, AreAtEnd}

-- the report of such a run: the histories at its end, what the prelude and each session did, and the plans of the final categories
pub record IsReportAtEnd (behind : Standing) (prelude : Trace ObjData MorData) (between : List AtSeat) (sessions : List (Trace ObjData MorData)) (ends : List (List AtSeat)) (r : Report ObjData MorData) : Type 0 where
  pub histories : AreAtEnd behind between ends r.histories
  pub traces : r.traces ≡ prelude ∷ sessions
  pub plans : r.plans ≡ filter_map (λ (h : History ObjData MorData). option_map (λ (f : Finality). f.plan) (finality h.entries)) r.histories

-- it accounts for the script
abbrev pub RunsAtOnceAccount : Type 0
RunsAtOnceAccount = (form : Checked) (behind : Standing) (prelude : Trace ObjData MorData) (between : List AtSeat) (sessions : List (Trace ObjData MorData)) (ends : List (List AtSeat))
    → HasRunAtOnce form behind prelude between sessions ends → (r : Report ObjData MorData) → IsReportAtEnd behind prelude between sessions ends r → Accounts kinds rule_table form r
