-- What a whole run reports, on one thread and on many.
use Rattle.std.specs.Prelude.{◌≡◌, List, option_map}
use Rattle.std.specs.List.{AllZip, filter_map}
use Rattle.cap_checked.specs.declared.tree.Checked.{Checked}
use Rattle.cap_rules.specs.Table.{rule_table}
use Rattle.cap_data.specs.declared.data.ObjData.{ObjData}
use Rattle.cap_data.specs.declared.data.MorData.{MorData}
use Rattle.cap_offer.specs.Labels.{Label, any_offer}
use Rattle.cap_history.specs.declared.reading.Finality.{Finality}
use Rattle.cap_history.specs.Reading.{finality}
use Rattle.cap_report.specs.declared.report.History.{History}
use Rattle.cap_report.specs.declared.report.Report.{Report}
use Rattle.cap_report.specs.declared.report.Trace.{Trace}
use Rattle.cap_report.specs.declared.situation.Made.{Made}
use Rattle.cap_accounts.specs.Accounts.{Accounts}
use Rattle.cap_one_report.specs.InTurn.{IsInTurn}
use Rattle.cap_right_laws.specs.Right.{IsRight}
use Rattle.cap_commands.specs.Kinds.{kinds}
use Rattle.cap_commands.specs.Seats.{AtSeat}
use Rattle.cap_traces.specs.Runs.{histories_from}

-- what the seats have seen are the histories of the categories in order, with these traces, and the plans of the final ones
pub record IsReport (seats : List AtSeat) (traces : List (Trace ObjData MorData)) (r : Report ObjData MorData) : Type 0 where
  pub histories : r.histories ≡ histories_from 0 seats
  pub are_traces : r.traces ≡ traces
  pub plans : r.plans ≡ filter_map (λ (s : AtSeat). option_map (λ (f : Finality). f.plan) (finality s.seen)) seats

-- The report accounts for the script, of sessions that run one after another; and each history is right: its values are those of plain evaluation by its plan and have their meaning, and equal keys have one value.
pub record IsPlainReport (form : Checked) (r : Report ObjData MorData) : Type 0 where
  pub turn : IsInTurn kinds rule_table form r
  pub right : AllZip (λ (m : Made Label) (h : History ObjData MorData). IsRight (any_offer m.category) h.entries) turn.accounts.behind.categories r.histories

-- The report accounts for the script, in whatever order its sessions took turns; and each history is right.
pub record IsRunReport (form : Checked) (r : Report ObjData MorData) : Type 0 where
  pub accounts : Accounts kinds rule_table form r
  pub right : AllZip (λ (m : Made Label) (h : History ObjData MorData). IsRight (any_offer m.category) h.entries) accounts.behind.categories r.histories
