-- A script has one report, but for the sizes that refusals name.
use Rattle.std.specs.Prelude.{◌≡◌, List}
use Rattle.cap_checked.specs.declared.tree.Checked.{Checked}
use Rattle.cap_fitting.specs.Forms.{FormFits}
use Rattle.cap_rules.specs.Table.{rule_table}
use Rattle.cap_data.specs.declared.data.ObjData.{ObjData}
use Rattle.cap_data.specs.declared.data.MorData.{MorData}
use Rattle.cap_report.specs.declared.report.Report.{Report}
use Rattle.cap_report.specs.declared.report.Trace.{Trace}
use Rattle.cap_commands.specs.Agreement.{Standing}
use Rattle.cap_commands.specs.Kinds.{kinds}
use Rattle.cap_commands.specs.Seats.{AtSeat}
use Rattle.cap_traces.specs.Runs.{HasRun, IsReportOf}
use Rattle.cap_one_report.specs.Sizes.{without_sizes, HasNoSizes}
use Rattle.cap_one_report.specs.InTurn.{IsInTurn}

-- two reports of a form that fits, of sessions that run one after another, say the same but for sizes
abbrev pub OneReport : Type 0
OneReport = (form : Checked) → FormFits form → (r s : Report ObjData MorData) → IsInTurn kinds rule_table form r → IsInTurn kinds rule_table form s → without_sizes r ≡ without_sizes s

-- where no refusal names a size, they are one
abbrev pub OneWholeReport : Type 0
OneWholeReport = (form : Checked) → FormFits form → (r s : Report ObjData MorData) → IsInTurn kinds rule_table form r → IsInTurn kinds rule_table form s → HasNoSizes r → HasNoSizes s → r ≡ s

-- the report of a whole run is one of sessions that run one after another
abbrev pub RunsAreInTurn : Type 0
RunsAreInTurn = (form : Checked) (behind : Standing) (prelude : Trace ObjData MorData) (sessions : List (Trace ObjData MorData)) (seats' : List AtSeat) → HasRun form behind prelude sessions seats'
    → (r : Report ObjData MorData) → IsReportOf prelude sessions seats' r → IsInTurn kinds rule_table form r

-- so two whole runs of a form that fits report the same but for sizes
abbrev pub OneRun : Type 0
OneRun = (form : Checked) → FormFits form → (behind behind' : Standing) (prelude prelude' : Trace ObjData MorData) (sessions sessions' : List (Trace ObjData MorData)) (seats seats' : List AtSeat)
    → HasRun form behind prelude sessions seats → HasRun form behind' prelude' sessions' seats' → (r s : Report ObjData MorData) → IsReportOf prelude sessions seats r → IsReportOf prelude' sessions' seats' s
    → without_sizes r ≡ without_sizes s
