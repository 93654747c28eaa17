-- What is reported where no script was run.
use Rattle.std.specs.Prelude.{[]}
use Rattle.cap_data.specs.declared.data.ObjData.{ObjData}
use Rattle.cap_data.specs.declared.data.MorData.{MorData}
use Rattle.cap_report.specs.declared.report.Report.{Report}

-- no category, no session and no plan
abbrev pub no_report : Report ObjData MorData
no_report = record { histories = []; traces = []; plans = [] }
