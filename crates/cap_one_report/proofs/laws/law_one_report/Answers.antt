use Rattle.cap_one_report.proofs.Reports.{one-report}
use Rattle.cap_one_report.proofs.laws.law_one_report.Goals as goal

pub returns : goal.returns
returns c = one-report
