use Rattle.cap_one_report.proofs.Whole.{one-whole-report}
use Rattle.cap_one_report.proofs.laws.law_one_whole_report.Goals as goal

pub returns : goal.returns
returns c = one-whole-report
