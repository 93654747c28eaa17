use Rattle.cap_one_report.proofs.Runs.{one-run}
use Rattle.cap_one_report.proofs.laws.law_one_run.Goals as goal

pub returns : goal.returns
returns c = one-run
