use Rattle.cap_one_report.proofs.Runs.{runs-in-turn}
use Rattle.cap_one_report.proofs.laws.law_runs_are_in_turn.Goals as goal

pub returns : goal.returns
returns c = runs-in-turn
