use Rattle.std.proofs.Common.{true, false}
use Rattle.cap_top.specs.Judged.{IsRunJudged, IsPlainJudged, IsPlanJudged, IsCheckJudged}
use Rattle.cap_said_laws.proofs.Statuses.{run_tells_faults, usage_tells_faults}
use Rattle.cap_said_laws.proofs.laws.law_status_tells_faults.Goals as goal

pub returns : goal.returns
returns c = record {
  run = run_tells_faults (IsRunJudged false);
  log = run_tells_faults (IsRunJudged true);
  plain = run_tells_faults IsPlainJudged;
  plan = run_tells_faults IsPlanJudged;
  check = run_tells_faults IsCheckJudged;
  usage = usage_tells_faults;
}
