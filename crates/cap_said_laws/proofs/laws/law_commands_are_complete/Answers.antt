use Rattle.std.proofs.Common.{true, false}
use Rattle.cap_said_laws.proofs.Completeness.{run_complete, plain_complete, plan_complete, check_complete}
use Rattle.cap_said_laws.proofs.laws.law_commands_are_complete.Goals as goal

pub returns : goal.returns
returns c = record { run = run_complete false; log = run_complete true; plain = plain_complete; plan = plan_complete; check = check_complete }
