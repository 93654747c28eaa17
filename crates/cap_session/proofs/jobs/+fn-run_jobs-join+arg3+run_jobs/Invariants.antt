use Rattle.std.proofs.Common.{length}
use Rattle.cap_session.proofs.jobs.+fn-run_jobs-join+arg3+run_jobs.Given as goal

abbrev pub decreases-join+arg3 : goal.decreases-join+arg3
decreases-join+arg3 g l = length l.jobs.items

abbrev pub decreases-run_jobs : goal.decreases-run_jobs
decreases-run_jobs g l = length l.jobs.items
