use Rattle.cap_thread_laws.proofs.Accounting.{run-at-once-accounts}
use Rattle.cap_thread_laws.proofs.laws.law_runs_at_once_account.Goals as goal

pub returns : goal.returns
returns c = λ form behind prelude between sessions ends H r R. run-at-once-accounts form behind prelude between sessions ends H r R
