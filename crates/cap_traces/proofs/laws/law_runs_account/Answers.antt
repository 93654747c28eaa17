use Rattle.cap_traces.proofs.Accounting.{run-accounts}
use Rattle.cap_traces.proofs.laws.law_runs_account.Goals as goal

pub returns : goal.returns
returns c = λ form behind prelude sessions seats' H r R. run-accounts form behind prelude sessions seats' H r R
