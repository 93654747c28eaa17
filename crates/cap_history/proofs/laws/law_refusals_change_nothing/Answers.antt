use Rattle.cap_history.proofs.OneMore.{refusals-same}
use Rattle.cap_history.proofs.laws.law_refusals_change_nothing.Goals as goal

pub returns : goal.returns
returns g c = refusals-same
