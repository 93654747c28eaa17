use Rattle.cap_history.proofs.OneMore.{one-more}
use Rattle.cap_history.proofs.laws.law_one_more_entry.Goals as goal

pub returns : goal.returns
returns g c = one-more
