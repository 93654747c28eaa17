use Rattle.cap_vec.proofs.PullbackLaws.{pullback_is}
use Rattle.cap_vec.proofs.laws.law_pullback_is_universal.Goals as goal

pub returns : goal.returns
returns c = pullback_is
