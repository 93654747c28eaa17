use Rattle.cap_vec.proofs.PullbackLaws.{pushout_is}
use Rattle.cap_vec.proofs.laws.law_pushout_is_universal.Goals as goal

pub returns : goal.returns
returns c = pushout_is
