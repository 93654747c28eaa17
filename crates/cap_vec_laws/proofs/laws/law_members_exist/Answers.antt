use Rattle.cap_vec_laws.proofs.Members.{members}
use Rattle.cap_vec_laws.proofs.laws.law_members_exist.Goals as goal

pub returns : goal.returns
returns c = members
