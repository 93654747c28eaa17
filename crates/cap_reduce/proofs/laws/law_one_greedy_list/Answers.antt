use Rattle.cap_reduce.proofs.LeadList.{one_greedy_list}
use Rattle.cap_reduce.proofs.laws.law_one_greedy_list.Goals as goal

pub returns : goal.returns
returns c = one_greedy_list
