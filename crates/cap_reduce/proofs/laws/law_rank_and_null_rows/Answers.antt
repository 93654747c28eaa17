use Rattle.cap_reduce.proofs.Ranks.{rank_and_null_rows}
use Rattle.cap_reduce.proofs.laws.law_rank_and_null_rows.Goals as goal

pub returns : goal.returns
returns c = rank_and_null_rows
