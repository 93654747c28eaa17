use Rattle.cap_fitting.proofs.Faultless.{given_are_written, free_where_faultless}
use Rattle.cap_fitting.proofs.laws.law_free_where_faultless.Goals as goal

pub returns : goal.returns
returns c = record { written = given_are_written; free = free_where_faultless }
