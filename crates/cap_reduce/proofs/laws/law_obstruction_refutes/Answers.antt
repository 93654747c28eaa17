use Rattle.cap_reduce.proofs.Decided.{obstruction_refutes}
use Rattle.cap_reduce.proofs.laws.law_obstruction_refutes.Goals as goal

pub returns : goal.returns
returns c = obstruction_refutes
