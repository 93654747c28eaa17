use Rattle.cap_script_laws.proofs.Once.{one_fault}
use Rattle.cap_script_laws.proofs.laws.law_one_fault.Goals as goal

pub returns : goal.returns
returns c = one_fault
