use Rattle.cap_script_laws.proofs.Once.{script_or_fault}
use Rattle.cap_script_laws.proofs.laws.law_script_or_fault.Goals as goal

pub returns : goal.returns
returns c = script_or_fault
