use Rattle.cap_script_laws.proofs.Once.{one_script}
use Rattle.cap_script_laws.proofs.laws.law_one_script.Goals as goal

pub returns : goal.returns
returns c = one_script
