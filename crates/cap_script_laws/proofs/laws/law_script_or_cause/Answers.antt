use Rattle.cap_script_laws.proofs.Decided.{script_or_cause}
use Rattle.cap_script_laws.proofs.laws.law_script_or_cause.Goals as goal

pub returns : goal.returns
returns c = script_or_cause
