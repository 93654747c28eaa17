use Rattle.cap_call_laws.proofs.Values.{rules_are}
use Rattle.cap_call_laws.proofs.laws.law_rules_can_run.Goals as goal

pub returns : goal.returns
returns c = rules_are
