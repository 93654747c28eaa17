use Rattle.cap_cert_laws.proofs.Said.{accepted_said}
use Rattle.cap_cert_laws.proofs.laws.law_accepted_is_said.Goals as goal

pub returns : goal.returns
returns c = accepted_said
