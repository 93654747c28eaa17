use Rattle.cap_said_laws.proofs.Certificates.{one_certificates}
use Rattle.cap_said_laws.proofs.laws.law_certificates_are_determined.Goals as goal

pub returns : goal.returns
returns c = one_certificates
