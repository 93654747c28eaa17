use Rattle.cap_cert_laws.proofs.ReadAgain.{certificates_read}
use Rattle.cap_cert_laws.proofs.laws.law_written_certificates_are_read.Goals as goal

pub returns : goal.returns
returns c = certificates_read
