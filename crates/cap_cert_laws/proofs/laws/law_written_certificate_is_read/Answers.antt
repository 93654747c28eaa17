use Rattle.cap_cert_laws.proofs.ReadAgain.{certificate_read}
use Rattle.cap_cert_laws.proofs.laws.law_written_certificate_is_read.Goals as goal

pub returns : goal.returns
returns c = certificate_read
