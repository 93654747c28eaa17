use Rattle.cap_cert_laws.proofs.Lengths.{certificates_short}
use Rattle.cap_cert_laws.proofs.laws.law_written_text_is_short.Goals as goal

pub returns : goal.returns
returns c = certificates_short
