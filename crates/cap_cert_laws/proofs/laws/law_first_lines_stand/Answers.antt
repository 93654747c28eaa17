use Rattle.cap_cert_laws.proofs.LineNumbers.{first_lines_stand}
use Rattle.cap_cert_laws.proofs.laws.law_first_lines_stand.Goals as goal

pub returns : goal.returns
returns c = first_lines_stand
