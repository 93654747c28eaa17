use Rattle.cap_cert.proofs.WordTests.{number_is}
use Rattle.cap_cert.proofs.words.is_number.Goals as goal

pub returns : goal.returns
returns c = number_is c.has_digits.result c.args.text.now c.has_digits.ensures
