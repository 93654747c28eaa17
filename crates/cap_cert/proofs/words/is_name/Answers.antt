use Rattle.cap_cert.proofs.WordTests.{name_is}
use Rattle.cap_cert.proofs.words.is_name.Goals as goal

pub returns : goal.returns
returns c = name_is c.is_free.result c.args.text.now c.is_free.ensures
