use Rattle.cap_cert.proofs.WordTests.{named_is}
use Rattle.cap_cert.proofs.drafts.named.Goals as goal

pub returns : goal.returns
returns c = named_is c.args.text.now c.new.result c.new.ensures.variant c.new.ensures.bytes
