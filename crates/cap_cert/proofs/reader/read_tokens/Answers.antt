use Rattle.cap_cert.proofs.Refused.{certs_found}
use Rattle.cap_cert.proofs.reader.read_tokens.Goals as goal

pub returns-in-Ok-clause-found : goal.returns-in-Ok-clause-found
returns-in-Ok-clause-found c = certs_found c.args.bytes.now c.args.tokens.now _ c.requires.are c.in_default-fault_by.ensures.ok c.in-Ok.ensures
