use Rattle.cap_cert.proofs.Refused.{kept_of, only_of, no_bad}
use Rattle.cap_cert.proofs.reader.read_certs.Goals as goal

pub returns-in-Ok-clause-kept : goal.returns-in-Ok-clause-kept
returns-in-Ok-clause-kept c = kept_of (λ v. v.items) c.args.bytes.now c.read_tokens.result c.read_tokens.ensures.found

pub returns-in-Ok-clause-only : goal.returns-in-Ok-clause-only
returns-in-Ok-clause-only c = only_of (λ v. v.items) c.args.bytes.now c.read_tokens.result c.read_tokens.ensures.found c.read_tokens.ensures.refused

pub returns-in-Err-BadByte-clause-only : goal.returns-in-Err-BadByte-clause-only
returns-in-Err-BadByte-clause-only c = λ certs a. absurd (no_bad c.args.bytes.now c.in-Err-BadByte.bad.place a.tokens (rw c.in-Err-BadByte.field-0-is at c.in-Err-BadByte.ensures.bad) a.are)
