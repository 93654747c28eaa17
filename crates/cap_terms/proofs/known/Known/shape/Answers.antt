use Rattle.std.proofs.Common.{arith}
use Rattle.cap_terms.proofs.Taken.{nameable_is, past_known}
use Rattle.cap_terms.proofs.known.Known.shape.Goals as goal

pub returns-else-place-self : goal.returns-else-place-self
returns-else-place-self c = λ full taken. past_known 256 c.self.inside.shapes c.args.self.now full c.self.inside.len c.args.x.0 c.self.view_is (rw nameable_is at taken) c.self.invariant.0 c.self.invariant.1 (omega arith) (omega arith)
