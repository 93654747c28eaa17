use Rattle.std.proofs.Common.{arith}
use Rattle.cap_terms.proofs.Taken.{nameable_is, take-push, take-full}
use Rattle.cap_terms.proofs.known.Known.push.Goals as goal

pub returns-then-self-lt256 : goal.returns-then-self-lt256
returns-then-self-lt256 c = rw nameable_is (take-push 256 c.self.inside.shapes c.args.self.now c.self.inside.len c.args.shape c.self.view_is c.if-self-lt256.true (omega arith))

pub returns-else-self-lt256 : goal.returns-else-self-lt256
returns-else-self-lt256 c = rw nameable_is (take-full 256 c.self.inside.shapes c.args.self.now c.self.inside.len c.args.shape c.self.view_is c.if-self-lt256.false c.self.invariant.0 c.self.invariant.1)
