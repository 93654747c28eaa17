use Rattle.std.proofs.Common.{arith}
use Rattle.cap_io.proofs.Taking.{copied-slice}
use Rattle.cap_io.proofs.memory.MemSourceSource.take.Goals as goal

pub returns-clause-taken : goal.returns-clause-taken
returns-clause-taken c =
    rw (← c.self.view_is)
    (copied-slice c.self.inside.bytes.items c.deref-2.result.now c.copy_from_slice.new.self c.args.buf.now c.self.inside.at c.min-count.result
    c.min.result c.deref-2.ensures.value c.copy_from_slice.ensures.after c.min-count.ensures (λ room. omega (arith, c.self.invariant.1)))
