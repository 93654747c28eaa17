use Rattle.std.proofs.Common.{length}
use Rattle.cap_io.proofs.Taking.{copied-slice}
use Rattle.cap_io.proofs.sure.SureSourceSource.take.Goals as goal

pub returns-clause-taken : goal.returns-clause-taken
returns-clause-taken c =
    rw (← c.self.view_is)
    (copied-slice c.self.inside.bytes.items c.deref.result.now c.copy_from_slice.new.self c.args.buf.now c.self.inside.at c.min-count.result
    (length c.args.buf.now) c.deref.ensures.value c.copy_from_slice.ensures.after c.min-count.ensures (λ room. room))
