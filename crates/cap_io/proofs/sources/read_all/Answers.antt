use Rattle.std.proofs.Common.{take, arith, ◌∙◌}
use Rattle.cap_io.proofs.Taking.{ConsumesSome-more, past_limit, within_limit}
use Rattle.cap_io.proofs.sources.read_all.Goals as goal

pub returns-then-limit-len-clause-bytes : goal.returns-then-limit-len-clause-bytes
returns-then-limit-len-clause-bytes g c =
    ConsumesSome-more _ _ _ c.pieces.bytes.items (take c.in-Ok.count c.take.new.buf) _ c.pieces.invariant.taken c.in-Ok.ensures.taken.0
    (past_limit c.args.limit c.len.result c.in-Ok.count _ _ (c.len.ensures ∙ c.pieces.bytes.ok.0) (omega arith) c.in-Ok.ensures.within.1 c.if-limit-len.true (let same = c.take.auto.buf in omega (arith, c.in-Ok.ensures.within.0)))

pub returns-then-is_err-clause-bytes : goal.returns-then-is_err-clause-bytes
returns-then-is_err-clause-bytes g c =
    ConsumesSome-more _ _ _ c.pieces.bytes.items (take c.in-Ok.count c.take.new.buf) _ c.pieces.invariant.taken c.in-Ok.ensures.taken.0
    (within_limit c.args.limit c.len.result c.in-Ok.count _ _ (c.len.ensures ∙ c.pieces.bytes.ok.0) (omega arith) c.in-Ok.ensures.within.1 c.if-limit-len.false)
