use Rattle.std.proofs.Common.{arith}
use Rattle.cap_ops.specs.Ends.{profile_of}
use Rattle.cap_ops.proofs.Letters.{few_letters}
use Rattle.cap_ops.proofs.Padded.{there, not_there}
use Rattle.cap_ops.proofs.ends.arity.Goals as goal

pub returns-then-is_some : goal.returns-then-is_some
returns-then-is_some c =
    let low = there _ _ c.operation_ends.ensures.args 3 (omega arith) c.if-is_some.ensures in
    omega (arith, (few_letters c.args.op.0).2, low)

pub returns-then-is_some-2 : goal.returns-then-is_some-2
returns-then-is_some-2 c =
    let high = not_there _ _ c.operation_ends.ensures.args 3 (omega arith) c.if-is_some.ensures in
    let low = there _ _ c.operation_ends.ensures.args 2 (omega arith) c.if-is_some-2.ensures in
    omega arith

pub returns-then-is_some-3 : goal.returns-then-is_some-3
returns-then-is_some-3 c =
    let high = not_there _ _ c.operation_ends.ensures.args 2 (omega arith) c.if-is_some-2.ensures in
    let low = there _ _ c.operation_ends.ensures.args 1 (omega arith) c.if-is_some-3.ensures in
    omega arith

pub returns-then-is_some-4 : goal.returns-then-is_some-4
returns-then-is_some-4 c =
    let high = not_there _ _ c.operation_ends.ensures.args 1 (omega arith) c.if-is_some-3.ensures in
    let low = there _ _ c.operation_ends.ensures.args 0 (omega arith) c.if-is_some-4.ensures in
    omega arith

pub returns-else-is_some-4 : goal.returns-else-is_some-4
returns-else-is_some-4 c =
    let high = not_there _ _ c.operation_ends.ensures.args 0 (omega arith) c.if-is_some-4.ensures in
    omega arith
