use Rattle.std.proofs.Common.{◌<◌, sym, arith}
use Rattle.cap_printer.proofs.Good.{named_text, no_operation}
use Rattle.cap_printer.proofs.texts.operation_text.Goals as goal

pub returns-then-op-gt44 : goal.returns-then-op-gt44
returns-then-op-gt44 c = let past : 44 < c.args.op.0 = omega arith in sym (no_operation c.args.op.0 past)

pub returns : goal.returns
returns c = sym (named_text c.args.op.0 c.op_name.result.now c.op_name.ensures)
