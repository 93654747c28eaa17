use Rattle.std.proofs.Common.{arith}
use Rattle.cap_block_faults.proofs.Each.{each_more}
use Rattle.cap_faults.specs.Commands.{arg_item}
use Rattle.cap_faults.proofs.arguments.put_each_arg.Goals as goal

pub list-preserved : goal.list-preserved
list-preserved c = each_more (arg_item c.args.values.now c.args.cat c.args.op.0) _ _ _ _ _ c.index-args-i.result c.list-test.true c.index-args-i.is c.list.invariant (grind (arith, c.in_ok-put_arg.ensures, c.wanted_sort.ensures))
