use Rattle.std.proofs.Common.{◌≡◌, ◌++◌, take}
use Rattle.cap_block_faults.specs.Marks.{each}
use Rattle.cap_faults.specs.Commands.{arg_item}
use Rattle.cap_faults.proofs.arguments.put_each_arg.Given as goal

abbrev pub invariant-list : goal.invariant-list
invariant-list l = l.marks.items ≡ l.fn.marks.items ++ each (arg_item l.values l.cat l.op.0) (take l.i l.args)
