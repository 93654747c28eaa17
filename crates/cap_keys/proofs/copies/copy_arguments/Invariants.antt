use Rattle.std.proofs.Common.{◌≡◌, take}
use Rattle.cap_keys.proofs.copies.copy_arguments.Given as goal

abbrev pub invariant-loop-arg : goal.invariant-loop-arg
invariant-loop-arg g l = l.copy.items ≡ take l.arg-index l.args
