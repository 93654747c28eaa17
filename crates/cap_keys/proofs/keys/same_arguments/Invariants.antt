use Rattle.std.proofs.Common.{◌≡◌, take}
use Rattle.cap_keys.proofs.keys.same_arguments.Given as goal

abbrev pub invariant-loop-i : goal.invariant-loop-i
invariant-loop-i g l = take l.i l.a ≡ take l.i l.b
