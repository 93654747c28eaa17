use Rattle.std.proofs.Common.{◌≡◌, take}
use Rattle.cap_ops.specs.Mentions.{distinct}
use Rattle.cap_keys.proofs.mentions.distinct.Given as goal

abbrev pub invariant-loop-i : goal.invariant-loop-i
invariant-loop-i l = l.all.items ≡ distinct (take l.i l.handles)
