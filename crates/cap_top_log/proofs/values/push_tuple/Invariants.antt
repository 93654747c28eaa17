use Rattle.std.proofs.Common.{◌≡◌, ◌++◌, take, map}
use Rattle.std.specs.Prelude.{codes}
use Rattle.cap_top_text.specs.Data.{joined}
use Rattle.cap_top_log.specs.Log.{arrow_text}
use Rattle.cap_top_log.proofs.values.push_tuple.Given as goal

abbrev pub invariant-loop-i : goal.invariant-loop-i
invariant-loop-i l = l.out.items ≡ l.fn.out.items ++ joined (codes " | ") (take l.i (map arrow_text l.arrows))
