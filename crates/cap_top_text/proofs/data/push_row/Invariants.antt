use Rattle.std.proofs.Common.{◌≡◌, ◌++◌, [], take, map, get_or}
use Rattle.std.specs.Prelude.{codes}
use Rattle.std.specs.Fmt.{decimal}
use Rattle.cap_top_text.specs.Data.{joined}
use Rattle.cap_top_text.proofs.data.push_row.Given as goal

abbrev pub invariant-loop-column : goal.invariant-loop-column
invariant-loop-column l = l.out.items ≡ l.fn.out.items ++ joined (codes " ") (take l.column (map decimal (get_or l.m.entries l.row [])))
