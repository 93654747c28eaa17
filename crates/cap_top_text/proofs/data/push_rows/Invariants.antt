use Rattle.std.proofs.Common.{◌≡◌, ◌++◌, take, map}
use Rattle.std.specs.Prelude.{codes}
use Rattle.cap_top_text.specs.Data.{joined, row_text}
use Rattle.cap_top_text.proofs.data.push_rows.Given as goal

abbrev pub invariant-loop-row : goal.invariant-loop-row
invariant-loop-row l = l.out.items ≡ l.fn.out.items ++ joined (codes "; ") (take l.row (map row_text l.m.entries))
