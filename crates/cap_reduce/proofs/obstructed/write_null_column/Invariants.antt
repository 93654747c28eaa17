use Rattle.std.proofs.Common.{◌≡◌, ℕ, ◌<◌, get_or}
use Rattle.cap_reduce.specs.Flat.{cell}
use Rattle.cap_reduce.specs.NullTable.{null_value}
use Rattle.cap_reduce.proofs.obstructed.write_null_column.Given as goal

abbrev pub invariant-loop-c : goal.invariant-loop-c
invariant-loop-c l = (k : ℕ) → k < l.c → get_or l.y k 0 ≡ null_value l.p l.rank (cell l.cells l.cols) (λ j. get_or l.place j 0) l.free k
