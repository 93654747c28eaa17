use Rattle.std.proofs.Common.{◌≡◌, ℕ, ◌-◌, ◌<◌, get_or}
use Rattle.cap_reduce.specs.Flat.{cell}
use Rattle.cap_reduce.specs.NullTable.{null_entry}
use Rattle.cap_reduce.proofs.nulls.write_null_rows.Given as goal

abbrev pub invariant-loop-i : goal.invariant-loop-i
invariant-loop-i l = (k c : ℕ) → k < l.i → c < l.cols
    → cell l.out l.cols k c ≡ null_entry l.p l.rank l.cols (cell l.cells l.cols) (λ j. get_or l.place j 0) (get_or l.free (l.cols - l.rank - 1 - k) 0) c
