use Rattle.std.proofs.Common.{◌≡◌, ℕ, ◌*◌, ◌%◌, ◌<◌, ◌≤◌, get_or}
use Rattle.cap_matrix.specs.Grid.{total}
use Rattle.cap_reduce.specs.Flat.{cell}
use Rattle.cap_reduce.specs.NullTable.{null_value}
use Rattle.cap_reduce.proofs.obstructed.find_obstruction.Given as goal

abbrev pub invariant-loop-f : goal.invariant-loop-f
invariant-loop-f l = (k : ℕ) → k < l.f → l.rank ≤ get_or l.place k 0
    → total l.cols (λ c. get_or l.v c 0 * null_value l.p l.rank (cell l.cells l.cols) (λ j. get_or l.place j 0) k c) % l.p ≡ 0
