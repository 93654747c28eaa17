use Rattle.std.proofs.Common.{◌≡◌, ◌≢◌, ℕ, ◌+◌, ◌<◌}
use Rattle.cap_reduce.specs.Flat.{cell}
use Rattle.cap_reduce.proofs.scan.write_column_as_row.Given as goal

abbrev pub invariant-loop-i : goal.invariant-loop-i
invariant-loop-i l = record {
  written : (k : ℕ) → k < l.i → cell l.out l.width l.column (l.start + k) ≡ cell l.cells l.cols k l.column;
  before : (q : ℕ) → q < l.start → cell l.out l.width l.column q ≡ cell l.initial.out l.width l.column q;
  others : (j q : ℕ) → q < l.width → j ≢ l.column → cell l.out l.width j q ≡ cell l.initial.out l.width j q;
}
