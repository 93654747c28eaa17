use Rattle.std.proofs.Common.{◌≡◌, ℕ, ◌+◌, ◌<◌}
use Rattle.cap_reduce.specs.Flat.{cell}
use Rattle.cap_reduce.proofs.scan.write_transpose.Given as goal

abbrev pub invariant-loop-j : goal.invariant-loop-j
invariant-loop-j l = record {
  written : (k i : ℕ) → k < l.j → i < l.rows → cell l.out l.width k (l.start + i) ≡ cell l.cells l.cols i k;
  before : (k q : ℕ) → k < l.cols → q < l.start → cell l.out l.width k q ≡ cell l.initial.out l.width k q;
}
