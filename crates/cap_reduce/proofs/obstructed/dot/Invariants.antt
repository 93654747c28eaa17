use Rattle.std.proofs.Common.{◌≡◌, ◌*◌, ◌≤◌, get_or}
use Rattle.cap_matrix.specs.Grid.{total}
use Rattle.cap_reduce.proofs.obstructed.dot.Given as goal

abbrev pub invariant-loop-c : goal.invariant-loop-c
invariant-loop-c l = record {
  value : l.sum ≡ total l.c (λ q. get_or l.v q 0 * get_or l.y q 0);
  small : l.sum ≤ l.c * 62500;
}
