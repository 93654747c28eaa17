use Rattle.std.proofs.Common.{ℕ, ◌≤◌}
use Rattle.cap_matrix.specs.Reduced.{IsReducedBy}
use Rattle.cap_reduce.specs.Flat.{cell}
use Rattle.cap_reduce.specs.NullTable.{IsScanned}
use Rattle.cap_reduce.proofs.Leads.{at}
use Rattle.cap_reduce.proofs.scan.scan_leads.Given as goal

abbrev pub invariant-loop-c : goal.invariant-loop-c
invariant-loop-c l = record {
  met : l.met ≤ l.c;
  scanned : (p : ℕ) (lead : ℕ → ℕ) → IsReducedBy p l.rank l.cols (cell l.cells l.width) lead → IsScanned l.rank lead (at l.place) (at l.free) l.met l.c;
}
