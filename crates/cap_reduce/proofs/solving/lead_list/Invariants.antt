use Rattle.std.proofs.Common.{get_or}
use Rattle.cap_reduce.specs.NullTable.{IsLeadList}
use Rattle.cap_reduce.proofs.solving.lead_list.Given as goal

abbrev pub invariant-loop-i : goal.invariant-loop-i
invariant-loop-i l = IsLeadList l.rank (λ j. get_or l.place j 0) l.i l.rows.items
