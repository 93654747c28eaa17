use Rattle.std.proofs.Common.{◌≡◌, ℕ, get_or, subst, arith}
use Rattle.cap_reduce.specs.NullTable.{IsLeadList}
use Rattle.cap_reduce.proofs.LeadList.{lead_list_push, lead_list_skip}
use Rattle.cap_reduce.proofs.solving.lead_list.Goals as goal
use Rattle.cap_reduce.proofs.solving.lead_list.Goals.{then-place-i+in_ok-push, else-place-i}

pub loop-i-preserved : goal.loop-i-preserved
loop-i-preserved c =
    let place = λ (j : ℕ). get_or c.args.place.now j 0 in
    elim c.if-place-i.branch [
      | then-place-i+in_ok-push w ↦ rw (w.rows-is, w.in_ok-push.ensures.items) (lead_list_push c.args.rank place c.loop-i.i c.loop-i.rows.items c.loop-i.invariant (omega arith))
      | else-place-i w ↦ rw w.rows-is (lead_list_skip c.args.rank place c.loop-i.i c.loop-i.rows.items c.loop-i.invariant (omega arith))
    ]

pub returns : goal.returns
returns c =
    let e : c.loop-i.i ≡ c.args.count = omega arith in
    subst (λ n. IsLeadList c.args.rank (λ j. get_or c.args.place.now j 0) n c.loop-i.rows.items) e c.loop-i.invariant
