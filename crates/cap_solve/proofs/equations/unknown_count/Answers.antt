use Rattle.std.proofs.Common.{◌+◌, ◌-◌, ◌^◌, min, take, sym, ap, ◌∙◌}
use Rattle.cap_solve_laws.specs.Systems.{unknowns_width}
use Rattle.cap_solve.proofs.Places.{nth-here, unknowns-next, cut_sum}
use Rattle.cap_solve.proofs.equations.unknown_count.Goals as goal

pub dim-requires-clause-left : goal.dim-requires-clause-left
dim-requires-clause-left g c =
    let u = c.loop-from-item.result in
    (c.requires.each c.loop-from.from-index (record { from = u.0; to = u.1; is = nth-here c.args.unknowns.now c.loop-from.from-index u c.loop-from-test.true c.loop-from-item.is })).0

pub dim-requires-clause-right : goal.dim-requires-clause-right
dim-requires-clause-right g c =
    let u = c.loop-from-item.result in
    (c.requires.each c.loop-from.from-index (record { from = u.0; to = u.1; is = nth-here c.args.unknowns.now c.loop-from.from-index u c.loop-from-test.true c.loop-from-item.is })).1

pub loop-from-preserved : goal.loop-from-preserved
loop-from-preserved g c =
    let H = g.C.HomFp.hom c.args.c.now in
    let us = c.args.unknowns.now in
    let i = c.loop-from.from-index in
    let u = c.loop-from-item.result in
    let most = 2 ^ 32 - 1 in
    c.saturating_add-count.ensures ∙ ap (λ m. min (c.loop-from.count + m) most) c.dim.ensures
    ∙ cut_sum (unknowns_width H (take i us)) (H.dim u.0 u.1) c.loop-from.count most c.loop-from.invariant
    ∙ ap (λ n. min n most) (sym (unknowns-next H (nth-here us i u c.loop-from-test.true c.loop-from-item.is)))
