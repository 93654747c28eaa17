use Rattle.std.proofs.Common.{◌+◌, ◌-◌, ◌^◌, min, take, sym, ap, ◌∙◌, subst}
use Rattle.cap_solve_laws.specs.Systems.{values_width}
use Rattle.cap_solve.proofs.Places.{nth-here, width-next, cut_sum}
use Rattle.cap_solve.proofs.equations.value_count.Goals as goal

pub source-requires : goal.source-requires
source-requires g c =
    c.requires.each c.loop-equation.equation-index c.equation-item.result (nth-here c.args.equations.now c.loop-equation.equation-index c.equation-item.result c.loop-equation-test.true c.equation-item.is)

pub target-requires : goal.target-requires
target-requires g c =
    c.requires.each c.loop-equation.equation-index c.equation-item.result (nth-here c.args.equations.now c.loop-equation.equation-index c.equation-item.result c.loop-equation-test.true c.equation-item.is)

pub dim-requires-clause-left : goal.dim-requires-clause-left
dim-requires-clause-left g c =
    let k = c.args.c.now in
    let e = c.equation-item.result in
    let V = c.requires.each c.loop-equation.equation-index e (nth-here c.args.equations.now c.loop-equation.equation-index e c.loop-equation-test.true c.equation-item.is) in
    subst (λ x. (g.C.Cat.category k).is_object x) (sym c.source.ensures) ((g.met.C.Cat.linear k).source_object e.value V)

pub dim-requires-clause-right : goal.dim-requires-clause-right
dim-requires-clause-right g c =
    let k = c.args.c.now in
    let e = c.equation-item.result in
    let V = c.requires.each c.loop-equation.equation-index e (nth-here c.args.equations.now c.loop-equation.equation-index e c.loop-equation-test.true c.equation-item.is) in
    subst (λ x. (g.C.Cat.category k).is_object x) (sym c.target.ensures) ((g.met.C.Cat.linear k).target_object e.value V)

pub loop-equation-preserved : goal.loop-equation-preserved
loop-equation-preserved g c =
    let C = g.C.Cat.category c.args.c.now in
    let H = g.C.HomFp.hom c.args.c.now in
    let es = c.args.equations.now in
    let i = c.loop-equation.equation-index in
    let e = c.equation-item.result in
    let most = 2 ^ 32 - 1 in
    c.saturating_add-count.ensures ∙ ap (λ m. min (c.loop-equation.count + m) most) c.dim.ensures
    ∙ ap (λ x. min (c.loop-equation.count + min (H.dim x c.target.result.now) most) most) c.source.ensures
    ∙ ap (λ x. min (c.loop-equation.count + min (H.dim (C.source e.value) x) most) most) c.target.ensures
    ∙ cut_sum (values_width C H (take i es)) (H.dim (C.source e.value) (C.target e.value)) c.loop-equation.count most c.loop-equation.invariant
    ∙ ap (λ n. min n most) (sym (width-next C H (nth-here es i e c.loop-equation-test.true c.equation-item.is)))
