use Rattle.std.proofs.Common.{◌≡◌, ◌+◌, ◌-◌, ◌∷◌, [], ◌++◌, ◌≤◌, length, take, drop, List, refl, sym, ap, ◌∙◌, subst, arith, rules}
use Rattle.cap_laws.specs.Answers.{Answers}
use Rattle.cap_laws.proofs.Systems.{nth-below}
use Rattle.cap_homlaw.specs.Rows.{AreResidues}
use Rattle.cap_solve_laws.specs.Systems.{unknowns_width, morphisms_of}
use Rattle.cap_solve.specs.Sizes.{IsSizeInMorphisms}
use Rattle.cap_solve.proofs.Faults.{err-is, fault_of, fit_none, fit_more}
use Rattle.cap_solve.proofs.Places.{nth-here, unknowns-within, unknowns-next, morphisms-next, take_all, part-residues}
use Rattle.cap_solve.proofs.solutions.morphisms.Goals as goal

pub dim-requires-clause-left : goal.dim-requires-clause-left
dim-requires-clause-left g c =
    let u = c.loop-from-item.result in
    (c.requires.unknowns.each c.loop-from.from-index (record { from = u.0; to = u.1; is = nth-here c.args.unknowns.now c.loop-from.from-index u c.loop-from-test.true c.loop-from-item.is })).0

pub dim-requires-clause-right : goal.dim-requires-clause-right
dim-requires-clause-right g c =
    let u = c.loop-from-item.result in
    (c.requires.unknowns.each c.loop-from.from-index (record { from = u.0; to = u.1; is = nth-here c.args.unknowns.now c.loop-from.from-index u c.loop-from-test.true c.loop-from-item.is })).1

pub overflow_add-end : goal.overflow_add-end
overflow_add-end g c =
    let H = g.C.HomFp.hom c.args.c.now in
    let us = c.args.unknowns.now in
    let i = c.loop-from.from-index in
    let u = c.loop-from-item.result in
    let within = unknowns-within H (nth-here us i u c.loop-from-test.true c.loop-from-item.is) in
    omega (arith, within, c.requires.few, c.loop-from.invariant.start, c.dim.ensures)

pub back-requires-clause-left : goal.back-requires-clause-left
back-requires-clause-left g c =
    let u = c.loop-from-item.result in
    (c.requires.unknowns.each c.loop-from.from-index (record { from = u.0; to = u.1; is = nth-here c.args.unknowns.now c.loop-from.from-index u c.loop-from-test.true c.loop-from-item.is })).0

pub back-requires-clause-right : goal.back-requires-clause-right
back-requires-clause-right g c =
    let u = c.loop-from-item.result in
    (c.requires.unknowns.each c.loop-from.from-index (record { from = u.0; to = u.1; is = nth-here c.args.unknowns.now c.loop-from.from-index u c.loop-from-test.true c.loop-from-item.is })).1

pub offset_bounds-row-start : goal.offset_bounds-row-start
offset_bounds-row-start g c =
    let within = unknowns-within (g.C.HomFp.hom c.args.c.now) (nth-here c.args.unknowns.now c.loop-from.from-index c.loop-from-item.result c.loop-from-test.true c.loop-from-item.is) in
    omega (arith, within, c.requires.few, c.loop-from.invariant.start)

pub slice_bounds-back-end : goal.slice_bounds-back-end
slice_bounds-back-end g c =
    let H = g.C.HomFp.hom c.args.c.now in
    let u = c.loop-from-item.result in
    let within = unknowns-within H (nth-here c.args.unknowns.now c.loop-from.from-index u c.loop-from-test.true c.loop-from-item.is) in
    let fits : c.loop-from.start + c.dim.result ≤ length c.args.row.now = omega (arith, within, c.requires.few, c.requires.row.long, c.loop-from.invariant.start, c.dim.ensures) in
    search rules

pub back-requires-clause-row : goal.back-requires-clause-row
back-requires-clause-row g c =
    let H = g.C.HomFp.hom c.args.c.now in
    let u = c.loop-from-item.result in
    let d = H.dim u.0 u.1 in
    let start = c.loop-from.start in
    let row = c.args.row.now in
    let p = (g.C.Cat.category c.args.c.now).prime in
    let within = unknowns-within H (nth-here c.args.unknowns.now c.loop-from.from-index u c.loop-from-test.true c.loop-from-item.is) in
    let e : start + c.dim.result - start ≡ d = omega (arith, within, c.requires.few, c.dim.ensures) in
    subst (λ k. AreResidues p d (take k (drop start row))) (sym e) (part-residues c.requires.row start d (omega (arith, within, c.loop-from.invariant.start)))

pub loop-from-init : goal.loop-from-init
loop-from-init g c =
    let H = g.C.HomFp.hom c.args.c.now in
    let us = c.args.unknowns.now in
    record {
      start = refl;
      xs = search rules;
      sizes = fit_none us (λ n e. (g.C.HomFp.hom_meets c.args.c.now).back e.0 e.1 (take (H.dim e.0 e.1) (drop (unknowns_width H (take n us)) c.args.row.now)));
    }

pub loop-from-preserved : goal.loop-from-preserved
loop-from-preserved g c =
    let H = g.C.HomFp.hom c.args.c.now in
    let W = g.C.HomFp.hom_meets c.args.c.now in
    let us = c.args.unknowns.now in
    let i = c.loop-from.from-index in
    let u = c.loop-from-item.result in
    let d = H.dim u.0 u.1 in
    let start = c.loop-from.start in
    let row = c.args.row.now in
    let x = c.in_ok-x.x in
    let q = nth-here us i u c.loop-from-test.true c.loop-from-item.is in
    let within = unknowns-within H q in
    let next = unknowns-next H q in
    let same : start + c.dim.result - start ≡ d = omega (arith, within, c.requires.few, c.dim.ensures) in
    let part = ap (λ k. take k (drop start row)) same ∙ ap (λ k. take d (drop k row)) c.loop-from.invariant.start in
    record {
      start = omega (arith, within, next, c.requires.few, c.dim.ensures, c.loop-from.invariant.start);
      xs = c.in_ok-push.ensures.items ∙ ap (λ l. l ++ (x ∷ [])) c.loop-from.invariant.xs
          ∙ ap (λ z. morphisms_of H (take i us) row ++ (z ∷ [])) (c.in_ok-x.ensures.0 ∙ ap (λ r. H.back u.0 u.1 r) part) ∙ sym (morphisms-next H row q);
      sizes = fit_more us (λ n e. W.back e.0 e.1 (take (H.dim e.0 e.1) (drop (unknowns_width H (take n us)) row))) i u q
          (λ s m. c.in_ok-x.ensures.1 s (subst (λ r. W.back u.0 u.1 r s) (sym part) m)) c.loop-from.invariant.sizes;
    }

pub returns : goal.returns
returns g c =
    let H = g.C.HomFp.hom c.args.c.now in
    let us = c.args.unknowns.now in
    let row = c.args.row.now in
    let all : c.loop-from.from-index ≡ length us = omega (arith, c.loop-from-test.false, c.loop-from.auto.from-index-end) in (
      c.new.ensures ∙ c.loop-from.invariant.xs ∙ ap (λ n. morphisms_of H (take n us) row) all ∙ ap (λ l. morphisms_of H l row) (take_all us),
      λ s m. c.loop-from.invariant.sizes.each m.number m.ends m.is (omega (arith, all, nth-below m.is)) s m.meets,
    )

pub returns-in_err-x : goal.returns-in_err-x
returns-in_err-x g c =
    let H = g.C.HomFp.hom c.args.c.now in
    let W = g.C.HomFp.hom_meets c.args.c.now in
    let us = c.args.unknowns.now in
    let i = c.loop-from.from-index in
    let u = c.loop-from-item.result in
    let d = H.dim u.0 u.1 in
    let start = c.loop-from.start in
    let row = c.args.row.now in
    let q = nth-here us i u c.loop-from-test.true c.loop-from-item.is in
    let within = unknowns-within H q in
    let same : start + c.dim.result - start ≡ d = omega (arith, within, c.requires.few, c.dim.ensures) in
    let part = ap (λ k. take k (drop start row)) same ∙ ap (λ k. take d (drop k row)) c.loop-from.invariant.start in
    let taken = take (start + c.dim.result - start) (drop start row) in
    let e = c.in_err-x.field-0.0 in
    let is = err-is c.from_residual.result e c.from_residual.ensures.1 in
    let met = IsSizeInMorphisms W H us row in
    let right = λ (xs : List _). xs ≡ morphisms_of H us row in
    subst (λ r. Answers met right r) (sym is)
    (fault_of met (W.back u.0 u.1 taken) right (λ z. z ≡ H.back u.0 u.1 taken) e
    (λ s m. record { number = i; ends = u; is = q; meets = subst (λ r. W.back u.0 u.1 r s) part m }) c.in_err-x.ensures)
