use Rattle.std.proofs.Common.{◌≡◌, ◌+◌, ◌%◌, length, take, refl, sym, ap, ◌∙◌, subst, arith}
use Rattle.std.specs.List.{sum_by}
use Rattle.std.proofs.lemmas.List.Sums.{sum_by_more}
use Rattle.std.proofs.Math.Nat.{mod-mod}
use Rattle.cap_matrix.specs.Grid.{entry}
use Rattle.cap_laws.specs.Answers.{Answers, Size, Fits}
use Rattle.cap_homlaw.specs.Hom.{hom_matrix}
use Rattle.cap_solve_laws.specs.Systems.{unknowns_width, in_rows, equation_columns}
use Rattle.cap_solve_laws.proofs.Equations.{AreTerms}
use Rattle.cap_solve.specs.Blocks.{IsBlockAdded}
use Rattle.cap_solve.specs.Sizes.{OneMeets}
use Rattle.cap_solve.proofs.Additions.{block_none, block_more, block_same}
use Rattle.cap_solve.proofs.Entries.{term_entry, columns-at}
use Rattle.cap_solve.proofs.Faults.{err-is, fault_of, fit_none, fit_more, fit_all, each_fits}
use Rattle.cap_solve.proofs.Places.{nth-here, take_all}
use Rattle.cap_solve.proofs.Written.{own_term, own_size}
use Rattle.cap_solve.proofs.equations.add_terms.Goals as goal

pub add_term-requires-clause-term : goal.add_term-requires-clause-term
add_term-requires-clause-term g c =
    let C = g.C.Cat.category c.args.c.now in
    let v = c.args.equation.now.value in
    let l = c.as_slice-term-items.result.now in
    let k = c.loop-term.term-index in
    let t = c.term-item.result in
    let A = subst (λ ts. AreTerms C c.args.unknowns.now (C.source v) (C.target v) ts) (sym c.as_slice-term-items.ensures) (record { each = c.requires.equation.terms }) in
    own_term (A.each k t (nth-here l k t c.loop-term-test.true c.term-item.is))

pub add_term-requires-clause-columns : goal.add_term-requires-clause-columns
add_term-requires-clause-columns g c =
    let C = g.C.Cat.category c.args.c.now in
    let H = g.C.HomFp.hom c.args.c.now in
    let v = c.args.equation.now.value in
    let l = c.as_slice-term-items.result.now in
    let k = c.loop-term.term-index in
    let t = c.term-item.result in
    let A = subst (λ ts. AreTerms C c.args.unknowns.now (C.source v) (C.target v) ts) (sym c.as_slice-term-items.ensures) (record { each = c.requires.equation.terms }) in
    let size = own_size H (A.each k t (nth-here l k t c.loop-term-test.true c.term-item.is)) in
    omega (arith, size, c.requires.columns)

pub loop-term-init : goal.loop-term-init
loop-term-init g c =
    let C = g.C.Cat.category c.args.c.now in
    let H = g.C.HomFp.hom c.args.c.now in
    let v = c.args.equation.now.value in
    let us = c.args.unknowns.now in
    let l = c.as_slice-term-items.result.now in
    let n = H.dim (C.source v) (C.target v) in
    record {
      added = block_none C.prime c.args.columns.width c.args.cells.now 0 c.args.columns.start (unknowns_width H us) n (λ i j. sum_by (term_entry C H us n i j) (take 0 l)) (λ i j a b. refl) c.requires.small;
      sizes = fit_none l (λ _ t. (g.C.HomFp.hom_meets c.args.c.now).h t.left t.right);
    }

pub loop-term-preserved : goal.loop-term-preserved
loop-term-preserved g c =
    let C = g.C.Cat.category c.args.c.now in
    let H = g.C.HomFp.hom c.args.c.now in
    let p = C.prime in
    let us = c.args.unknowns.now in
    let v = c.args.equation.now.value in
    let n = H.dim (C.source v) (C.target v) in
    let l = c.as_slice-term-items.result.now in
    let k = c.loop-term.term-index in
    let t = c.term-item.result in
    let lt = c.loop-term-test.true in
    let w = c.args.columns.width in
    let start = c.args.columns.start in
    let mid = c.loop-term.cells in
    let now = c.add_term.new.cells in
    let A = subst (λ ts. AreTerms C us (C.source v) (C.target v) ts) (sym c.as_slice-term-items.ensures) (record { each = c.requires.equation.terms }) in
    let q = nth-here l k t lt c.term-item.is in
    let size = own_size H (A.each k t q) in
    let own = subst (λ m. IsBlockAdded p w mid now 0 start (unknowns_width H us) m (entry (in_rows H p m us t.unknown (hom_matrix C H t.left t.right)).entries)) size c.in_ok-add_term.ensures.0 in
    record {
      added = block_more p w c.args.cells.now mid now 0 start (unknowns_width H us) n (λ i j. sum_by (term_entry C H us n i j) (take k l)) (λ i j. term_entry C H us n i j t)
          (λ i j. sum_by (term_entry C H us n i j) (take (k + 1) l)) c.loop-term.invariant.added own
          (λ i j a b. sum_by_more (term_entry C H us n i j) l k t lt ∙ ap (λ x. sum_by (term_entry C H us n i j) (take k l) + term_entry C H us n i j x) (sym c.term-item.is));
      sizes = fit_more l (λ _ x. (g.C.HomFp.hom_meets c.args.c.now).h x.left x.right) k t q c.in_ok-add_term.ensures.1 c.loop-term.invariant.sizes;
    }

pub returns : goal.returns
returns g c =
    let q = c.args.c.now in
    let C = g.C.Cat.category q in
    let H = g.C.HomFp.hom q in
    let L = g.met.C.Cat.linear q in
    let S = g.met.C.HomFp.is_hom q in
    let p = C.prime in
    let us = c.args.unknowns.now in
    let v = c.args.equation.now.value in
    let V = c.requires.equation.value in
    let n = H.dim (C.source v) (C.target v) in
    let ts = c.args.equation.now.terms in
    let l = c.as_slice-term-items.result.now in
    let k = c.loop-term.term-index in
    let all : k ≡ length l = omega (arith, c.loop-term-test.false, c.loop-term.auto.term-index-end) in
    let whole = ap (λ m. take m l) all ∙ take_all l ∙ c.as_slice-term-items.ensures in
    let fits = each_fits l (λ t. (g.C.HomFp.hom_meets q).h t.left t.right) (fit_all l (λ _ t. (g.C.HomFp.hom_meets q).h t.left t.right) k (omega (arith, all)) c.loop-term.invariant.sizes) in (
      block_same p c.args.columns.width c.args.cells.now c.loop-term.cells 0 c.args.columns.start (unknowns_width H us) n (λ i j. sum_by (term_entry C H us n i j) (take k l)) (entry (equation_columns C H us n ts).entries)
          (λ i j lt below. ap (λ x. sum_by (term_entry C H us n i j) x % p) whole ∙ sym (mod-mod (sum_by (term_entry C H us n i j) ts) p)
          ∙ ap (λ z. z % p) (sym (columns-at L S us (C.source v) (C.target v) (L.source_object v V) (L.target_object v V) ts (record { each = c.requires.equation.terms }) i j lt below)))
          c.loop-term.invariant.added,
      subst (λ x. (s : Size) → OneMeets x (λ t. (g.C.HomFp.hom_meets q).h t.left t.right s) → Fits s) c.as_slice-term-items.ensures fits,
    )

pub returns-in_err-add_term : goal.returns-in_err-add_term
returns-in_err-add_term g c =
    let q = c.args.c.now in
    let C = g.C.Cat.category q in
    let H = g.C.HomFp.hom q in
    let W = g.C.HomFp.hom_meets q in
    let us = c.args.unknowns.now in
    let v = c.args.equation.now.value in
    let n = H.dim (C.source v) (C.target v) in
    let l = c.as_slice-term-items.result.now in
    let k = c.loop-term.term-index in
    let t = c.term-item.result in
    let w = c.args.columns.width in
    let start = c.args.columns.start in
    let now = c.add_term.new.cells in
    let d = H.dim (C.source t.left) (C.target t.right) in
    let e = c.in_err-add_term.field-0.0 in
    let is = err-is c.from_residual.result e c.from_residual.ensures.1 in
    let met = λ (z : Size). OneMeets c.args.equation.now.terms (λ x. W.h x.left x.right z) in
    let right = λ (u : Unit {0}). IsBlockAdded C.prime w c.args.cells.now now 0 start (unknowns_width H us) n (entry (equation_columns C H us n c.args.equation.now.terms).entries) in
    let first = λ (u : Unit {0}). IsBlockAdded C.prime w c.loop-term.cells now 0 start (unknowns_width H us) d (entry (in_rows H C.prime d us t.unknown (hom_matrix C H t.left t.right)).entries) in
    subst (λ r. Answers met right r) (sym is)
    (fault_of met (W.h t.left t.right) right first e
    (λ s m. subst (λ x. OneMeets x (λ y. W.h y.left y.right s)) c.as_slice-term-items.ensures
    (record { number = k; item = t; is = nth-here l k t c.loop-term-test.true c.term-item.is; meets = m })) c.in_err-add_term.ensures)
