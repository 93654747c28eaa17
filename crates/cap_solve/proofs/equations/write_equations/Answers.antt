use Rattle.std.proofs.Common.{◌≡◌, ◌⊎◌, ◌+◌, ◌*◌, ◌<◌, ◌≤◌, ℕ, inl, inr, List, ◌++◌, length, take, refl, sym, ap, ◌∙◌, subst, arith, rules}
use Rattle.cap_matrix.specs.Grid.{entry}
use Rattle.cap_reduce.specs.Flat.{cell}
use Rattle.cap_laws.specs.Answers.{Answers}
use Rattle.cap_homlaw.proofs.Images.{prime-positive}
use Rattle.cap_solve_laws.specs.Systems.{unknowns_width, values_width, system_matrix, equation_columns, values_row}
use Rattle.cap_solve.specs.Blocks.{IsBlockAdded}
use Rattle.cap_solve.specs.Parts.{IsWritten}
use Rattle.cap_solve.specs.Sizes.{OneMeets, IsSizeInEquations}
use Rattle.cap_solve.proofs.Faults.{err-is, fault_of, either_fits, fit_none, fit_more, fit_all, each_fits}
use Rattle.cap_solve.proofs.Places.{nth-here, values-next, width-next, take_all}
use Rattle.cap_solve.proofs.Written.{columns_inside, columns_written, columns_after, value-long}
use Rattle.cap_solve.proofs.equations.write_equations.Goals as goal

pub add_terms-requires-clause-equation : goal.add_terms-requires-clause-equation
add_terms-requires-clause-equation g c =
    let es = c.args.equations.now in
    let i = c.loop-equation.equation-index in
    let e = c.equation-item.result in
    c.requires.equations.each i e (nth-here es i e c.loop-equation-test.true c.equation-item.is)

pub add_terms-requires-clause-columns : goal.add_terms-requires-clause-columns
add_terms-requires-clause-columns g c =
    let q = c.args.c.now in
    let es = c.args.equations.now in
    let i = c.loop-equation.equation-index in
    let e = c.equation-item.result in
    columns_inside (g.met.C.Cat.linear q) (g.met.C.HomFp.is_hom q) c.args.unknowns.now es c.requires.equations i e (nth-here es i e c.loop-equation-test.true c.equation-item.is)
    c.args.width c.loop-equation.start c.requires.width c.loop-equation.invariant.start

pub nu-requires : goal.nu-requires
nu-requires g c =
    let es = c.args.equations.now in
    let i = c.loop-equation.equation-index in
    let e = c.equation-item.result in
    (c.requires.equations.each i e (nth-here es i e c.loop-equation-test.true c.equation-item.is)).value

pub overflow_add-start : goal.overflow_add-start
overflow_add-start g c =
    let q = c.args.c.now in
    let es = c.args.equations.now in
    let i = c.loop-equation.equation-index in
    let e = c.equation-item.result in
    let L = g.met.C.Cat.linear q in
    let S = g.met.C.HomFp.is_hom q in
    let at = nth-here es i e c.loop-equation-test.true c.equation-item.is in
    let inside = columns_inside L S c.args.unknowns.now es c.requires.equations i e at c.args.width c.loop-equation.start c.requires.width c.loop-equation.invariant.start in
    let long = c.len-start.ensures ∙ ap (λ (l : List ℕ). length l) c.in_ok-row.ensures.0 ∙ value-long L S (c.requires.equations.each i e at) in
    omega (arith, inside, long, c.ranges.width)

pub loop-equation-init : goal.loop-equation-init
loop-equation-init g c =
    let q = c.args.c.now in
    let C = g.C.Cat.category q in
    let W = g.C.HomFp.hom_meets q in
    record {
      start = refl;
      values = search rules;
      inside = λ a j lt below. absurd (omega (arith, below));
      after = λ a j lt ge below. c.requires.zeros (a * c.args.width + j);
      small = λ k. subst (λ z. z < C.prime) (sym (c.requires.zeros k)) (prime-positive (g.met.C.Cat.linear q));
      sizes = fit_none c.args.equations.now (λ _ e z. OneMeets e.terms (λ t. W.h t.left t.right z) ⊎ W.nu e.value z);
    }

pub loop-equation-preserved : goal.loop-equation-preserved
loop-equation-preserved g c =
    let q = c.args.c.now in
    let C = g.C.Cat.category q in
    let H = g.C.HomFp.hom q in
    let W = g.C.HomFp.hom_meets q in
    let L = g.met.C.Cat.linear q in
    let S = g.met.C.HomFp.is_hom q in
    let us = c.args.unknowns.now in
    let es = c.args.equations.now in
    let i = c.loop-equation.equation-index in
    let e = c.equation-item.result in
    let at = nth-here es i e c.loop-equation-test.true c.equation-item.is in
    let E = c.requires.equations in
    let w = c.args.width in
    let start = c.loop-equation.start in
    let h = c.loop-equation.invariant in
    let mid = c.loop-equation.cells in
    let now = c.add_terms.new.cells in
    let n = H.dim (C.source e.value) (C.target e.value) in
    let B = c.in_ok-add_terms.ensures.0 in
    let long = c.len-start.ensures ∙ ap (λ (l : List ℕ). length l) c.in_ok-row.ensures.0 ∙ value-long L S (E.each i e at) in
    let end : start + n ≡ start + c.len-start.result = omega (arith, long) in
    let next = width-next C H at in
    record {
      start = omega (arith, long, h.start, next);
      values = c.in_ok-extend_from_slice.ensures.items ∙ ap (λ (l : List ℕ). l ++ c.as_slice.result.now) h.values ∙ ap (λ (l : List ℕ). values_row H (take i es) ++ l) (c.as_slice.ensures ∙ c.in_ok-row.ensures.0) ∙ sym (values-next H at);
      inside = subst (λ z. (a j : ℕ) → a < unknowns_width H us → j < z → cell now w a j ≡ entry (system_matrix C H us es).entries a j) end
          (columns_written L S us es E i e at w start c.requires.width h.start mid now h.inside h.after B);
      after = subst (λ z. (a j : ℕ) → a < unknowns_width H us → z ≤ j → j < w → cell now w a j ≡ 0) end
          (columns_after L S us es E i e at w start c.requires.width h.start mid now h.after B);
      small = B.small;
      sizes = fit_more es (λ _ x z. OneMeets x.terms (λ t. W.h t.left t.right z) ⊎ W.nu x.value z) i e at
          (either_fits (λ z. OneMeets e.terms (λ t. W.h t.left t.right z)) (W.nu e.value) c.in_ok-add_terms.ensures.1 c.in_ok-row.ensures.1) h.sizes;
    }

pub returns : goal.returns
returns g c =
    let q = c.args.c.now in
    let C = g.C.Cat.category q in
    let H = g.C.HomFp.hom q in
    let W = g.C.HomFp.hom_meets q in
    let us = c.args.unknowns.now in
    let es = c.args.equations.now in
    let i = c.loop-equation.equation-index in
    let h = c.loop-equation.invariant in
    let w = c.args.width in
    let cells = c.loop-equation.cells in
    let all : i ≡ length es = omega (arith, c.loop-equation-test.false, c.loop-equation.auto.equation-index-end) in
    let whole = ap (λ m. take m es) all ∙ take_all es in
    let end : c.loop-equation.start ≡ values_width C H es = h.start ∙ ap (λ l. values_width C H l) whole in (
      record {
        matrix = record {
          each = λ a j lt below.
              let narrow : j < w = omega (arith, below, c.requires.width) in
              ap (λ m. cell cells m a j) (sym c.requires.width) ∙ h.inside a j lt (omega (arith, below, end));
        };
        values = c.new.ensures ∙ h.values ∙ ap (λ l. values_row H l) whole;
      },
      each_fits es (λ x z. OneMeets x.terms (λ t. W.h t.left t.right z) ⊎ W.nu x.value z) (fit_all es (λ _ x z. OneMeets x.terms (λ t. W.h t.left t.right z) ⊎ W.nu x.value z) i (omega (arith, all)) h.sizes),
    )

pub returns-in_err-add_terms : goal.returns-in_err-add_terms
returns-in_err-add_terms g c =
    let q = c.args.c.now in
    let C = g.C.Cat.category q in
    let H = g.C.HomFp.hom q in
    let W = g.C.HomFp.hom_meets q in
    let us = c.args.unknowns.now in
    let es = c.args.equations.now in
    let i = c.loop-equation.equation-index in
    let x = c.equation-item.result in
    let at = nth-here es i x c.loop-equation-test.true c.equation-item.is in
    let now = c.add_terms.new.cells in
    let n = H.dim (C.source x.value) (C.target x.value) in
    let e = c.in_err-add_terms.field-0.0 in
    let is = err-is c.from_residual.result e c.from_residual.ensures.1 in
    let right = λ (row : List ℕ). IsWritten C H us es now row in
    let first = λ (u : Unit {0}). IsBlockAdded C.prime c.args.width c.loop-equation.cells now 0 c.loop-equation.start (unknowns_width H us) n (entry (equation_columns C H us n x.terms).entries) in
    subst (λ r. Answers (IsSizeInEquations W es) right r) (sym is)
    (fault_of (IsSizeInEquations W es) (λ z. OneMeets x.terms (λ t. W.h t.left t.right z)) right first e (λ s m. record { number = i; item = x; is = at; meets = inl m }) c.in_err-add_terms.ensures)

pub returns-in_err-row : goal.returns-in_err-row
returns-in_err-row g c =
    let q = c.args.c.now in
    let C = g.C.Cat.category q in
    let H = g.C.HomFp.hom q in
    let W = g.C.HomFp.hom_meets q in
    let us = c.args.unknowns.now in
    let es = c.args.equations.now in
    let i = c.loop-equation.equation-index in
    let x = c.equation-item.result in
    let at = nth-here es i x c.loop-equation-test.true c.equation-item.is in
    let now = c.add_terms.new.cells in
    let e = c.in_err-row.field-0.0 in
    let is = err-is c.from_residual-in_err-row.result e c.from_residual-in_err-row.ensures.1 in
    let right = λ (row : List ℕ). IsWritten C H us es now row in
    subst (λ r. Answers (IsSizeInEquations W es) right r) (sym is)
    (fault_of (IsSizeInEquations W es) (W.nu x.value) right (λ (row : List ℕ). row ≡ H.nu x.value) e (λ s m. record { number = i; item = x; is = at; meets = inr m }) c.in_err-row.ensures)
