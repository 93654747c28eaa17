use Rattle.std.proofs.Common.{◌≡◌, ◌⊎◌, ◌-◌, ◌*◌, ◌^◌, ◌<◌, ℕ, min, inl, inr, List, length, get_or, refl, sym, ap, ◌∙◌, subst, arith, rules}
use Rattle.std.proofs.lemmas.List.{with_items_is}
use Rattle.cap_matrix.specs.Grid.{Grid}
use Rattle.cap_matrix.specs.Buffer.{matrix_of}
use Rattle.cap_matrix.proofs.Filled.{fits_parts}
use Rattle.cap_laws.specs.Answers.{Answers, Size, Fits, numbers}
use Rattle.cap_solve_laws.specs.Systems.{unknowns_width, values_width, system_matrix, values_row}
use Rattle.cap_solve_laws.proofs.Equations.{AreEquations, system-matrix}
use Rattle.cap_solve.specs.Parts.{AreEnds, AreValues, IsWritten}
use Rattle.cap_solve.specs.Sizes.{IsSizeInEquations}
use Rattle.cap_solve.proofs.Faults.{err-is, fault_of, either_fits, size_fits}
use Rattle.cap_solve.proofs.Places.{uncut_small, past_limits}
use Rattle.cap_solve.proofs.Written.{written_residues, written_matrix}
use Rattle.cap_solve.proofs.equations.row_equation.Goals as goal

pub unknown_count-rows-requires : goal.unknown_count-rows-requires
unknown_count-rows-requires g c = subst (λ us. AreEnds (g.C.Cat.category c.args.c.now) us) (sym c.as_slice-unknowns.ensures) (record { each = c.requires.unknowns })

pub value_count-cols-requires : goal.value_count-cols-requires
value_count-cols-requires g c = subst (λ es. AreValues (g.C.Cat.category c.args.c.now) es) (sym c.as_slice-equations.ensures) (record { each = λ n e q. (c.requires.equations n e q).value })

pub returns-then-not-fits : goal.returns-then-not-fits
returns-then-not-fits g c =
    let C = g.C.Cat.category c.args.c.now in
    let H = g.C.HomFp.hom c.args.c.now in
    let n = unknowns_width H c.args.s.now.unknowns in
    let m = values_width C H c.args.s.now.equations in
    let most = 2 ^ 32 - 1 in
    let rows = c.unknown_count-rows.ensures ∙ ap (λ l. min (unknowns_width H l) most) c.as_slice-unknowns.ensures in
    let cols = c.value_count-cols.ensures ∙ ap (λ l. min (values_width C H l) most) c.as_slice-equations.ensures in
    record {
      size = numbers n m;
      is_met = inl refl;
      past = λ (h : Fits (numbers n m)). past_limits n m c.unknown_count-rows.result c.value_count-cols.result rows cols (sym c.fits.ensures ∙ c.if-not-fits.true) h.rows h.columns h.cells;
      rows_named = rows;
      columns_named = cols;
    }

pub write_equations-requires-clause-unknowns : goal.write_equations-requires-clause-unknowns
write_equations-requires-clause-unknowns g c = subst (λ us. AreEnds (g.C.Cat.category c.args.c.now) us) (sym c.as_slice-unknowns.ensures) (record { each = c.requires.unknowns })

pub write_equations-requires-clause-equations : goal.write_equations-requires-clause-equations
write_equations-requires-clause-equations g c =
    let C = g.C.Cat.category c.args.c.now in
    subst (λ es. AreEquations C c.as_slice-unknowns.result.now es) (sym c.as_slice-equations.ensures)
    (subst (λ us. AreEquations C us c.args.s.now.equations) (sym c.as_slice-unknowns.ensures) (record { each = c.requires.equations }))

pub write_equations-requires-clause-few : goal.write_equations-requires-clause-few
write_equations-requires-clause-few g c =
    let H = g.C.HomFp.hom c.args.c.now in
    let parts = fits_parts c.unknown_count-rows.result c.value_count-cols.result (sym c.fits.ensures ∙ c.if-not-fits.false) in
    let er = uncut_small (unknowns_width H c.as_slice-unknowns.result.now) c.unknown_count-rows.result parts.0 c.unknown_count-rows.ensures in
    omega (arith, er, parts.0)

pub write_equations-requires-clause-width : goal.write_equations-requires-clause-width
write_equations-requires-clause-width g c =
    let C = g.C.Cat.category c.args.c.now in
    let H = g.C.HomFp.hom c.args.c.now in
    let parts = fits_parts c.unknown_count-rows.result c.value_count-cols.result (sym c.fits.ensures ∙ c.if-not-fits.false) in
    uncut_small (values_width C H c.as_slice-equations.result.now) c.value_count-cols.result parts.1 c.value_count-cols.ensures

pub write_equations-requires-clause-size : goal.write_equations-requires-clause-size
write_equations-requires-clause-size g c =
    let H = g.C.HomFp.hom c.args.c.now in
    let parts = fits_parts c.unknown_count-rows.result c.value_count-cols.result (sym c.fits.ensures ∙ c.if-not-fits.false) in
    let er = uncut_small (unknowns_width H c.as_slice-unknowns.result.now) c.unknown_count-rows.result parts.0 c.unknown_count-rows.ensures in
    let base : length c.deref_mut.result.now ≡ c.unknown_count-rows.result * c.value_count-cols.result = search rules in
    subst (λ n. length c.deref_mut.result.now ≡ n * c.value_count-cols.result) er base

pub from_cells-requires-clause-residues : goal.from_cells-requires-clause-residues
from_cells-requires-clause-residues g c =
    let q = c.args.c.now in
    let C = g.C.Cat.category q in
    let H = g.C.HomFp.hom q in
    let us = c.as_slice-unknowns.result.now in
    let es = c.as_slice-equations.result.now in
    let rows = c.unknown_count-rows.result in
    let cols = c.value_count-cols.result in
    let E = subst (λ l. AreEquations C us l) (sym c.as_slice-equations.ensures) (subst (λ l. AreEquations C l c.args.s.now.equations) (sym c.as_slice-unknowns.ensures) (record { each = c.requires.equations })) in
    let G = system-matrix (g.met.C.Cat.linear q) (g.met.C.HomFp.is_hom q) us es E in
    let parts = fits_parts rows cols (sym c.fits.ensures ∙ c.if-not-fits.false) in
    let er = uncut_small (unknowns_width H us) rows parts.0 c.unknown_count-rows.ensures in
    let ec = uncut_small (values_width C H es) cols parts.1 c.value_count-cols.ensures in
    let now = c.write_equations.new.cells in
    let long : length now ≡ c.in_ok-cells.cells.len = omega arith in
    let small = written_residues G now c.in_ok-row.ensures.0.matrix in
    subst (λ (xs : List ℕ). (k : ℕ) → k < rows * cols → get_or xs k 0 < c.field-field.result) (sym (with_items_is c.in_ok-cells.cells now long))
    (subst (λ p. (k : ℕ) → k < rows * cols → get_or now k 0 < p) c.field-field.ensures
    (subst (λ n. (k : ℕ) → k < n * cols → get_or now k 0 < C.prime) (sym er) (subst (λ m. (k : ℕ) → k < unknowns_width H us * m → get_or now k 0 < C.prime) (sym ec) small)))

pub returns : goal.returns
returns g c =
    let q = c.args.c.now in
    let C = g.C.Cat.category q in
    let H = g.C.HomFp.hom q in
    let W = g.C.HomFp.hom_meets q in
    let us = c.as_slice-unknowns.result.now in
    let es = c.as_slice-equations.result.now in
    let eu = c.as_slice-unknowns.ensures in
    let ee = c.as_slice-equations.ensures in
    let rows = c.unknown_count-rows.result in
    let cols = c.value_count-cols.result in
    let E = subst (λ l. AreEquations C us l) (sym ee) (subst (λ l. AreEquations C l c.args.s.now.equations) (sym eu) (record { each = c.requires.equations })) in
    let G = system-matrix (g.met.C.Cat.linear q) (g.met.C.HomFp.is_hom q) us es E in
    let fits = sym c.fits.ensures ∙ c.if-not-fits.false in
    let parts = fits_parts rows cols fits in
    let er = uncut_small (unknowns_width H us) rows parts.0 c.unknown_count-rows.ensures in
    let ec = uncut_small (values_width C H es) cols parts.1 c.value_count-cols.ensures in
    let cells = c.write_equations.new.cells in
    let long : length cells ≡ c.in_ok-cells.cells.len = omega arith in
    let written = c.in_ok-row.ensures.0 in
    let matrix = c.from_cells.ensures ∙ ap (λ (xs : List ℕ). matrix_of c.field-field.result rows cols xs) (with_items_is c.in_ok-cells.cells cells long)
    ∙ ap (λ z. matrix_of z rows cols cells) (sym c.field-field.ensures) ∙ ap (λ z. matrix_of C.prime z cols cells) er ∙ ap (λ z. matrix_of C.prime (unknowns_width H us) z cells) ec
    ∙ written_matrix G cells written.matrix in
    let same = ap (λ l. system_matrix C H l es) eu ∙ ap (λ l. system_matrix C H c.args.s.now.unknowns l) ee in
    let values = written.values ∙ ap (λ l. values_row H l) ee in
    let M = system_matrix C H c.args.s.now.unknowns c.args.s.now.equations in
    let pair = λ (x : Grid) (y : List ℕ). let z : Grid × List ℕ = (x, y) in z in
    let n = unknowns_width H c.args.s.now.unknowns in
    let m = values_width C H c.args.s.now.equations in (
      ap (λ x. pair x c.in_ok-row.row) (matrix ∙ same) ∙ ap (λ y. pair M y) values,
      either_fits (λ z. z ≡ numbers n m) (IsSizeInEquations W c.args.s.now.equations)
          (subst (λ (k : ℕ). (z : Size) → z ≡ numbers k m → Fits z) (er ∙ ap (λ l. unknowns_width H l) eu)
          (subst (λ (k : ℕ). (z : Size) → z ≡ numbers rows k → Fits z) (ec ∙ ap (λ l. values_width C H l) ee) (size_fits rows cols fits)))
          (subst (λ l. (z : Size) → IsSizeInEquations W l z → Fits z) ee c.in_ok-row.ensures.1),
    )

pub returns-in_err-row : goal.returns-in_err-row
returns-in_err-row g c =
    let q = c.args.c.now in
    let C = g.C.Cat.category q in
    let H = g.C.HomFp.hom q in
    let W = g.C.HomFp.hom_meets q in
    let us = c.as_slice-unknowns.result.now in
    let es = c.as_slice-equations.result.now in
    let n = unknowns_width H c.args.s.now.unknowns in
    let m = values_width C H c.args.s.now.equations in
    let e = c.in_err-row.field-0.0 in
    let is = err-is c.from_residual-in_err-row.result e c.from_residual-in_err-row.ensures.1 in
    let met = λ (z : Size). (z ≡ numbers n m) ⊎ IsSizeInEquations W c.args.s.now.equations z in
    let right = λ (x : Grid × List ℕ). x ≡ (system_matrix C H c.args.s.now.unknowns c.args.s.now.equations, values_row H c.args.s.now.equations) in
    subst (λ r. Answers met right r) (sym is)
    (fault_of met (IsSizeInEquations W es) right (λ row. IsWritten C H us es c.write_equations.new.cells row) e
    (λ z k. inr (subst (λ l. IsSizeInEquations W l z) c.as_slice-equations.ensures k)) c.in_err-row.ensures)
