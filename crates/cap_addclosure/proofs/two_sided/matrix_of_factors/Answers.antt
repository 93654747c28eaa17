use Rattle.std.proofs.Common.{◌≡◌, ℕ, ◌-◌, ◌*◌, ◌^◌, ◌<◌, min, ◌⊎◌, inr, List, get_or, refl, sym, ap, ◌∙◌, subst, rules}
use Rattle.cap_matrix.specs.Buffer.{matrix_of}
use Rattle.cap_laws.specs.Answers.{Size, Fits, numbers}
use Rattle.cap_add_laws.specs.Closure.{sum_list, widths_of}
use Rattle.cap_addclosure.specs.Sizes.{closure_size}
use Rattle.cap_addclosure.proofs.Built.{held-fits}
use Rattle.cap_addclosure.proofs.Faults.{either-fits}
use Rattle.cap_addclosure.proofs.Limits.{fits-numbers, past-numbers}
use Rattle.cap_addclosure.proofs.TwoSidedRows.{row_at, row-residues, stack-matrix, stack-residues}
use Rattle.cap_addclosure.proofs.two_sided.matrix_of_factors.Goals as goal

pub from_cells-requires-clause-size : goal.from_cells-requires-clause-size
from_cells-requires-clause-size g c = sym c.fits.ensures ∙ c.if-not-fits.false

pub from_cells-requires-clause-long : goal.from_cells-requires-clause-long
from_cells-requires-clause-long g c =
    let T = g.T.Table.table c.args.table.now in
    let l = c.args.l.now in
    let r = c.args.r.now in
    let rows = c.dimension-rows.ensures.value ∙ ap (λ (z : List ℕ). sum_list (widths_of T z c.parts-2.result.now)) (c.parts.ensures.value ∙ c.target.ensures) ∙ ap (λ (z : List ℕ). sum_list (widths_of T l.to z)) (c.parts-2.ensures.value ∙ c.source.ensures) in
    let cols = c.dimension-cols.ensures.value ∙ ap (λ (z : List ℕ). sum_list (widths_of T z c.parts-4.result.now)) (c.parts-3.ensures.value ∙ c.source-2.ensures) ∙ ap (λ (z : List ℕ). sum_list (widths_of T l.from z)) (c.parts-4.ensures.value ∙ c.target-2.ensures) in
    c.in_ok-cells.ensures.long ∙ ap (λ n. n * sum_list (widths_of T l.from r.to)) (sym rows) ∙ ap (λ n. c.dimension-rows.result * n) (sym cols)

pub from_cells-requires-clause-residues : goal.from_cells-requires-clause-residues
from_cells-requires-clause-residues g c =
    let T = g.T.Table.table c.args.table.now in
    let V = g.met.T.Table.valid c.args.table.now in
    let l = c.args.l.now in
    let r = c.args.r.now in
    let rows = c.dimension-rows.ensures.value ∙ ap (λ (z : List ℕ). sum_list (widths_of T z c.parts-2.result.now)) (c.parts.ensures.value ∙ c.target.ensures) ∙ ap (λ (z : List ℕ). sum_list (widths_of T l.to z)) (c.parts-2.ensures.value ∙ c.source.ensures) in
    let cols = c.dimension-cols.ensures.value ∙ ap (λ (z : List ℕ). sum_list (widths_of T z c.parts-4.result.now)) (c.parts-3.ensures.value ∙ c.source-2.ensures) ∙ ap (λ (z : List ℕ). sum_list (widths_of T l.from z)) (c.parts-4.ensures.value ∙ c.target-2.ensures) in
    let R = row_at V l r c.requires.left c.requires.right in
    let n = sum_list (widths_of T l.to r.from) in
    let m = sum_list (widths_of T l.from r.to) in
    let area = ap (λ x. x * c.dimension-cols.result) rows ∙ ap (λ x. n * x) cols in
    λ k lt. subst (λ p. get_or c.in_ok-cells.cells.items k 0 < p) c.field.ensures
    (stack-residues T.prime n m R c.in_ok-cells.cells.items c.in_ok-cells.ensures (row-residues V l r c.requires.left c.requires.right) k (subst (λ x. k < x) area lt))

pub returns-then-not-fits : goal.returns-then-not-fits
returns-then-not-fits g c =
    let T = g.T.Table.table c.args.table.now in
    let l = c.args.l.now in
    let r = c.args.r.now in
    let rows = c.dimension-rows.ensures.value ∙ ap (λ (z : List ℕ). sum_list (widths_of T z c.parts-2.result.now)) (c.parts.ensures.value ∙ c.target.ensures) ∙ ap (λ (z : List ℕ). sum_list (widths_of T l.to z)) (c.parts-2.ensures.value ∙ c.source.ensures) in
    let cols = c.dimension-cols.ensures.value ∙ ap (λ (z : List ℕ). sum_list (widths_of T z c.parts-4.result.now)) (c.parts-3.ensures.value ∙ c.source-2.ensures) ∙ ap (λ (z : List ℕ). sum_list (widths_of T l.from z)) (c.parts-4.ensures.value ∙ c.target-2.ensures) in
    let n = sum_list (widths_of T l.to r.from) in
    let m = sum_list (widths_of T l.from r.to) in
    let cut_rows : c.dimension-rows.result ≡ min c.dimension-rows.result (2 ^ 32 - 1) = search rules in
    let cut_cols : c.dimension-cols.result ≡ min c.dimension-cols.result (2 ^ 32 - 1) = search rules in
    record {
      size = numbers n m;
      is_met = inr refl;
      past = λ (h : Fits (numbers n m)). past-numbers c.dimension-rows.result c.dimension-cols.result (sym c.fits.ensures ∙ c.if-not-fits.true)
          (subst (λ x. Fits (numbers x c.dimension-cols.result)) (sym rows) (subst (λ y. Fits (numbers n y)) (sym cols) h));
      rows_named = cut_rows ∙ ap (λ x. min x (2 ^ 32 - 1)) rows;
      columns_named = cut_cols ∙ ap (λ x. min x (2 ^ 32 - 1)) cols;
    }

pub returns : goal.returns
returns g c =
    let T = g.T.Table.table c.args.table.now in
    let V = g.met.T.Table.valid c.args.table.now in
    let l = c.args.l.now in
    let r = c.args.r.now in
    let rows = c.dimension-rows.ensures.value ∙ ap (λ (z : List ℕ). sum_list (widths_of T z c.parts-2.result.now)) (c.parts.ensures.value ∙ c.target.ensures) ∙ ap (λ (z : List ℕ). sum_list (widths_of T l.to z)) (c.parts-2.ensures.value ∙ c.source.ensures) in
    let cols = c.dimension-cols.ensures.value ∙ ap (λ (z : List ℕ). sum_list (widths_of T z c.parts-4.result.now)) (c.parts-3.ensures.value ∙ c.source-2.ensures) ∙ ap (λ (z : List ℕ). sum_list (widths_of T l.from z)) (c.parts-4.ensures.value ∙ c.target-2.ensures) in
    let R = row_at V l r c.requires.left c.requires.right in
    let n = sum_list (widths_of T l.to r.from) in
    let m = sum_list (widths_of T l.from r.to) in
    let xs = c.in_ok-cells.cells.items in
    let fits = fits-numbers c.dimension-rows.result c.dimension-cols.result (sym c.fits.ensures ∙ c.if-not-fits.false) in
    let whole : Fits (numbers n m) = subst (λ y. Fits (numbers n y)) cols (subst (λ x. Fits (numbers x c.dimension-cols.result)) rows fits) in (
      c.from_cells.ensures ∙ ap (λ p. matrix_of p c.dimension-rows.result c.dimension-cols.result xs) (sym c.field.ensures)
          ∙ stack-matrix T.prime c.dimension-rows.result c.dimension-cols.result n m R xs rows cols c.in_ok-cells.ensures,
      either-fits (λ s. (s ≡ closure_size T l.from l.to) ⊎ (s ≡ closure_size T r.from r.to)) (λ s. s ≡ numbers n m)
          (either-fits (λ s. s ≡ closure_size T l.from l.to) (λ s. s ≡ closure_size T r.from r.to)
          (held-fits l c.requires.left c.limits.ensures.rows c.limits.ensures.columns c.limits.ensures.cells)
          (held-fits r c.requires.right c.limits-2.ensures.rows c.limits-2.ensures.columns c.limits-2.ensures.cells))
          (λ s e. subst (λ (z : Size). Fits z) (sym e) whole),
    )
