use Rattle.std.proofs.Common.{◌≡◌, ℕ, ◌-◌, ◌*◌, ◌<◌, length, get_or, sym, ap, ◌∙◌, subst, arith}
use Rattle.std.proofs.lemmas.List.{with_items_is}
use Rattle.std.proofs.lemmas.Result.{err_from_is_err_and}
use Rattle.cap_matrix.specs.Buffer.{matrix_of}
use Rattle.cap_matrix.proofs.Writes.{by_places}
use Rattle.cap_reduce.specs.Flat.{cell}
use Rattle.cap_reduce.specs.NullTable.{null_entry}
use Rattle.cap_reduce.proofs.Leads.{at, backwards, null_table, scanned_is_free, scanned_is_table, null_value-small}
use Rattle.cap_reduce.proofs.Made.{matrix_of_is}
use Rattle.cap_reduce.proofs.nulls.null_rows_of_reduced.Goals as goal

pub returns-in_err-zero : goal.returns-in_err-zero
returns-in_err-zero c =
    let e = err_from_is_err_and c.from_residual.result c.from_residual.ensures.1 in
    let p = c.args.field in
    let u = cell c.args.cells.now c.args.cols in
    let place = at c.scan_leads.new.place in
    let free = at c.scan_leads.new.free in
    let lead = c.requires.reduced.0 in
    let h = c.scan_leads.ensures p lead c.requires.reduced.1 in (
      lead,
      rw (e.1, e.2) (record {
        free = backwards p c.args.rank c.args.cols u lead place free h;
        table = null_table p c.args.rank c.args.cols u lead place free h;
        reduced = c.requires.reduced.1;
        is_free = scanned_is_free p c.args.rank c.args.cols u lead place free h;
        is_table = scanned_is_table p c.args.rank c.args.cols u lead place free h c.requires.reduced.1;
        made = c.in_err-zero.ensures;
      }),
    )

pub from_cells-requires-clause-residues : goal.from_cells-requires-clause-residues
from_cells-requires-clause-residues c =
    let p = c.args.field in
    let k = c.args.cols - c.args.rank in
    let long : length c.write_null_rows.new.out ≡ c.into_cells-out.result.len = omega arith in
    let low = c.prime.ensures.low in
    subst (λ xs. (q : ℕ) → q < k * c.args.cols → get_or xs q 0 < p) (sym (with_items_is c.into_cells-out.result c.write_null_rows.new.out long))
    (by_places p k c.args.cols c.write_null_rows.new.out (λ i j lt below.
    let s = null_value-small c.prime.result c.args.rank (cell c.args.cells.now c.args.cols) (at c.scan_leads.new.place)
    (at c.scan_leads.new.free (c.args.cols - c.args.rank - 1 - i)) (c.args.cols - 1 - j) low in
    omega (arith, c.write_null_rows.ensures i j lt below, s, c.prime.ensures.value)))

pub returns : goal.returns
returns c =
    let p = c.args.field in
    let k = c.args.cols - c.args.rank in
    let u = cell c.args.cells.now c.args.cols in
    let place = at c.scan_leads.new.place in
    let free = at c.scan_leads.new.free in
    let lead = c.requires.reduced.0 in
    let h = c.scan_leads.ensures p lead c.requires.reduced.1 in
    let table = null_table p c.args.rank c.args.cols u lead place free h in
    let long : length c.write_null_rows.new.out ≡ c.into_cells-out.result.len = omega arith in (
      lead,
      record {
        free = backwards p c.args.rank c.args.cols u lead place free h;
        table = table;
        reduced = c.requires.reduced.1;
        is_free = scanned_is_free p c.args.rank c.args.cols u lead place free h;
        is_table = scanned_is_table p c.args.rank c.args.cols u lead place free h c.requires.reduced.1;
        made = (
          c.from_cells.ensures
              ∙ ap (matrix_of p k c.args.cols) (with_items_is c.into_cells-out.result c.write_null_rows.new.out long)
              ∙ matrix_of_is p k c.args.cols c.write_null_rows.new.out table
              (λ i j lt below. c.write_null_rows.ensures i j lt below
              ∙ ap (λ q. null_entry q c.args.rank c.args.cols u place (free (k - 1 - i)) j) c.prime.ensures.value),
          c.in_ok-zero.ensures.1,
        );
      },
    )
