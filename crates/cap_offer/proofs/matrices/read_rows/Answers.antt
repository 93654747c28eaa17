use Rattle.std.proofs.Common.{◌≡◌, ◌<◌, ap, sym, ◌∙◌, refl, arith}
use Rattle.cap_offer.specs.Cells.{residues_of}
use Rattle.cap_offer.specs.Literals.{HasSize}
use Rattle.cap_offer.proofs.Cells.{AreCells, read-cells, small-cells}
use Rattle.cap_offer.proofs.Literals.{given-literal}
use Rattle.cap_offer.proofs.matrices.read_rows.Goals as goal

the_cells : (c : goal.After-prime) → AreCells c.args.field c.args.rows c.args.cols c.args.lit.now c.in_ok-cells.cells.items
the_cells c =
    let some : 0 < c.args.field = omega (arith, c.prime.ensures.low, c.prime.ensures.value) in
    let same : c.in_ok-cells.cells.items ≡ residues_of c.args.field c.args.lit.now.rows = c.in_ok-cells.ensures ∙ ap (residues_of c.args.field) c.as_slice.ensures in
    read-cells c.args.field c.args.rows c.args.cols c.args.lit.now c.in_ok-cells.cells.items some c.requires (c.if-not-has_size.ensures.0 refl) same

pub from_cells-matrix-requires-clause-long : goal.from_cells-matrix-requires-clause-long
from_cells-matrix-requires-clause-long c = (the_cells c).many

pub from_cells-matrix-requires-clause-residues : goal.from_cells-matrix-requires-clause-residues
from_cells-matrix-requires-clause-residues c = small-cells c.args.field c.args.rows c.args.cols c.args.lit.now c.in_ok-cells.cells.items (the_cells c)

pub returns : goal.returns
returns c =
    let some : 0 < c.args.field = omega (arith, c.prime.ensures.low, c.prime.ensures.value) in
    let same : c.in_ok-cells.cells.items ≡ residues_of c.args.field c.args.lit.now.rows = c.in_ok-cells.ensures ∙ ap (residues_of c.args.field) c.as_slice.ensures in
    let size : HasSize c.args.rows c.args.cols c.args.lit.now = c.if-not-has_size.ensures.0 refl in
    let A = read-cells c.args.field c.args.rows c.args.cols c.args.lit.now c.in_ok-cells.cells.items some c.requires size same in
    given-literal c.args.field c.args.rows c.args.cols c.args.lit.now c.in_ok-cells.cells.items c.from_cells-matrix.result A size (sym c.if-not-fits.ensures) c.from_cells-matrix.ensures
