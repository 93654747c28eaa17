use Rattle.std.proofs.Common.{refl, ◌∙◌, arith, rules}
use Rattle.std.proofs.lemmas.List.{with_items_is}
use Rattle.cap_matrix.proofs.Filled.{filled_residues, filled_matrix}
use Rattle.cap_matrix.proofs.matrix.Matrix.identity.Goals as goal
use Rattle.cap_matrix.proofs.Entries.{delta, delta-small}
use Rattle.cap_matrix.proofs.Writes.{AreRows}

pub from_cells-requires-clause-residues : goal.from_cells-requires-clause-residues
from_cells-requires-clause-residues c =
    let p = c.args.field in
    let n = c.args.n in
    let out = c.write_ones.new.cells in
    let items = with_items_is c.in_ok-cells.cells out (omega arith) in
    let rows : AreRows n n out delta = record { at = c.write_ones.ensures } in
    filled_residues p p n n _ out delta refl items rows (λ i j lt below. delta-small p i j (search rules))

pub returns : goal.returns
returns c =
    let p = c.args.field in
    let n = c.args.n in
    let out = c.write_ones.new.cells in
    let items = with_items_is c.in_ok-cells.cells out (omega arith) in
    let rows : AreRows n n out delta = record { at = c.write_ones.ensures } in
    (c.from_cells.ensures ∙ filled_matrix p p n n n n _ out delta refl refl refl items rows, search rules)
