use Rattle.std.proofs.Common.{ℕ, ◌+◌, ◌*◌, get_or, refl, ap, ◌∙◌, subst, arith}
use Rattle.std.proofs.lemmas.List.{with_items_is}
use Rattle.cap_field.proofs.Fermat.{tabled_range}
use Rattle.cap_matrix.specs.Grid.{Grid, zero_of}
use Rattle.cap_matrix.specs.Buffer.{IsBufferOf}
use Rattle.cap_matrix.proofs.Filled.{held-at, filled_residues, filled_matrix}
use Rattle.cap_matrix.proofs.Writes.{AreRows}
use Rattle.cap_matrix.proofs.Entries.{delta, delta-small, zero-at}
use Rattle.cap_vec.proofs.sums.diagonal_matrix.Goals as goal

pub write_diagonal-requires-clause-zeros : goal.write_diagonal-requires-clause-zeros
write_diagonal-requires-clause-zeros c = λ i j lt below.
    let p = c.args.field in
    let n = c.args.rows in
    let m = c.args.cols in
    let xs = c.into_cells-cells.result.items in
    let held = subst (λ (g : Grid). IsBufferOf g xs) c.in_ok-zero.ensures.0 c.into_cells-cells.ensures in
    ap (λ ys. get_or ys (i * m + j) 0) c.deref_mut.ensures.value ∙ held-at (zero_of p n m) xs n m held refl refl i j lt below ∙ zero-at p n m i j lt below

pub from_cells-requires-clause-residues : goal.from_cells-requires-clause-residues
from_cells-requires-clause-residues c =
    let p = c.args.field in
    let n = c.args.rows in
    let m = c.args.cols in
    let f = λ (i j : ℕ). delta (i + c.args.col) (j + c.args.row) in
    let out = c.write_diagonal.new.cells in
    let xs = c.into_cells-cells.result.items in
    let held = subst (λ (g : Grid). IsBufferOf g xs) c.in_ok-zero.ensures.0 c.into_cells-cells.ensures in
    let big = (tabled_range p held.flat.tabled).0 in
    let items = with_items_is c.into_cells-cells.result out (omega arith) in
    let rows : AreRows m n out f = record { at = c.write_diagonal.ensures } in
    filled_residues p p n m _ out f refl items rows (λ i j lt below. delta-small p (i + c.args.col) (j + c.args.row) big)

pub returns : goal.returns
returns c =
    let p = c.args.field in
    let n = c.args.rows in
    let m = c.args.cols in
    let f = λ (i j : ℕ). delta (i + c.args.col) (j + c.args.row) in
    let out = c.write_diagonal.new.cells in
    let items = with_items_is c.into_cells-cells.result out (omega arith) in
    let rows : AreRows m n out f = record { at = c.write_diagonal.ensures } in
    (c.from_cells.ensures ∙ filled_matrix p p n n m m _ out f refl refl refl items rows, c.in_ok-zero.ensures.1)
