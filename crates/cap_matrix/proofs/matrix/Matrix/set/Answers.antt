use Rattle.std.proofs.Common.{ℕ, ◌<◌, List, ap, ◌∙◌, arith}
use Rattle.cap_matrix.specs.Grid.{Grid, with_entry}
use Rattle.cap_matrix.proofs.Flat.{rows_of-set}
use Rattle.cap_matrix.proofs.matrix.Matrix.set.Goals as goal

pub returns : goal.returns
returns c =
    let row : c.args.i < c.self.inside.rows = let e = ap (λ g. g.row_count) c.self.view_is in omega (arith, c.requires.row, e) in
    let column : c.args.j < c.self.inside.cols = let e = ap (λ g. g.column_count) c.self.view_is in omega (arith, c.requires.column, e) in
    let shape = λ (rows : List (List ℕ)). let g : Grid = record { prime = c.self.inside.field; row_count = c.self.inside.rows; column_count = c.self.inside.cols; entries = rows } in g in
    ap shape (rows_of-set c.self.inside.rows c.self.inside.cols c.self.inside.cells.items c.args.i c.args.j c.args.v c.self.invariant.cells_length row column)
    ∙ ap (λ g. with_entry g c.args.i c.args.j c.args.v) c.self.view_is
