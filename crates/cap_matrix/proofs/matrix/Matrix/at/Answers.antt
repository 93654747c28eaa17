use Rattle.std.proofs.Common.{◌+◌, ◌*◌, ◌<◌, sym, ap, ◌∙◌, arith}
use Rattle.std.proofs.lemmas.List.{get_or_read}
use Rattle.std.proofs.lemmas.Nat.{mul-add-lt}
use Rattle.cap_matrix.specs.Grid.{entry}
use Rattle.cap_matrix.proofs.Flat.{entry-rows_of}
use Rattle.cap_matrix.proofs.matrix.Matrix.at.Goals as goal

pub returns-clause-value : goal.returns-clause-value
returns-clause-value c =
    let row : c.args.i < c.self.inside.rows = let e = ap (λ g. g.row_count) c.self.view_is in omega (arith, c.requires.row, e) in
    let column : c.args.j < c.self.inside.cols = let e = ap (λ g. g.column_count) c.self.view_is in omega (arith, c.requires.column, e) in
    let place = mul-add-lt c.args.i c.self.inside.cols c.args.j c.self.inside.rows row column in
    get_or_read c.self.inside.cells.items (c.args.i * c.self.inside.cols + c.args.j) c.index.result.now
    (omega (arith, place, c.self.invariant.cells_length)) c.index.ensures 0
    ∙ sym (entry-rows_of c.self.inside.rows c.self.inside.cols c.self.inside.cells.items c.args.i c.args.j row column)
    ∙ ap (λ g. entry g.entries c.args.i c.args.j) c.self.view_is

pub returns-clause-residue : goal.returns-clause-residue
returns-clause-residue c =
    let row : c.args.i < c.self.inside.rows = let e = ap (λ g. g.row_count) c.self.view_is in omega (arith, c.requires.row, e) in
    let column : c.args.j < c.self.inside.cols = let e = ap (λ g. g.column_count) c.self.view_is in omega (arith, c.requires.column, e) in
    let place = mul-add-lt c.args.i c.self.inside.cols c.args.j c.self.inside.rows row column in
    let read = get_or_read c.self.inside.cells.items (c.args.i * c.self.inside.cols + c.args.j) c.index.result.now
    (omega (arith, place, c.self.invariant.cells_length)) c.index.ensures 0 in
    let within : c.args.i * c.self.inside.cols + c.args.j < c.self.inside.rows * c.self.inside.cols = omega (arith, place) in
    let below = c.self.invariant.residues (c.args.i * c.self.inside.cols + c.args.j) within in
    let e = ap (λ g. g.prime) c.self.view_is in
    omega (arith, read, below, e)
