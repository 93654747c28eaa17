use Rattle.std.proofs.Common.{subst}
use Rattle.cap_matrix.specs.Grid.{Grid, IsMatrix}
use Rattle.cap_matrix.proofs.Buffers.{flat_matrix}
use Rattle.cap_matrix.proofs.matrix.Matrix.field.Goals as goal

pub returns-clause-matrix : goal.returns-clause-matrix
returns-clause-matrix c =
    let whole = flat_matrix c.self.inside.field c.self.inside.rows c.self.inside.cols c.self.inside.cells.items c.self.invariant in
    subst (λ (g : Grid). IsMatrix g.prime g) c.self.view_is whole.is
