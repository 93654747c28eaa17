use Rattle.std.proofs.Common.{◌≡◌, ap, subst}
use Rattle.std.specs.Prelude.{IfOk}
use Rattle.cap_matrix.specs.Grid.{Grid, scaled_of}
use Rattle.cap_vec.proofs.category.VecCatPreadditive.scale.Goals as goal

pub returns : goal.returns
returns c =
    let n = c.args.n in
    c.kept.ensures.answer (scaled_of n c.args.f.now) (subst (λ (x : Grid). IfOk c.scale.result (λ m. m ≡ x)) (ap (λ y. scaled_of n y) c.matrix.ensures) c.scale.ensures)
