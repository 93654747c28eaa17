use Rattle.std.proofs.Common.{◌≡◌, ap, ◌∙◌, subst}
use Rattle.std.specs.Prelude.{IfOk}
use Rattle.cap_matrix.specs.Grid.{Grid, sum_of}
use Rattle.cap_vec.proofs.category.VecCatPreadditive.add.Goals as goal

pub returns : goal.returns
returns c =
    let f = c.args.f.now in
    let g = c.args.g.now in
    let e : sum_of c.matrix.result.now c.matrix-2.result.now ≡ sum_of f g = ap (λ x. sum_of x c.matrix-2.result.now) c.matrix.ensures ∙ ap (λ y. sum_of f y) c.matrix-2.ensures in
    c.kept.ensures.answer (sum_of f g) (subst (λ (x : Grid). IfOk c.sum.result (λ m. m ≡ x)) e c.sum.ensures)
