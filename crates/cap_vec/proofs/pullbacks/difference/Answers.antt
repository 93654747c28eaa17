use Rattle.std.proofs.Common.{◌≡◌, ◌-◌, ap, sym, ◌∙◌, subst}
use Rattle.cap_matrix.specs.Grid.{Grid, stacked_of, scaled_of}
use Rattle.cap_matrix.specs.Made.{IsMade}
use Rattle.cap_vec_laws.specs.Vec.{stacked_difference}
use Rattle.cap_vec.proofs.pullbacks.difference.Goals as goal

pub returns-in-Ok : goal.returns-in-Ok
returns-in-Ok c =
    let f = c.args.f.now in
    let g = c.args.g.now in
    let negative = c.in-Ok.negative in
    let prime = c.prime.ensures.value ∙ sym c.requires.f.prime in
    let e1 : negative ≡ scaled_of (f.prime - 1) g =
    c.in-Ok.ensures ∙ ap (λ y. scaled_of (c.prime.result - 1) y) c.matrix.ensures ∙ ap (λ q. scaled_of (q - 1) g) prime in
    let e : stacked_of c.matrix-in-Ok.result.now negative ≡ stacked_difference f g = ap (λ y. stacked_of y negative) c.matrix-in-Ok.ensures ∙ ap (λ y. stacked_of f y) e1 in
    c.answered.ensures (stacked_difference f g) (subst (λ (y : Grid). IsMade c.stack.result y) e c.stack.ensures)
