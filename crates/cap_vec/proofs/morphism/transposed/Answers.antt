use Rattle.std.proofs.Common.{◌≡◌, ap, subst}
use Rattle.std.specs.Prelude.{IfOk}
use Rattle.cap_matrix.specs.Grid.{Grid, transposed_of}
use Rattle.cap_vec.proofs.morphism.transposed.Goals as goal

pub returns-clause-answer : goal.returns-clause-answer
returns-clause-answer c = c.kept.ensures.answer (transposed_of c.args.f.now) (subst (λ (x : Grid). IfOk c.transpose.result (λ m. m ≡ x)) (ap transposed_of c.matrix.ensures) c.transpose.ensures)
