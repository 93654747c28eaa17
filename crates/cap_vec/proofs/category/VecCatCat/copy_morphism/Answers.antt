use Rattle.std.proofs.Common.{◌≡◌, subst}
use Rattle.std.specs.Prelude.{IfOk}
use Rattle.cap_matrix.specs.Grid.{Grid}
use Rattle.cap_vec.specs.Sizes.{IsSizeOf}
use Rattle.cap_vec.proofs.Faults.{copies_answered}
use Rattle.cap_vec.proofs.category.VecCatCat.copy_morphism.Goals as goal

pub returns : goal.returns
returns c =
    copies_answered (IsSizeOf c.args.f.now) c.args.f.now c.kept.result
    (c.kept.ensures.answer c.args.f.now (subst (λ (g : Grid). IfOk c.copy.result (λ m. m ≡ g)) c.matrix.ensures c.copy.ensures))
    c.kept.ensures.fault
