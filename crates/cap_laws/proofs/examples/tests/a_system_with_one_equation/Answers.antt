use Rattle.std.proofs.Common.{◌≡◌, refl, sym, subst}
use Rattle.cap_laws.specs.Systems.{IsSystem, one_system}
use Rattle.cap_laws.specs.NullCategory.{null, null_data, null_linear}
use Rattle.cap_laws.proofs.Systems.{one-is-system}
use Rattle.cap_laws.proofs.examples.tests.a_system_with_one_equation.Goals as goal

pub solved-requires : goal.solved-requires
solved-requires g c =
    let p = c.new-c.result.field in
    let e : c.expect-s.result ≡ one_system (null_data 2) 1 2 (null 2 2) (null 1 2) = rw c.expect-s.ensures at c.one_equation.ensures in
    subst (λ s. IsSystem (null_data p) s) (sym e)
    (one-is-system (null_linear p c.new-c.result.tabled) (record { is = tt; from = refl; to = refl }) (record { is = tt; from = refl; to = refl }))
