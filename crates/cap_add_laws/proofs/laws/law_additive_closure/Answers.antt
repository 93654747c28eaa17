use Rattle.cap_add_laws.proofs.Linear.{closure-linear}
use Rattle.cap_add_laws.proofs.DirectSum.{empty-is-zero, sum-is}
use Rattle.cap_add_laws.proofs.Structure.{closure-is-hom}
use Rattle.cap_add_laws.proofs.laws.law_additive_closure.Goals as goal

pub returns : goal.returns
returns g c = λ t.
    let V = g.met.T.Table.valid t in
    record { linear = closure-linear V; zero_object = empty-is-zero V; sums = λ a b A B. sum-is V A B; hom = closure-is-hom V }
