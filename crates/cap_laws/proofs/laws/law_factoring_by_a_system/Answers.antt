use Rattle.std.proofs.Common.{[], ◌∷◌}
use Rattle.cap_laws.proofs.Systems.{term-is-system, from-one, to-one, lift-by-system, colift-by-system}
use Rattle.cap_laws.proofs.laws.law_factoring_by_a_system.Goals as goal

pub returns : goal.returns
returns g c = λ k.
    let L = g.met.C.Cat.linear k in
    record {
      system = λ p q r. term-is-system L p q r;
      law = λ p w. (λ t. (t.by ∷ [], to-one L w t), λ s. from-one L p w s.0 s.1);
      lift = λ t f answer S. lift-by-system L t f answer S;
      colift = λ f t answer S. colift-by-system L f t answer S;
    }
