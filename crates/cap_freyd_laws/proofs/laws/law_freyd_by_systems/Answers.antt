use Rattle.cap_freyd_laws.proofs.Linear.{below}
use Rattle.cap_freyd_laws.proofs.Lifts.{morphism-is-system, morphism-exactly, congruence-is-system, congruence-exactly, lift-is-system, lift-exactly, colift-is-system, colift-exactly}
use Rattle.cap_freyd_laws.proofs.laws.law_freyd_by_systems.Goals as goal

pub returns : goal.returns
returns g c = λ k. let L = g.met.C.Cat.linear k in record {
  morphism = λ p q F. record { system = morphism-is-system L p q F; exactly = morphism-exactly L p q F };
  congruent = λ F G. record { system = congruence-is-system L F G; exactly = congruence-exactly L F G };
  lift = λ T F. record { system = lift-is-system L (below L T) (below L F); exactly = lift-exactly L T F };
  colift = λ F T. record { system = colift-is-system L (below L F) (below L T); exactly = colift-exactly L F T };
}
