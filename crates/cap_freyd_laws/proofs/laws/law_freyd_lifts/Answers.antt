use Rattle.cap_freyd_laws.proofs.Lifts.{freyd-lift, freyd-colift}
use Rattle.cap_freyd_laws.proofs.laws.law_freyd_lifts.Goals as goal

pub returns : goal.returns
returns g c = λ k. let L = g.met.C.Cat.linear k in record {
  lift = λ T F. freyd-lift L (record { is = g.met.C.Lifts.solves k }) T F;
  colift = λ F T. freyd-colift L (record { is = g.met.C.Lifts.solves k }) F T;
}
