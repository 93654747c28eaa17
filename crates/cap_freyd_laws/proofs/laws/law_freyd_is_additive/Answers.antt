use Rattle.cap_freyd_laws.specs.Canonical.{HasSums}
use Rattle.cap_freyd_laws.proofs.Sums.{freyd-sums, freyd-zero}
use Rattle.cap_freyd_laws.proofs.Abelian.{freyd-additive}
use Rattle.cap_freyd_laws.proofs.laws.law_freyd_is_additive.Goals as goal

pub returns : goal.returns
returns g c = λ k.
    let L = g.met.C.Cat.linear k in
    let z = g.C.Additive.zero_object_of k in
    let o = (g.met.C.Additive.zero_object_is k).object in
    let S : HasSums (g.C.Cat.category k) (g.C.Additive.sum_of k) = record { is = g.met.C.Additive.sum_is k } in
    record { additive = freyd-additive L z o S; zero_object_is = freyd-zero L z o; sum_is = freyd-sums L S }
