use Rattle.cap_primitives.specs.Calls.{AdditiveLaws, AbelianLaws, additive_calls, abelian_calls, abelian_table}
use Rattle.cap_primitives.proofs.Calls.{abelian_are}
use Rattle.cap_primitives.proofs.Offers.{is_offer}
use Rattle.cap_encoded.proofs.laws.law_abelian_offer.Goals as goal

pub returns : goal.returns
returns g c = λ k kind.
    let C = g.C.Cat.category k in
    let A = additive_calls C (g.C.Cat.identity_meets k) (g.C.Cat.compose_meets k) (g.C.Cat.congruent_meets k) (g.C.Preadditive.zero_meets k) (g.C.Preadditive.add_meets k) (g.C.Preadditive.scale_meets k)
    (g.C.Additive.zero_object_of k) (g.C.Additive.sum_of k) (g.C.Additive.zero_object_meets k) (g.C.Additive.direct_sum_meets k) in
    let additive : AdditiveLaws A = record { linear = g.met.C.Cat.linear k; zero_object_is = g.met.C.Additive.zero_object_is k; sum_is = g.met.C.Additive.sum_is k } in
    let K = abelian_calls A (g.C.Abelian.kernel_of k) (g.C.Abelian.cokernel_of k) (g.C.Abelian.lift_of k) (g.C.Abelian.colift_of k)
    (g.C.Abelian.kernel_meets k) (g.C.Abelian.cokernel_meets k) (g.C.Abelian.lift_meets k) (g.C.Abelian.colift_meets k) in
    let laws : AbelianLaws K = record { additive = additive; kernel_is = g.met.C.Abelian.kernel_is k; cokernel_is = g.met.C.Abelian.cokernel_is k; lift_is = g.met.C.Abelian.lift_is k; colift_is = g.met.C.Abelian.colift_is k } in
    is_offer C (g.C.Encoding.reading k) (g.met.C.Cat.linear k) (g.met.C.Encoding.reads k) kind (abelian_table K) (abelian_are K laws)
