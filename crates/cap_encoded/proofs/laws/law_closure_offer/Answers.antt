use Rattle.cap_primitives.specs.Calls.{AdditiveLaws, ClosureLaws, additive_calls, closure_calls, closure_table}
use Rattle.cap_primitives.proofs.Calls.{closure_are}
use Rattle.cap_primitives.proofs.Offers.{is_offer}
use Rattle.cap_encoded.proofs.laws.law_closure_offer.Goals as goal

pub returns : goal.returns
returns g c = λ k kind.
    let C = g.C.Cat.category k in
    let A = additive_calls C (g.C.Cat.identity_meets k) (g.C.Cat.compose_meets k) (g.C.Cat.congruent_meets k) (g.C.Preadditive.zero_meets k) (g.C.Preadditive.add_meets k) (g.C.Preadditive.scale_meets k)
    (g.C.Additive.zero_object_of k) (g.C.Additive.sum_of k) (g.C.Additive.zero_object_meets k) (g.C.Additive.direct_sum_meets k) in
    let additive : AdditiveLaws A = record { linear = g.met.C.Cat.linear k; zero_object_is = g.met.C.Additive.zero_object_is k; sum_is = g.met.C.Additive.sum_is k } in
    let K = closure_calls A (g.C.WeakKernels.weak_kernel_of k) (g.C.WeakCokernels.weak_cokernel_of k) (g.C.Lifts.solution_of k)
    (g.C.WeakKernels.weak_kernel_meets k) (g.C.WeakCokernels.weak_cokernel_meets k) (g.C.Lifts.system_meets k) in
    let laws : ClosureLaws K = record { additive = additive; weak_kernel_is = g.met.C.WeakKernels.weak_kernel_is k; weak_cokernel_is = g.met.C.WeakCokernels.weak_cokernel_is k; solves = g.met.C.Lifts.solves k } in
    is_offer C (g.C.Encoding.reading k) (g.met.C.Cat.linear k) (g.met.C.Encoding.reads k) kind (closure_table K) (closure_are K laws)
