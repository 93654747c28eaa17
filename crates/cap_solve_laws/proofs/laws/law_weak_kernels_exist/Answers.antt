use Rattle.cap_laws.proofs.Opposite.{turn, opposite-linear}
use Rattle.cap_homlaw.proofs.TwoSided.{opposite-is}
use Rattle.cap_solve_laws.specs.Sums.{SumData, HasSums}
use Rattle.cap_solve_laws.proofs.WeakKernels.{weak_kernel_of, weak-kernel-is, weak-kernel-kept}
use Rattle.cap_solve_laws.proofs.Cokernels.{weak_cokernel_of, opposite-has-sums, weak-cokernel-is}
use Rattle.cap_solve_laws.proofs.laws.law_weak_kernels_exist.Goals as goal

pub returns : goal.returns
returns g c = λ k.
    let L = g.met.C.Cat.linear k in
    let S = g.met.C.HomFp.is_hom k in
    let C = g.C.Cat.category k in
    let H = g.C.HomFp.hom k in
    let Z : SumData _ _ = record { zero_object = g.C.Additive.zero_object_of k; sum = g.C.Additive.sum_of k } in
    let A : HasSums C Z = record { zero_object_is = g.met.C.Additive.zero_object_is k; sum_is = g.met.C.Additive.sum_is k } in
    record {
      kernel = weak_kernel_of C H Z;
      kernel_kept = λ a b f F. weak-kernel-kept L S A F;
      kernel_is = λ a b f F. weak-kernel-is L S A F;
      cokernel = weak_cokernel_of C H Z;
      cokernel_kept = λ a b f F. weak-kernel-kept (opposite-linear L) (opposite-is S) (opposite-has-sums A) (turn F);
      cokernel_is = λ a b f F. weak-cokernel-is L S A F;
    }
