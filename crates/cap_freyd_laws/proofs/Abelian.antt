-- The Freyd category is abelian, where there are direct sums and weak kernels.
use Rattle.cap_laws.specs.Linear.{CategoryData, IsLinear}
use Rattle.cap_laws.specs.Universal.{IsAdditive, IsAbelian}
use Rattle.cap_laws.specs.declared.values.Sum.{Sum}
use Rattle.cap_laws.proofs.Opposite.{turned}
use Rattle.cap_freyd_laws.specs.Freyd.{freyd_data}
use Rattle.cap_freyd_laws.specs.Canonical.{HasSums, HasWeakKernels, freyd_sum, block_sum, kernel_of, cokernel_of}
use Rattle.cap_freyd_laws.proofs.Linear.{relation, below}
use Rattle.cap_freyd_laws.proofs.Kernel.{sum-at, freyd-kernel}
use Rattle.cap_freyd_laws.proofs.Cokernel.{freyd-cokernel}
use Rattle.cap_freyd_laws.proofs.Exact.{mono-is-kernel, epi-is-cokernel}
use Rattle.cap_freyd_laws.proofs.Sums.{freyd-sums, freyd-zero}

module _ {Obj Mor : Type 0} {C : CategoryData Obj Mor} (L : IsLinear C) where
  pub freyd-additive : {sum : Obj → Obj → Sum Mor} (z : Obj) → C.is_object z → HasSums C sum → IsAdditive (freyd_data C)
  freyd-additive {sum} z o S = record {
    zero_object = record { object = record { relation = C.identity z }; is = freyd-zero L z o };
    direct_sum = λ a b p q. let d = freyd_sum C sum a b in record { object = record { relation = block_sum C sum a.relation b.relation }; i1 = d.i1; i2 = d.i2; p1 = d.p1; p2 = d.p2; is = (freyd-sums L S).is a b p q };
  }

  pub freyd-abelian : {sum : Obj → Obj → Sum Mor} {weak_kernel : Mor → Mor} (z : Obj) → C.is_object z → HasSums C sum → HasWeakKernels C weak_kernel → IsAbelian (freyd_data C)
  freyd-abelian {sum} {weak_kernel} z o S W = record {
    additive = freyd-additive z o S;
    kernels = record {
      kernel = λ {a} {b} {f} F. record { object = (kernel_of C sum weak_kernel f).from; by = kernel_of C sum weak_kernel f; is = freyd-kernel L S W F };
      mono_is_kernel = λ M K.
          let F = below L M.arrow in
          mono-is-kernel L (relation L F.from) (relation L F.to) (sum-at L S (relation L F.to) F.arrow) M K;
    };
    cokernels = record {
      kernel = λ {a} {b} {f} F. record { object = (cokernel_of C sum f).to; by = cokernel_of C sum f; is = freyd-cokernel L S (turned F) };
      mono_is_kernel = λ M K.
          let F = below L (turned M.arrow) in
          epi-is-cokernel L (relation L F.from) (relation L F.to) (sum-at L S (relation L F.to) F.arrow) M K;
    };
  }
