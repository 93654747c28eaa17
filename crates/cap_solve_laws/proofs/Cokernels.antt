-- Weak cokernels: the weak kernels of the opposite category, side by side in place of above one another.
use Rattle.std.proofs.Common.{sym, subst}
use Rattle.cap_laws.specs.Linear.{CategoryData, IsLinear, Arrow}
use Rattle.cap_laws.specs.Universal.{opposite, IsDirectSum, IsWeakCokernel}
use Rattle.cap_laws.proofs.Opposite.{turn, opposite-linear, opposite-zero-object, opposite-direct-sum}
use Rattle.cap_homlaw.specs.Hom.{HomData, IsHom, opposite_hom}
use Rattle.cap_homlaw.proofs.TwoSided.{opposite-is}
use Rattle.cap_solve_laws.specs.Sums.{SumData, HasSums, opposite_sums}
use Rattle.cap_solve_laws.proofs.WeakKernels.{weak_kernel_of, weak-kernel-is}

-- a direct sum, at its object, is one in the opposite category, at its object there
pub opposite-sum-is : {Obj Mor : Type 0} {C : CategoryData Obj Mor} {a b : Obj} {i1 i2 p1 p2 : Mor} → IsDirectSum C (C.target i1) a b i1 i2 p1 p2 → IsDirectSum (opposite C) (C.source p1) a b p1 p2 i1 i2
opposite-sum-is {C = C} {a} {b} {i1} {i2} {p1} {p2} D = subst (λ s. IsDirectSum (opposite C) s a b p1 p2 i1 i2) (sym D.out1.from) (opposite-direct-sum D)

pub opposite-has-sums : {Obj Mor : Type 0} {C : CategoryData Obj Mor} {Z : SumData Obj Mor} → HasSums C Z → HasSums (opposite C) (opposite_sums Z)
opposite-has-sums {C = C} {Z = Z} A = record {
  zero_object_is = opposite-zero-object A.zero_object_is;
  sum_is = λ a b o q. opposite-sum-is (A.sum_is a b o q);
}

-- the weak cokernel of f: the weak kernel in the opposite category
abbrev pub weak_cokernel_of : {Obj Mor : Type 0} → CategoryData Obj Mor → HomData Obj Mor → SumData Obj Mor → Mor → Mor
weak_cokernel_of C H Z f = weak_kernel_of (opposite C) (opposite_hom H) (opposite_sums Z) f

pub weak-cokernel-is : {Obj Mor : Type 0} {C : CategoryData Obj Mor} {H : HomData Obj Mor} {Z : SumData Obj Mor} → IsLinear C → IsHom C H → HasSums C Z → {a b : Obj} {f : Mor} → Arrow C a b f
    → IsWeakCokernel C a b (C.target (weak_cokernel_of C H Z f)) f (weak_cokernel_of C H Z f)
weak-cokernel-is L S A F = weak-kernel-is (opposite-linear L) (opposite-is S) (opposite-has-sums A) (turn F)
