-- Laws of homology and exactness.
use Rattle.std.specs.Prelude.{◌↔◌}
use Rattle.cap_laws.specs.Linear.{CategoryData, Arrow, Same}
use Rattle.cap_laws.specs.Universal.{Some-arrow, IsKernel, IsCokernel, IsWeakKernel, IsWeakCokernel, IsHomology, IsExact}

-- a kernel i of g and a cokernel of the l with l·i = f are the homology; there is such an l exactly where f·g = 0, and so only then a homology
pub record HomologyFromKernel {Obj Mor : Type 0} (C : CategoryData Obj Mor) : Type 0 where
  pub law : {k h a b c : Obj} {f g i l p : Mor} → IsKernel C k b c g i → Arrow C a k l → Same C a b (C.compose l i) f → IsCokernel C a k h l p → IsHomology C k h a b c f g i p
  pub exists : {k a b c : Obj} {f g i : Mor} → Arrow C a b f → Arrow C b c g → IsKernel C k b c g i → (Some-arrow C a k (λ l. Same C a b (C.compose l i) f) ↔ Same C a c (C.compose f g) (C.zero a c))
  pub zero : {k h a b c : Obj} {f g i p : Mor} → Arrow C b c g → IsHomology C k h a b c f g i p → Same C a c (C.compose f g) (C.zero a c)

-- f and g with f·g = 0 are exact exactly where i·p = 0, for a kernel i of g and a cokernel p of f
pub record ExactByKernels {Obj Mor : Type 0} (C : CategoryData Obj Mor) : Type 0 where
  pub law : {k a b c d : Obj} {f g i p : Mor} → Arrow C a b f → Arrow C b c g → IsKernel C k b c g i → IsCokernel C a b d f p → Same C a c (C.compose f g) (C.zero a c) → (Same C k d (C.compose i p) (C.zero k d) ↔ IsExact C a b c f g)

-- the same for a weak kernel i of g and a weak cokernel p of f
pub record ExactByWeakKernels {Obj Mor : Type 0} (C : CategoryData Obj Mor) : Type 0 where
  pub law : {k a b c d : Obj} {f g i p : Mor} → Arrow C a b f → Arrow C b c g → IsWeakKernel C k b c g i → IsWeakCokernel C a b d f p → Same C a c (C.compose f g) (C.zero a c) → (Same C k d (C.compose i p) (C.zero k d) ↔ IsExact C a b c f g)
