-- Laws of sums and differences, as statements on the data of a category.
use Rattle.std.specs.Prelude.{◌↔◌}
use Rattle.cap_laws.specs.Linear.{CategoryData, Arrow, Same}
use Rattle.cap_laws.specs.Universal.{negate, subtract, IsDirectSum}

-- −f = 0 − f
pub record NegateBySubtract {Obj Mor : Type 0} (C : CategoryData Obj Mor) : Type 0 where
  pub law : {a b : Obj} {f : Mor} → Arrow C a b f → Same C a b (subtract C (C.zero a b) f) (negate C f)

-- f + g = f − (−g)
pub record AddBySubtract {Obj Mor : Type 0} (C : CategoryData Obj Mor) : Type 0 where
  pub law : {a b : Obj} {f g : Mor} → Arrow C a b f → Arrow C a b g → Same C a b (subtract C f (negate C g)) (C.add f g)

-- f = g exactly where f − g = 0
pub record CongruentBySubtract {Obj Mor : Type 0} (C : CategoryData Obj Mor) : Type 0 where
  pub law : {a b : Obj} {f g : Mor} → Arrow C a b f → Arrow C a b g → (Same C a b (subtract C f g) (C.zero a b) ↔ Same C a b f g)

-- the first summand into a direct sum and back is 1
pub record IdentityFromDirectSum {Obj Mor : Type 0} (C : CategoryData Obj Mor) : Type 0 where
  pub law : {s a b : Obj} {i1 i2 p1 p2 : Mor} → IsDirectSum C s a b i1 i2 p1 p2 → Same C a a (C.compose i1 p1) (C.identity a)

-- the first summand into a direct sum and out to the second is 0
pub record ZeroFromDirectSum {Obj Mor : Type 0} (C : CategoryData Obj Mor) : Type 0 where
  pub law : {s a b : Obj} {i1 i2 p1 p2 : Mor} → IsDirectSum C s a b i1 i2 p1 p2 → Same C a b (C.compose i1 p2) (C.zero a b)
