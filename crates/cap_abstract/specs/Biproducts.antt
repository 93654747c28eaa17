-- Laws of direct sums and products. A law on coproducts or colifts is the law on products or lifts in the opposite category.
use Rattle.std.specs.Prelude.{◌↔◌}
use Rattle.cap_laws.specs.Linear.{CategoryData, Arrow, Same}
use Rattle.cap_laws.specs.Universal.{Both, IsProduct, IsDirectSum}

-- the projections of a direct sum are a product
pub record ProductFromDirectSum {Obj Mor : Type 0} (C : CategoryData Obj Mor) : Type 0 where
  pub law : {s a b : Obj} {i1 i2 p1 p2 : Mor} → IsDirectSum C s a b i1 i2 p1 p2 → IsProduct C s a b p1 p2

-- a product, with the pairs of an identity and a zero, is a direct sum
pub record DirectSumFromProduct {Obj Mor : Type 0} (C : CategoryData Obj Mor) : Type 0 where
  pub law : {s a b : Obj} {p q i j : Mor} → IsProduct C s a b p q → Arrow C a s i → Both C a a b p q (C.identity a) (C.zero a b) i → Arrow C b s j → Both C b a b p q (C.zero b a) (C.identity b) j → IsDirectSum C s a b i j p q

-- w is the pair of u and v along p and q exactly where it lifts u·i1 + v·i2 along p·i1 + q·i2
pub record PairByLift {Obj Mor : Type 0} (C : CategoryData Obj Mor) : Type 0 where
  pub law : {t s d a b : Obj} {i1 i2 p1 p2 p q u v w : Mor} → IsDirectSum C d a b i1 i2 p1 p2 → Arrow C s a p → Arrow C s b q → Arrow C t a u → Arrow C t b v → Arrow C t s w
      → (Same C t d (C.compose w (C.add (C.compose p i1) (C.compose q i2))) (C.add (C.compose u i1) (C.compose v i2)) ↔ Both C t a b p q u v w)

-- u lifts t along f exactly where it is the pair of t and t along f and f
pub record LiftByPair {Obj Mor : Type 0} (C : CategoryData Obj Mor) : Type 0 where
  pub law : {x a b : Obj} {t f u : Mor} → Arrow C a b f → Arrow C x a u → (Both C x b b f f t t u ↔ Same C x b (C.compose u f) t)
