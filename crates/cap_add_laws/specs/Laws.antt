-- The laws of the additive closure, as statements.
use Rattle.std.specs.Prelude.{ℕ, List, []}
use Rattle.cap_laws.specs.Linear.{IsLinear}
use Rattle.cap_laws.specs.Universal.{IsZeroObject, IsDirectSum}
use Rattle.cap_laws.specs.Table.{TableData}
use Rattle.cap_homlaw.specs.Hom.{IsHom}
use Rattle.cap_add_laws.specs.Closure.{AreObjects, closure_data, closure_sum, closure_hom}

-- it is a linear category, the empty list is a zero object, and one list after another is a direct sum
pub record IsAdditiveClosure (T : TableData) : Type 0 where
  pub linear : IsLinear (closure_data T)
  pub zero_object : IsZeroObject (closure_data T) []
  pub sums : (a b : List ℕ) → AreObjects T a → AreObjects T b → let d = closure_sum T a b in IsDirectSum (closure_data T) ((closure_data T).target d.i1) a b d.i1 d.i2 d.p1 d.p2
  -- the coefficients of all entries are a homomorphism structure, and the lists of one object generate
  pub hom : IsHom (closure_data T) (closure_hom T)
