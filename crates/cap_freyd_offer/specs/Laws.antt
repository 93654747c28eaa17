-- The laws of the offer of the Freyd category over a valid table.
use Rattle.std.specs.Prelude.{◌≡◌, ◌⊎◌, ◌↔◌}
use Rattle.cap_laws.specs.Universal.{IsAbelian}
use Rattle.cap_laws.specs.Table.{TableData, IsTable}
use Rattle.cap_add_laws.specs.Closure.{MorphismMatrix, IsMorphismMatrix, closure_data}
use Rattle.cap_ops.specs.declared.plans.Kind.TheVariants.{Add, Freyd}
use Rattle.cap_ops.specs.Arrows.{Between}
use Rattle.cap_ops.specs.Offered.{offered_weight}
use Rattle.cap_ops.specs.Primitives.{prime_of}
use Rattle.cap_ops.specs.Told.{IsArrow}
use Rattle.cap_data.specs.declared.data.ObjData.{ObjData}
use Rattle.cap_data.specs.declared.data.ObjData.TheVariants.{Relation}
use Rattle.cap_data.specs.declared.data.MorData.{MorData}
use Rattle.cap_data.specs.declared.data.MorData.TheVariants.{Entries}
use Rattle.cap_freyd_offer.specs.Offer.{freyd_offer}

-- the kind is that of Freyd categories, the weights are those of the kind, and the prime is the table's
pub record IsOfPresentations : Type 0 where
  pub kind : (T : TableData) → (freyd_offer T).kind ≡ Freyd
  pub weights : (T : TableData) → (freyd_offer T).weight ≡ offered_weight Freyd
  pub prime : (T : TableData) → prime_of (freyd_offer T) ≡ T.prime

-- all rules hold in the category: it is abelian
abbrev pub RulesHold : Type 0
RulesHold = (T : TableData) → IsTable T → ((freyd_offer T).kind ≡ Add) ⊎ IsAbelian (freyd_offer T).category

-- the data are those of a relation rho: a matrix of combinations between two lists of objects of the table
pub record IsRelation (T : TableData) (a : ObjData) (rho : MorphismMatrix) : Type 0 where
  pub value : a ≡ Relation rho.from rho.to rho.entries
  pub is : IsMorphismMatrix T rho

-- the objects are the relations
abbrev pub ObjectsAreRelations : Type 0
ObjectsAreRelations = (T : TableData) (a : ObjData) → (freyd_offer T).category.is_object a ↔ ((rho : MorphismMatrix) × IsRelation T a rho)

-- the data are those of a matrix alpha between the targets of two relations, for which some omega has rho·alpha = omega·sigma
pub record IsSquare (T : TableData) (f : Between ObjData MorData) : Type 0 where
  pub rho : MorphismMatrix
  pub sigma : MorphismMatrix
  pub alpha : MorphismMatrix
  pub omega : MorphismMatrix
  pub src : IsRelation T f.src rho
  pub tgt : IsRelation T f.tgt sigma
  pub value : f.value ≡ Entries alpha.entries
  pub is : IsMorphismMatrix T alpha
  pub from : alpha.from ≡ rho.to
  pub to : alpha.to ≡ sigma.to
  pub over : IsMorphismMatrix T omega
  pub over_from : omega.from ≡ rho.from
  pub over_to : omega.to ≡ sigma.from
  pub commutes : (closure_data T).compose omega sigma ≡ (closure_data T).compose rho alpha

-- the morphisms are these matrices
abbrev pub MorphismsAreSquares : Type 0
MorphismsAreSquares = (T : TableData) → IsTable T → (f : Between ObjData MorData) → IsArrow (freyd_offer T).category f ↔ IsSquare T f
