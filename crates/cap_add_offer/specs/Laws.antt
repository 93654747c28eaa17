-- The laws of the offer of the additive closure of a valid table.
use Rattle.std.specs.Prelude.{◌≡◌, ◌⊎◌, ◌↔◌, ℕ, List}
use Rattle.cap_laws.specs.Universal.{IsAbelian}
use Rattle.cap_laws.specs.Table.{TableData}
use Rattle.cap_add_laws.specs.Closure.{AreObjects, MorphismMatrix, IsMorphismMatrix}
use Rattle.cap_ops.specs.declared.plans.Kind.TheVariants.{Add}
use Rattle.cap_ops.specs.Arrows.{Between}
use Rattle.cap_ops.specs.Offered.{offered_weight}
use Rattle.cap_ops.specs.Primitives.{prime_of}
use Rattle.cap_ops.specs.Told.{IsArrow}
use Rattle.cap_data.specs.declared.data.ObjData.{ObjData}
use Rattle.cap_data.specs.declared.data.ObjData.TheVariants.{Parts}
use Rattle.cap_data.specs.declared.data.MorData.{MorData}
use Rattle.cap_data.specs.declared.data.MorData.TheVariants.{Entries}
use Rattle.cap_add_offer.specs.Offer.{list_offer}

-- the kind is that of additive closures, the weights are those of the kind, and the prime is the table's
pub record IsOfLists : Type 0 where
  pub kind : (T : TableData) → (list_offer T).kind ≡ Add
  pub weights : (T : TableData) → (list_offer T).weight ≡ offered_weight Add
  pub prime : (T : TableData) → prime_of (list_offer T) ≡ T.prime

-- each rule that is allowed for the kind holds in the category: its kind is that of additive closures
abbrev pub RulesHold : Type 0
RulesHold = (T : TableData) → ((list_offer T).kind ≡ Add) ⊎ IsAbelian (list_offer T).category

-- the objects are the lists of objects of the table
abbrev pub ObjectsAreLists : Type 0
ObjectsAreLists = (T : TableData) (a : ObjData) → (list_offer T).category.is_object a ↔ ((parts : List ℕ) × (a ≡ Parts parts) × AreObjects T parts)

-- the data are those of a matrix of combinations: each entry has as many residues as the Hom of its two parts has basis elements
pub record IsMatrixBetween (T : TableData) (f : Between ObjData MorData) : Type 0 where
  pub matrix : MorphismMatrix
  pub src : f.src ≡ Parts matrix.from
  pub tgt : f.tgt ≡ Parts matrix.to
  pub value : f.value ≡ Entries matrix.entries
  pub is : IsMorphismMatrix T matrix

-- the morphisms are these matrices
abbrev pub MorphismsAreEntries : Type 0
MorphismsAreEntries = (T : TableData) → (f : Between ObjData MorData) → IsArrow (list_offer T).category f ↔ IsMatrixBetween T f
