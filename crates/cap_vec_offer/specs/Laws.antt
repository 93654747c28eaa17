-- The laws of the offer of matrices.
use Rattle.std.specs.Prelude.{◌≡◌, ◌⊎◌, ◌↔◌, ℕ, true}
use Rattle.cap_field.specs.Residue.{is_tabled}
use Rattle.cap_matrix.specs.Grid.{Grid, IsMatrixOf}
use Rattle.cap_laws.specs.Universal.{IsAbelian}
use Rattle.cap_ops.specs.declared.plans.Kind.TheVariants.{Mat, Add}
use Rattle.cap_ops.specs.Arrows.{Between}
use Rattle.cap_ops.specs.Offered.{offered_weight}
use Rattle.cap_ops.specs.Primitives.{prime_of}
use Rattle.cap_ops.specs.Told.{IsArrow}
use Rattle.cap_data.specs.declared.data.ObjData.{ObjData}
use Rattle.cap_data.specs.declared.data.ObjData.TheVariants.{Dim}
use Rattle.cap_data.specs.declared.data.MorData.{MorData}
use Rattle.cap_data.specs.declared.data.MorData.TheVariants.{Mat as Matrix}
use Rattle.cap_vec_offer.specs.Offer.{matrix_offer}

-- the kind is that of matrices, and the weights are those of the kind
pub record IsOfMatrices : Type 0 where
  pub kind : (p : ℕ) → (matrix_offer p).kind ≡ Mat
  pub weights : (p : ℕ) → (matrix_offer p).weight ≡ offered_weight Mat
  pub prime : (p : ℕ) → is_tabled p ≡ true → prime_of (matrix_offer p) ≡ p

-- all rules hold in the category: it is abelian
abbrev pub RulesHold : Type 0
RulesHold = (p : ℕ) → ((matrix_offer p).kind ≡ Add) ⊎ IsAbelian (matrix_offer p).category

-- the objects are the dimensions
abbrev pub ObjectsAreDimensions : Type 0
ObjectsAreDimensions = (p : ℕ) (a : ObjData) → (matrix_offer p).category.is_object a ↔ ((n : ℕ) × (a ≡ Dim n))

-- the data are those of a matrix modulo p between dimensions
pub record IsMatrixBetween (p : ℕ) (f : Between ObjData MorData) : Type 0 where
  pub rows : ℕ
  pub columns : ℕ
  pub matrix : Grid
  pub src : f.src ≡ Dim rows
  pub tgt : f.tgt ≡ Dim columns
  pub value : f.value ≡ Matrix matrix
  pub is : IsMatrixOf p rows columns matrix

-- the morphisms are the matrices
abbrev pub MorphismsAreMatrices : Type 0
MorphismsAreMatrices = (p : ℕ) → is_tabled p ≡ true → (f : Between ObjData MorData) → IsArrow (matrix_offer p).category f ↔ IsMatrixBetween p f
