-- The objects and morphisms of the offer of matrices are dimensions and matrices.
use Rattle.std.proofs.Common.{◌≡◌, ℕ, true, refl, sym, ap, ◌∙◌, subst}
use Rattle.std.specs.Prelude.{◌↔◌}
use Rattle.cap_field.specs.Residue.{is_tabled}
use Rattle.cap_matrix.specs.Grid.{Grid, IsMatrixOf}
use Rattle.cap_vec_laws.specs.Vec.{vec_data}
use Rattle.cap_ops.specs.Arrows.{Between}
use Rattle.cap_ops.specs.Told.{IsArrow}
use Rattle.cap_data.specs.declared.data.ObjData.{ObjData}
use Rattle.cap_data.specs.declared.data.ObjData.TheVariants.{Dim}
use Rattle.cap_data.specs.declared.data.MorData.{MorData}
use Rattle.cap_data.specs.declared.data.MorData.TheVariants.{Mat as Matrix}
use Rattle.cap_data.specs.OfMatrices.{read_dimension, read_matrix, matrix_reading}
use Rattle.cap_alike.specs.Along.{IsObjectDatum, IsArrowDatum, along}
use Rattle.cap_vec_offer.specs.Offer.{vec_offer, matrix_offer}
use Rattle.cap_vec_offer.specs.Laws.{ObjectsAreDimensions, IsMatrixBetween, MorphismsAreMatrices}
use Rattle.cap_vec_offer.specs.Members.{of-each, to-number, of-number}

-- a dimension is an object
pub dimension-object : (p n : ℕ) (a : ObjData) → a ≡ Dim n → IsObjectDatum (vec_data p) matrix_reading a
dimension-object p n a e = record { is = tt; written = subst (λ x. Dim (read_dimension x) ≡ x) (sym e) refl }

pub objects_are : ObjectsAreDimensions
objects_are = λ p a.
    of-each (λ D. D.category.is_object a ↔ ((n : ℕ) × (a ≡ Dim n)))
    (λ q t. (λ o. (read_dimension a, sym o.written), λ x. dimension-object q x.0 a x.1)) p

-- a matrix between dimensions is a morphism
pub matrix-arrow : (p : ℕ) (t : is_tabled p ≡ true) (f : Between ObjData MorData) → IsMatrixBetween p f → IsArrow (vec_offer p t).category f
matrix-arrow p t f M =
    let S = dimension-object p M.rows f.src M.src in
    let T = dimension-object p M.columns f.tgt M.tgt in
    let g : IsMatrixOf p M.rows M.columns (read_matrix f.value) = subst (λ m. IsMatrixOf p M.rows M.columns (read_matrix m)) (sym M.value) M.is in
    record {
      src = S;
      tgt = T;
      is = record {
        src = S;
        tgt = T;
        is = record { is = g.is; from = g.from ∙ sym (ap read_dimension M.src); to = g.to ∙ sym (ap read_dimension M.tgt) };
        written = subst (λ m. Matrix (read_matrix m) ≡ m) (sym M.value) refl;
      };
    }

-- and each morphism is one
pub arrow-matrix : (p : ℕ) (t : is_tabled p ≡ true) (f : Between ObjData MorData) → IsArrow (vec_offer p t).category f → IsMatrixBetween p f
arrow-matrix p t f F = record {
  rows = read_dimension f.src;
  columns = read_dimension f.tgt;
  matrix = read_matrix f.value;
  src = sym F.src.written;
  tgt = sym F.tgt.written;
  value = sym F.is.written;
  is = record { is = F.is.is.is; from = F.is.is.from; to = F.is.is.to };
}

pub morphisms_are : MorphismsAreMatrices
morphisms_are = λ p t f. (
  λ F. arrow-matrix p t f (of-number (λ D. IsArrow D.category f) p t F),
  λ M. to-number (λ D. IsArrow D.category f) p t (matrix-arrow p t f M),
)
