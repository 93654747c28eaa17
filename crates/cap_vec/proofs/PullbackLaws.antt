-- The answers of pullbacks and pushouts have their universal properties.
use Rattle.std.proofs.Common.{◌≡◌, ◌+◌, ℕ, ◌≤◌, true, refl, sym, arith}
use Rattle.cap_field.specs.Residue.{is_tabled}
use Rattle.cap_field.proofs.Fermat.{tabled_range}
use Rattle.cap_matrix.specs.Grid.{Grid, IsMatrix, IsMatrixOf, transposed_of}
use Rattle.cap_matrix.proofs.Transpose.{transposed-matrix}
use Rattle.cap_reduce.proofs.NullBasis.{matrix-ends}
use Rattle.cap_laws.specs.Universal.{IsPullback, IsPushout}
use Rattle.cap_vec_laws.specs.Vec.{vec_data, stacked_difference}
use Rattle.cap_vec_laws.proofs.Pullback.{difference-matrix, pullback_by_null_basis, pushout_by_null_basis}
use Rattle.cap_vec.specs.Members.{kernel_of}
use Rattle.cap_vec_laws.proofs.Members.{kernel_of-is}
use Rattle.cap_vec.specs.Sizes.{pullback_of, pushout_of}

module _ (p : ℕ) (t : is_tabled p ≡ true) where
  pub difference_is : (f g : Grid) → IsMatrix p f → IsMatrix p g → f.column_count ≡ g.column_count → IsMatrixOf p (f.row_count + g.row_count) f.column_count (stacked_difference f g)
  difference_is f g F G meet =
      let pos : 1 ≤ p = omega (arith, (tabled_range p t).0) in
      let GM : IsMatrixOf p g.row_count f.column_count g = record { is = G; from = refl; to = sym meet } in
      difference-matrix pos (matrix-ends F) GM

  pub pullback_is : (f g : Grid) → IsMatrix p f → IsMatrix p g → f.column_count ≡ g.column_count
      → IsPullback (vec_data p) (pullback_of p t f g).0.row_count f.row_count g.row_count f.column_count f g (pullback_of p t f g).0 (pullback_of p t f g).1
  pullback_is f g F G meet =
      pullback_by_null_basis p t f g (kernel_of p t (stacked_difference f g)) F G meet (kernel_of-is p t (stacked_difference f g) (difference_is f g F G meet).is)

  pub pushout_is : (f g : Grid) → IsMatrix p f → IsMatrix p g → f.row_count ≡ g.row_count
      → IsPushout (vec_data p) f.row_count f.column_count g.column_count (pushout_of p t f g).0.column_count f g (pushout_of p t f g).0 (pushout_of p t f g).1
  pushout_is f g F G meet =
      let TF = (transposed-matrix (matrix-ends F)).is in
      let TG = (transposed-matrix (matrix-ends G)).is in
      let d = stacked_difference (transposed_of f) (transposed_of g) in
      pushout_by_null_basis p t f g (kernel_of p t d) F G meet (kernel_of-is p t d (difference_is (transposed_of f) (transposed_of g) TF TG meet).is)
