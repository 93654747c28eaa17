-- The sizes that the calls of the homomorphism structure of matrices meet.
use Rattle.std.specs.Prelude.{◌≡◌, ◌⊎◌, ℕ}
use Rattle.cap_matrix.specs.Grid.{Grid, transposed_of, kron_of}
use Rattle.cap_laws.specs.Answers.{numbers}
use Rattle.cap_homlaw.specs.Meets.{HomMeets}
use Rattle.cap_vec.specs.Sizes.{IsSizeOf}

-- the argument, the answer, and the two factors with the matrix of their product
abbrev pub vec_hom_meets : HomMeets ℕ Grid
vec_hom_meets = record {
  generator = λ n s. ⊥;
  nu = λ g s. IsSizeOf g s;
  back = λ a b row s. s ≡ numbers a b;
  h = λ l r s. (IsSizeOf l s ⊎ IsSizeOf r s) ⊎ IsSizeOf (kron_of (transposed_of l) r) s;
}
