-- The kernels and lifts that are answered, functions of data of any size.
use Rattle.std.specs.Prelude.{◌≡◌, ℕ, true, Option}
use Rattle.cap_field.specs.Residue.{is_tabled}
use Rattle.cap_matrix.specs.Grid.{Grid, transposed_of}
use Rattle.cap_vec_laws.specs.Vec.{map_option}
use Rattle.cap_vec_laws.proofs.Members.{members}

-- the kernel is the null-row basis, and the lift has the canonical solution in each row: these functions exist, by the law `MembersExist`
abbrev pub kernel_of : (p : ℕ) → is_tabled p ≡ true → Grid → Grid
kernel_of p t = (members p t).kernel

abbrev pub lift_of : (p : ℕ) → is_tabled p ≡ true → Grid → Grid → Option Grid
lift_of p t = (members p t).lift

-- the cokernel is the transpose of the kernel of the transpose
abbrev pub cokernel_of : (p : ℕ) → is_tabled p ≡ true → Grid → Grid
cokernel_of p t f = transposed_of (kernel_of p t (transposed_of f))

-- the colift of x along f is the transpose of the lift of x' along f'
abbrev pub colift_of : (p : ℕ) → is_tabled p ≡ true → Grid → Grid → Option Grid
colift_of p t f x = map_option transposed_of (lift_of p t (transposed_of x) (transposed_of f))
