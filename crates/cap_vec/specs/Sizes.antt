-- The sizes of matrices, and those that the calls of the category of matrices meet.
use Rattle.std.specs.Prelude.{◌≡◌, ◌⊎◌, ℕ, ◌+◌, ◌==◌, if◌then◌else◌, true, Option, Some, None}
use Rattle.cap_field.specs.Residue.{is_tabled}
use Rattle.cap_matrix.specs.Grid.{Grid, matrix_by, transposed_of}
use Rattle.cap_matrix.specs.Summands.{first_in, second_in, first_out, second_out}
use Rattle.cap_laws.specs.Answers.{Size, numbers}
use Rattle.cap_laws.specs.declared.values.Sum.{Sum}
use Rattle.cap_vec_laws.specs.Vec.{first_columns, last_columns, stacked_difference}
use Rattle.cap_vec.specs.Members.{kernel_of, cokernel_of, lift_of, colift_of}

-- the size of a matrix
abbrev pub size_of : Grid → Size
size_of g = numbers g.row_count g.column_count

abbrev pub IsSizeOf : Grid → Size → Type 0
IsSizeOf g s = s ≡ size_of g

-- the matrix whose ones stand on the diagonal that goes through row `row` and column `col`
abbrev pub diagonal_of : ℕ → ℕ → ℕ → ℕ → ℕ → Grid
diagonal_of p rows cols row col = matrix_by p rows cols (λ i j. if i + col == j + row then 1 else 0)

-- the block forms of the direct sum of a and b, the first summand first
abbrev pub block_sum : ℕ → ℕ → ℕ → Sum Grid
block_sum p a b = record { i1 = first_in p a b; i2 = second_in p a b; p1 = first_out p a b; p2 = second_out p a b }

-- the sizes of its four morphisms
abbrev pub IsSizeInSum : ℕ → ℕ → ℕ → Size → Type 0
IsSizeInSum p a b s = (IsSizeOf (first_in p a b) s ⊎ IsSizeOf (second_in p a b) s) ⊎ (IsSizeOf (first_out p a b) s ⊎ IsSizeOf (second_out p a b) s)

-- the kernel of f: f, which is reduced, and the null rows
abbrev pub IsSizeInKernel : (p : ℕ) → is_tabled p ≡ true → Grid → Size → Type 0
IsSizeInKernel p t f s = IsSizeOf f s ⊎ IsSizeOf (kernel_of p t f) s

-- the cokernel of f: what the kernel of f' meets, and the answer
abbrev pub IsSizeInCokernel : (p : ℕ) → is_tabled p ≡ true → Grid → Size → Type 0
IsSizeInCokernel p t f s = IsSizeInKernel p t (transposed_of f) s ⊎ IsSizeOf (cokernel_of p t f) s

-- the size of an answer, where there is one
abbrev pub IsSizeOfSome : Option Grid → Size → Type 0
IsSizeOfSome (Some u) s = IsSizeOf u s
IsSizeOfSome None s = ⊥

-- the lift of x along f: f, with which each row of x is solved, and the answer
abbrev pub IsSizeInLift : (p : ℕ) → is_tabled p ≡ true → Grid → Grid → Size → Type 0
IsSizeInLift p t x f s = IsSizeOf f s ⊎ IsSizeOfSome (lift_of p t x f) s

-- the colift of x along f: what the lift of x' along f' meets, and the answer
abbrev pub IsSizeInColift : (p : ℕ) → is_tabled p ≡ true → Grid → Grid → Size → Type 0
IsSizeInColift p t f x s = IsSizeInLift p t (transposed_of x) (transposed_of f) s ⊎ IsSizeOfSome (colift_of p t f x) s

-- the pullback of f and g: the null rows of f above −g, cut after the columns of f's source
abbrev pub pullback_of : (p : ℕ) → is_tabled p ≡ true → Grid → Grid → Grid × Grid
pullback_of p t f g =
    let n = kernel_of p t (stacked_difference f g) in
    (first_columns f.row_count n, last_columns f.row_count g.row_count n)

-- the sizes of a pair
abbrev pub IsSizeInPair : Grid × Grid → Size → Type 0
IsSizeInPair x s = IsSizeOf x.0 s ⊎ IsSizeOf x.1 s

-- f above −g, which is reduced, its null rows uncut, and the answer
abbrev pub IsSizeInPullback : (p : ℕ) → is_tabled p ≡ true → Grid → Grid → Size → Type 0
IsSizeInPullback p t f g s = IsSizeInKernel p t (stacked_difference f g) s ⊎ IsSizeInPair (pullback_of p t f g) s

-- the pushout of f and g: the transposes of the pullback of f' and g'
abbrev pub pushout_of : (p : ℕ) → is_tabled p ≡ true → Grid → Grid → Grid × Grid
pushout_of p t f g =
    let x = pullback_of p t (transposed_of f) (transposed_of g) in
    (transposed_of x.0, transposed_of x.1)

-- f' above −g', which is reduced, its null rows uncut, and the answer
abbrev pub IsSizeInPushout : (p : ℕ) → is_tabled p ≡ true → Grid → Grid → Size → Type 0
IsSizeInPushout p t f g s = IsSizeInKernel p t (stacked_difference (transposed_of f) (transposed_of g)) s ⊎ IsSizeInPair (pushout_of p t f g) s
