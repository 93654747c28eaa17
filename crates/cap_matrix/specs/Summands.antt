-- The matrices of a direct sum of a and b, whose first a places are the first summand's.
use Rattle.std.specs.Prelude.{ℕ, ◌+◌, ◌==◌, if◌then◌else◌}
use Rattle.cap_matrix.specs.Grid.{Grid, matrix_by}

-- from a summand into the sum
abbrev pub first_in : ℕ → ℕ → ℕ → Grid
first_in p a b = matrix_by p a (a + b) (λ i j. if i == j then 1 else 0)

abbrev pub second_in : ℕ → ℕ → ℕ → Grid
second_in p a b = matrix_by p b (a + b) (λ i j. if a + i == j then 1 else 0)

-- from the sum out to a summand
abbrev pub first_out : ℕ → ℕ → ℕ → Grid
first_out p a b = matrix_by p (a + b) a (λ i j. if i == j then 1 else 0)

abbrev pub second_out : ℕ → ℕ → ℕ → Grid
second_out p a b = matrix_by p (a + b) b (λ i j. if i == a + j then 1 else 0)
