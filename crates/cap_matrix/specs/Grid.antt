-- Matrices over residues modulo a prime, of any size, and their operations, entry by entry.
use Rattle.std.specs.Prelude.{◌≡◌, ℕ, zero, suc, ◌+◌, ◌-◌, ◌*◌, ◌/◌, ◌%◌, ◌<◌, Bool, nat_le, nat_lt, ◌==◌, ◌&&◌, if◌then◌else◌, List, [], map, length, slice_index, slice_index_or, slice_set}
use Rattle.std.specs.List.{range_with_len}

-- f 0 + .. + f (n - 1)
abbrev pub total : ℕ → (ℕ → ℕ) → ℕ
total zero f = 0
total (suc n) f = total n f + f n

-- a prime, a row count, a column count and the list of the rows
pub record Grid : Type 0 where
  pub prime : ℕ
  pub row_count : ℕ
  pub column_count : ℕ
  pub entries : List (List ℕ)

-- the entry in row i and column j, and 0 outside
abbrev pub entry : List (List ℕ) → ℕ → ℕ → ℕ
entry m i j = slice_index (slice_index_or m i []) j

-- the rows and columns are as many as the counts say
pub record IsShaped (g : Grid) : Type 0 where
  pub row_many : length g.entries ≡ g.row_count
  pub column_many : (i : ℕ) → i < g.row_count → length (slice_index_or g.entries i []) ≡ g.column_count

-- a matrix of residues modulo p, of any size
pub record IsMatrix (p : ℕ) (g : Grid) : Type 0 where
  pub prime : g.prime ≡ p
  pub shaped : IsShaped g
  pub residues : (i j : ℕ) → i < g.row_count → j < g.column_count → entry g.entries i j < p

-- such a matrix with a rows and b columns
pub record IsMatrixOf (p a b : ℕ) (g : Grid) : Type 0 where
  pub is : IsMatrix p g
  pub from : g.row_count ≡ a
  pub to : g.column_count ≡ b

-- the row, the rows and the matrix whose entries a formula gives
abbrev pub row_by : ℕ → (ℕ → ℕ) → List ℕ
row_by n f = map f (range_with_len 0 n)

abbrev pub rows_by : ℕ → ℕ → (ℕ → ℕ → ℕ) → List (List ℕ)
rows_by n m f = map (λ i. row_by m (f i)) (range_with_len 0 n)

abbrev pub matrix_by : ℕ → ℕ → ℕ → (ℕ → ℕ → ℕ) → Grid
matrix_by p n m f = record { prime = p; row_count = n; column_count = m; entries = rows_by n m f }

-- the zero matrix and the identity
abbrev pub zero_of : ℕ → ℕ → ℕ → Grid
zero_of p n m = matrix_by p n m (λ i j. 0)

abbrev pub unit_of : ℕ → ℕ → Grid
unit_of p n = matrix_by p n n (λ i j. if i == j then 1 else 0)

-- M with the entry v in row i and column j
abbrev pub with_entry : Grid → ℕ → ℕ → ℕ → Grid
with_entry m i j v = record m { entries = slice_set m.entries i (slice_set (slice_index_or m.entries i []) j v) }

-- the matrix product
abbrev pub product_of : Grid → Grid → Grid
product_of x y = matrix_by x.prime x.row_count y.column_count
    (λ i j. total x.column_count (λ k. entry x.entries i k * entry y.entries k j) % x.prime)

-- the sum, and the multiple by n
abbrev pub sum_of : Grid → Grid → Grid
sum_of x y = matrix_by x.prime x.row_count x.column_count (λ i j. (entry x.entries i j + entry y.entries i j) % x.prime)

abbrev pub scaled_of : ℕ → Grid → Grid
scaled_of n x = matrix_by x.prime x.row_count x.column_count (λ i j. n * entry x.entries i j % x.prime)

-- rows for columns
abbrev pub transposed_of : Grid → Grid
transposed_of x = matrix_by x.prime x.column_count x.row_count (λ i j. entry x.entries j i)

-- x above y, and x left of y
abbrev pub stacked_of : Grid → Grid → Grid
stacked_of x y = matrix_by x.prime (x.row_count + y.row_count) x.column_count
    (λ i j. if nat_lt i x.row_count then entry x.entries i j else entry y.entries (i - x.row_count) j)

abbrev pub beside_of : Grid → Grid → Grid
beside_of x y = matrix_by x.prime x.row_count (x.column_count + y.column_count)
    (λ i j. if nat_lt j x.column_count then entry x.entries i j else entry y.entries i (j - x.column_count))

-- n rows and m columns of x, from row i and column j on
abbrev pub block_of : ℕ → ℕ → ℕ → ℕ → Grid → Grid
block_of i j n m x = matrix_by x.prime n m (λ r c. entry x.entries (i + r) (j + c))

-- the Kronecker product: block (i, j) is y times the entry of x there
abbrev pub kron_of : Grid → Grid → Grid
kron_of x y = matrix_by x.prime (x.row_count * y.row_count) (x.column_count * y.column_count)
    (λ i j. entry x.entries (i / y.row_count) (j / y.column_count) * entry y.entries (i % y.row_count) (j % y.column_count) % x.prime)

-- the row x·M
abbrev pub row_times : List ℕ → Grid → List ℕ
row_times x m = row_by m.column_count (λ j. total m.row_count (λ i. slice_index x i * entry m.entries i j) % m.prime)

-- the limits on a size: at most 2,048 rows and columns, and 1,048,576 cells
abbrev pub fits_limits : ℕ → ℕ → Bool
fits_limits n m = nat_le n 2048 && nat_le m 2048 && nat_le (n * m) 1048576
