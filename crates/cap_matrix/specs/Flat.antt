-- A matrix in one row.
use Rattle.std.specs.Prelude.{◌*◌, ◌/◌, ◌%◌}
use Rattle.cap_matrix.specs.Grid.{Grid, entry, matrix_by}

-- the cells of x, row after row, as one row
abbrev pub flat_row : Grid → Grid
flat_row x = matrix_by x.prime 1 (x.row_count * x.column_count) (λ i k. entry x.entries (k / x.column_count) (k % x.column_count))
