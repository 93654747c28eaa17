-- What a call that makes a matrix answers.
use Rattle.std.specs.Prelude.{◌≡◌, ℕ, Result, Ok, Err, true, false}
use Rattle.cap_matrix.specs.Grid.{Grid, fits_limits}
use Rattle.cap_matrix.specs.declared.MatrixFault.{MatrixFault}
use Rattle.cap_matrix.specs.declared.MatrixFault.TheVariants.{TooLarge, NoMemory}

-- why no matrix with n rows and m columns is made: its size, past the limits, or within them want of memory
abbrev pub IsFault : MatrixFault → ℕ → ℕ → Type 0
IsFault (TooLarge size) n m = (size.rows ≡ n) × (size.cols ≡ m) × (fits_limits n m ≡ false)
IsFault NoMemory n m = fits_limits n m ≡ true

-- the matrix, where its size keeps the limits, or want of memory; else its size
abbrev pub IsMade : Result Grid MatrixFault → Grid → Type 0
IsMade (Ok m) g = (m ≡ g) × (fits_limits g.row_count g.column_count ≡ true)
IsMade (Err e) g = IsFault e g.row_count g.column_count
