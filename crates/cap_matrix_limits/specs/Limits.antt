-- How large a matrix may be.
use Rattle.std.specs.Prelude.{ℕ, Bool, nat_le, ◌&&◌}

-- at most 2,048 rows and columns, and 1,048,576 cells; the cells of a matrix of morphisms are the coefficients of its entries
abbrev pub keeps_limits : ℕ → ℕ → ℕ → Bool
keeps_limits rows columns cells = nat_le rows 2048 && nat_le columns 2048 && nat_le cells 1048576
