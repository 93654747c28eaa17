-- The test of the limits of a matrix of numbers.
use Rattle.std.proofs.Common.{◌≡◌, ℕ, ◌-◌, ◌^◌, ◌<◌, min, true, false, rules}
use Rattle.cap_matrix.specs.Grid.{fits_limits}
use Rattle.cap_matrix.proofs.Filled.{fits_parts}
use Rattle.cap_laws.specs.Answers.{Fits, numbers}

pub fits-numbers : (n m : ℕ) → fits_limits n m ≡ true → Fits (numbers n m)
fits-numbers n m h = let x = fits_parts n m h in record { rows = x.0; columns = x.1; cells = x.2 }

pub past-numbers : (n m : ℕ) → fits_limits n m ≡ false → Fits (numbers n m) → ⊥
past-numbers n m h f = search rules

pub uncut : (n : ℕ) → n < 2 ^ 32 → n ≡ min n (2 ^ 32 - 1)
uncut n lt = search rules
