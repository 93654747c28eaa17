-- What is added in place to a flat buffer that has its rows one after another.
use Rattle.std.specs.Prelude.{◌≡◌, ℕ, ◌+◌, ◌%◌, ◌<◌, ◌≤◌, List, slice_index}
use Rattle.cap_matrix.specs.Grid.{Grid, entry}
use Rattle.cap_reduce.specs.Flat.{cell}

-- f is added, modulo p, to the n cells from `at` on, and the others stay
pub record IsAdded (p : ℕ) (first now : List ℕ) (at n : ℕ) (f : ℕ → ℕ) : Type 0 where
  pub inside : (k : ℕ) → k < n → slice_index now (at + k) ≡ (slice_index first (at + k) + f k) % p
  pub outside : (i : ℕ) → (at ≤ i → i < at + n → ⊥) → slice_index now i ≡ slice_index first i
  pub small : (i : ℕ) → slice_index now i < p

-- f is added, modulo p, to the n rows and m columns from row `row` and column `col` on of a buffer with w columns, and the other cells stay
pub record IsBlockAdded (p w : ℕ) (first now : List ℕ) (row col n m : ℕ) (f : ℕ → ℕ → ℕ) : Type 0 where
  pub inside : (i j : ℕ) → i < n → j < m → cell now w (row + i) (col + j) ≡ (cell first w (row + i) (col + j) + f i j) % p
  pub outside : (i j : ℕ) → j < w → (row ≤ i → i < row + n → col ≤ j → j < col + m → ⊥) → cell now w i j ≡ cell first w i j
  pub small : (k : ℕ) → slice_index now k < p

-- the n rows of a buffer with w columns hold a matrix
pub record IsHeld (n w : ℕ) (cells : List ℕ) (g : Grid) : Type 0 where
  pub each : (i j : ℕ) → i < n → j < w → cell cells w i j ≡ entry g.entries i j
