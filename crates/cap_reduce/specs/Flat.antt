-- The entries of a flat buffer.
use Rattle.std.specs.Prelude.{◌≡◌, ◌≢◌, ℕ, ◌+◌, ◌-◌, ◌*◌, ◌%◌, ◌<◌, ◌≤◌, List, slice_index}

-- the entry in row i and column c, where a row has m cells
abbrev pub cell : List ℕ → ℕ → ℕ → ℕ → ℕ
cell cells m i c = slice_index cells (i * m + c)

-- a loop over the rows has cleared column col of the first i rows by row `row`, and left that row and the rows from i on
pub record IsColumnSoFar (p m : ℕ) (first now : List ℕ) (row col i : ℕ) : Type 0 where
  pub done : (k c : ℕ) → k < i → k ≢ row → c < m → cell now m k c ≡ (cell first m k c + (p - cell first m k col) * cell first m row c) % p
  pub later : (k c : ℕ) → i ≤ k → c < m → cell now m k c ≡ cell first m k c
  pub kept : (c : ℕ) → c < m → cell now m row c ≡ cell first m row c

-- a loop over the columns has exchanged the first c cells of two rows
pub record IsSwapSoFar (m : ℕ) (first now : List ℕ) (a b c : ℕ) : Type 0 where
  pub upper : (q : ℕ) → q < c → cell now m a q ≡ cell first m b q
  pub lower : (q : ℕ) → q < c → cell now m b q ≡ cell first m a q
  pub later : (i q : ℕ) → c ≤ q → q < m → cell now m i q ≡ cell first m i q
  pub others : (i q : ℕ) → q < m → i ≢ a → i ≢ b → cell now m i q ≡ cell first m i q
