-- The states of an elimination, and its steps, on tables of entries.
use Rattle.std.specs.Prelude.{◌≡◌, ◌≢◌, ℕ, ◌+◌, ◌-◌, ◌*◌, ◌%◌, ◌<◌, ◌≤◌}
use Rattle.cap_matrix.specs.Reduced.{InSpan}

-- in the columns below j the first r of n rows are reduced, with these leads, and the others are 0
pub record IsCleared (p n m : ℕ) (t : ℕ → ℕ → ℕ) (lead : ℕ → ℕ) (r j : ℕ) : Type 0 where
  pub few : r ≤ n
  pub residues : (i c : ℕ) → i < n → c < m → t i c < p
  pub inside : (i : ℕ) → i < r → lead i < j
  pub rising : (i k : ℕ) → i < k → k < r → lead i < lead k
  pub before : (i c : ℕ) → i < r → c < lead i → t i c ≡ 0
  pub one : (i : ℕ) → i < r → t i (lead i) ≡ 1
  pub clear : (i k : ℕ) → i < n → k < r → i ≢ k → t i (lead k) ≡ 0
  pub under : (i c : ℕ) → r ≤ i → i < n → c < j → t i c ≡ 0

-- row r of T is multiplied by b, which makes its entry in column j 1, and taken from the other rows so that theirs are 0
pub record IsPivoted (p n m : ℕ) (t u : ℕ → ℕ → ℕ) (r j b : ℕ) : Type 0 where
  pub unit : (t r j * b) % p ≡ 1
  pub row : (c : ℕ) → c < m → u r c ≡ (t r c * b) % p
  pub others : (i c : ℕ) → i < n → i ≢ r → c < m → u i c ≡ (t i c + (p - t i j) * u r c) % p

pub record IsSwapped (n m : ℕ) (t u : ℕ → ℕ → ℕ) (a b : ℕ) : Type 0 where
  pub first : (c : ℕ) → c < m → u a c ≡ t b c
  pub second : (c : ℕ) → c < m → u b c ≡ t a c
  pub others : (i c : ℕ) → i < n → i ≢ a → i ≢ b → c < m → u i c ≡ t i c

-- the rows of each table are in the span of the other
pub record IsSameSpan (p n m : ℕ) (t u : ℕ → ℕ → ℕ) : Type 0 where
  pub there : (i : ℕ) → i < n → InSpan p n m t (u i)
  pub back : (i : ℕ) → i < n → InSpan p n m u (t i)
