-- Products from both sides with one basis element at one place, and rows one after another.
use Rattle.std.specs.Prelude.{◌≡◌, ℕ, ◌+◌, ◌*◌, ◌<◌, List, length, slice_index}
use Rattle.cap_laws.specs.Table.{TableData, Combination, table_data, width_of}
use Rattle.cap_homlaw.specs.Rows.{unit_row}
use Rattle.cap_add_laws.specs.Closure.{MorphismMatrix, entry_of, morphism_by}

-- the combination from x to y with the coefficient of the t-th basis element alone
abbrev pub element_at : TableData → ℕ → ℕ → ℕ → Combination
element_at T x y t = record { from = x; to = y; coefficients = unit_row (width_of T x y) t }

-- l·e·r, where e has that combination at place (i, j) and zeros elsewhere: column i of l and row j of r count
abbrev pub two_sided : TableData → MorphismMatrix → MorphismMatrix → ℕ → ℕ → ℕ → MorphismMatrix
two_sided T l r i j t = morphism_by l.from r.to
    (λ u v. (table_data T).compose ((table_data T).compose (entry_of l u i) (element_at T (slice_index l.to i) (slice_index r.from j) t)) (entry_of r j v))

-- n rows of m numbers, one after another; row k is R k
pub record IsStack (n m : ℕ) (R : ℕ → List ℕ) (cells : List ℕ) : Type 0 where
  pub long : length cells ≡ n * m
  pub at : (k c : ℕ) → k < n → c < m → slice_index cells (k * m + c) ≡ slice_index (R k) c
