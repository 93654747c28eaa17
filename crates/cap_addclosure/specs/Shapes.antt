-- Which entries are no matrix of combinations, and why.
use Rattle.std.specs.Prelude.{◌≡◌, ◌≢◌, ℕ, zero, suc, ◌*◌, ◌<◌, List, [], length, slice_index, slice_index_or}
use Rattle.cap_laws.specs.Table.{TableData}
use Rattle.cap_add_laws.specs.Closure.{widths_of}

-- entry k has as many coefficients as an entry there
abbrev pub HasWidth : TableData → List ℕ → List ℕ → List (List ℕ) → ℕ → Type 0
HasWidth T a b entries k = length (slice_index_or entries k []) ≡ slice_index (widths_of T a b) k

-- the first n entries have
abbrev pub HasWidths : TableData → List ℕ → List ℕ → List (List ℕ) → ℕ → Type 0
HasWidths T a b entries n = (k : ℕ) → k < n → HasWidth T a b entries k

-- entry k is the first that has not
pub record IsFirstWrong (T : TableData) (a b : List ℕ) (entries : List (List ℕ)) (k : ℕ) : Type 0 where
  pub inside : k < length entries
  pub wrong : HasWidth T a b entries k → ⊥
  pub before : HasWidths T a b entries k

-- why entries are no matrix from a to b: for part 0 their number, else the first entry, counted from 1, with a wrong number of coefficients
abbrev pub IsShapeFault : TableData → List ℕ → List ℕ → List (List ℕ) → ℕ → Type 0
IsShapeFault T a b entries zero = length entries ≢ length a * length b
IsShapeFault T a b entries (suc k) = (length entries ≡ length a * length b) × IsFirstWrong T a b entries k
