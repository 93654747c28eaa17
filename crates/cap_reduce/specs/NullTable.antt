-- What the code finds on the way: the leads of reduced rows, null columns and rows read off them, the table of a system.
use Rattle.std.specs.Prelude.{◌≡◌, ◌≢◌, ◌⊎◌, ℕ, ◌+◌, ◌-◌, ◌*◌, ◌%◌, ◌<◌, ◌≤◌, ◌==◌, nat_lt, if◌then◌else◌, true, Result, List, length, slice_index}
use Rattle.std.specs.List.{Contains}
use Rattle.cap_field.specs.Residue.{is_tabled}
use Rattle.cap_matrix.specs.Grid.{Grid, entry, total, matrix_by}
use Rattle.cap_matrix.specs.Reduced.{IsReducedBy}
use Rattle.cap_matrix.specs.Made.{IsMade}
use Rattle.cap_reduce.specs.Flat.{cell}
use Rattle.cap_matrix.specs.declared.MatrixFault.{MatrixFault}

-- the k columns of n that are none of r leads, from the last to the first
pub record IsFree (r n k : ℕ) (lead free : ℕ → ℕ) : Type 0 where
  pub inside : (i : ℕ) → i < k → free i < n
  pub falling : (i l : ℕ) → i < l → l < k → free l < free i
  pub apart : (a i : ℕ) → a < r → i < k → lead a ≢ free i
  pub every : (c : ℕ) → c < n → ((a : ℕ) × (a < r) × (lead a ≡ c)) ⊎ ((i : ℕ) × (i < k) × (free i ≡ c))

-- row i has 1 in free column i and 0 in the other free columns, and in the lead of row a minus that row's entry in free column i; all read backwards
pub record IsNullTable (p r n k : ℕ) (u : ℕ → ℕ → ℕ) (lead free : ℕ → ℕ) (t : ℕ → ℕ → ℕ) : Type 0 where
  pub one : (i : ℕ) → i < k → t i (n - 1 - free i) ≡ 1
  pub zero : (i l : ℕ) → i < k → l < k → i ≢ l → t i (n - 1 - free l) ≡ 0
  pub minus : (i a : ℕ) → i < k → a < r → t i (n - 1 - lead a) ≡ (p - u a (free i)) % p

-- a scan of the first c columns has met the first a of r leads: where each column stands among the leads (r: nowhere), and the free columns in order
pub record IsScanned (r : ℕ) (lead place free : ℕ → ℕ) (a c : ℕ) : Type 0 where
  pub met : a ≤ c
  pub few : a ≤ r
  pub past : (i : ℕ) → i < a → lead i < c
  pub ahead : (i : ℕ) → a ≤ i → i < r → c ≤ lead i
  pub placed : (i : ℕ) → i < a → place (lead i) ≡ i
  pub inside : (j : ℕ) → j < c - a → free j < c
  pub rising : (j l : ℕ) → j < l → l < c - a → free j < free l
  pub nowhere : (j : ℕ) → j < c - a → place (free j) ≡ r
  pub every : (q : ℕ) → q < c → ((i : ℕ) × (i < a) × (lead i ≡ q)) ⊎ ((j : ℕ) × (j < c - a) × (free j ≡ q))

-- the column y with u·y = 0 that is 1 in free column f and 0 in the other free columns, where u has r rows, with each column's place among the leads
abbrev pub null_value : ℕ → ℕ → (ℕ → ℕ → ℕ) → (ℕ → ℕ) → ℕ → ℕ → ℕ
null_value p r u place f q = if nat_lt (place q) r then (p - u (place q) f) % p else (if q == f then 1 else 0)

-- that column read backwards, where u has n columns
abbrev pub null_entry : ℕ → ℕ → ℕ → (ℕ → ℕ → ℕ) → (ℕ → ℕ) → ℕ → ℕ → ℕ
null_entry p r n u place f c = null_value p r u place f (n - 1 - c)

-- u is reduced, and the answer is the matrix of some null table of it
pub record IsNullTableMade (p r n : ℕ) (u : ℕ → ℕ → ℕ) (lead : ℕ → ℕ) (result : Result Grid MatrixFault) : Type 0 where
  pub free : ℕ → ℕ
  pub table : ℕ → ℕ → ℕ
  pub reduced : IsReducedBy p r n u lead
  pub is_free : IsFree r n (n - r) lead free
  pub is_table : IsNullTable p r n (n - r) u lead free table
  pub made : IsMade result (matrix_by p (n - r) n table)

-- the columns below n whose place is below r, in order
pub record IsLeadList (r : ℕ) (place : ℕ → ℕ) (n : ℕ) (rows : List ℕ) : Type 0 where
  pub inside : (k : ℕ) → k < length rows → slice_index rows k < n
  pub rising : (k l : ℕ) → k < l → l < length rows → slice_index rows k < slice_index rows l
  pub listed : (i : ℕ) → i < n → place i < r → Contains rows i
  pub leads : (k : ℕ) → k < length rows → place (slice_index rows k) < r

-- y is the null column of free column f, and v·y is not 0
pub record IsNullColumn (p r n : ℕ) (u : ℕ → ℕ → ℕ) (place v : ℕ → ℕ) (f : ℕ) (y : List ℕ) : Type 0 where
  pub inside : f < n
  pub free : r ≤ place f
  pub column : (c : ℕ) → c < n → slice_index y c ≡ null_value p r u place f c
  pub some : total n (λ c. v c * slice_index y c) % p ≢ 0

-- t holds the transpose of m, of n rows and w columns, with the first k of some rows, which stand in a flat buffer, as further columns
pub record IsSystemTable (n w k : ℕ) (m : Grid) (rows t : List ℕ) : Type 0 where
  pub tabled : is_tabled m.prime ≡ true
  pub long : length t ≡ w * (n + k)
  pub turned : (j i : ℕ) → j < w → i < n → cell t (n + k) j i ≡ entry m.entries i j
  pub beside : (j i : ℕ) → j < w → i < k → cell t (n + k) j (n + i) ≡ cell rows w i j

-- the columns of u from a to b are 0 in the rows from r to n
abbrev pub IsNoneLeft : ℕ → ℕ → ℕ → ℕ → (ℕ → ℕ → ℕ) → Type 0
IsNoneLeft r n a b u = (c i : ℕ) → a ≤ c → c < b → r ≤ i → i < n → u i c ≡ 0

-- column c is the first of them that is not
pub record IsFirstLeft (r n a b : ℕ) (u : ℕ → ℕ → ℕ) (c : ℕ) : Type 0 where
  pub from : a ≤ c
  pub inside : c < b
  pub before : IsNoneLeft r n a c u
  pub some : (i : ℕ) × (r ≤ i) × (i < n) × (u i c ≢ 0)

-- xs holds k rows of n cells: row q has the entries of column n + q of u at the leads, and 0 elsewhere
pub record AreReadOff (r n k : ℕ) (u : ℕ → ℕ → ℕ) (lead : ℕ → ℕ) (xs : List ℕ) : Type 0 where
  pub long : length xs ≡ k * n
  pub on_leads : (q a : ℕ) → q < k → a < r → cell xs n q (lead a) ≡ u a (n + q)
  pub elsewhere : (q i : ℕ) → q < k → i < n → ((a : ℕ) → a < r → lead a ≢ i) → cell xs n q i ≡ 0
