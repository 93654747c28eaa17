-- What a call that may meet a matrix past the limit answers.
use Rattle.std.specs.Prelude.{◌≡◌, ℕ, ◌*◌, ◌-◌, ◌^◌, ◌≤◌, min, Result, Ok, Err}
use Rattle.cap_laws.specs.declared.faults.CatFault.{CatFault}
use Rattle.cap_laws.specs.declared.faults.CatFault.TheVariants.{TooLarge, NoMemory}

-- the size of a matrix: its rows and columns, and how many numbers it holds
pub record Size : Type 0 where
  pub rows : ℕ
  pub columns : ℕ
  pub cells : ℕ

-- a matrix of numbers holds one in each place; a matrix of morphisms holds the coefficients of each
abbrev pub numbers : ℕ → ℕ → Size
numbers rows columns = record { rows = rows; columns = columns; cells = rows * columns }

-- within the limit: at most 2,048 rows and columns, and 1,048,576 cells
pub record Fits (s : Size) : Type 0 where
  pub rows : s.rows ≤ 2048
  pub columns : s.columns ≤ 2048
  pub cells : s.cells ≤ 1048576

-- some met size is past the limit, and these are its numbers, where above 2^32 − 1 cut to that
pub record Names (met : Size → Type 0) (rows columns : ℕ) : Type 0 where
  pub size : Size
  pub is_met : met size
  pub past : Fits size → ⊥
  pub rows_named : rows ≡ min size.rows (2 ^ 32 - 1)
  pub columns_named : columns ≡ min size.columns (2 ^ 32 - 1)

-- the answer is right, and every met size is within the limit; or it names a met size past the limit; or it is want of memory
abbrev pub Answers : {A : Type 0} → (Size → Type 0) → (A → Type 0) → Result A CatFault → Type 0
Answers met right (Ok x) = right x × ((s : Size) → met s → Fits s)
Answers met right (Err (TooLarge rows columns)) = Names met rows columns
Answers met right (Err NoMemory) = Unit {0}

-- a copy is equal to what is copied, and nothing but memory can be wanting
abbrev pub Copies : {A : Type 0} → A → Result A CatFault → Type 0
Copies x (Ok y) = y ≡ x
Copies x (Err e) = e ≡ NoMemory
