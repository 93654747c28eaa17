-- Rows of coefficients that are 0 or a basis element.
use Rattle.std.specs.Prelude.{◌≡◌, ℕ, ◌+◌, ◌*◌, ◌<◌, ◌==◌, ◌↔◌, IsTrue, Bool, true, false, Option, Some, None, if◌then◌else◌, List, length, slice_index, slice_index_or}
use Rattle.cap_laws.specs.Table.{TableData, ends_of, hom_of, width_of}
use Rattle.cap_lincat.specs.declared.kinds.RowKind.{RowKind}
use Rattle.cap_lincat.specs.declared.kinds.RowKind.TheVariants.{Zero, Element, Other}

-- a row is 0, or 1 at the place of b in the list and 0 elsewhere
abbrev pub IsRowKind : List ℕ → List ℕ → RowKind → Type 0
IsRowKind row hom Zero = (k : ℕ) → k < length row → slice_index row k ≡ 0
IsRowKind row hom (Element b) = (l : ℕ) × (l < length hom) × (slice_index hom l ≡ b) × ((k : ℕ) → k < length row → slice_index row k ≡ (if k == l then 1 else 0))
IsRowKind row hom Other = Unit {0}

-- f is the basis element b over the basis of Hom(x, y)
pub record IsElement (T : TableData) (x y : ℕ) (f : ℕ → ℕ) (b : ℕ) : Type 0 where
  pub inside : b < length T.basis
  pub from : (ends_of T b).0 ≡ x
  pub to : (ends_of T b).1 ≡ y
  pub at : (k : ℕ) → k < width_of T x y → f k ≡ (if slice_index (hom_of T x y) k == b then 1 else 0)

-- the coefficients f over the basis of Hom(x, y) are 0, or a basis element
abbrev pub IsKind : TableData → ℕ → ℕ → (ℕ → ℕ) → RowKind → Type 0
IsKind T x y f Zero = (k : ℕ) → k < width_of T x y → f k ≡ 0
IsKind T x y f (Element b) = IsElement T x y f b
IsKind T x y f Other = Unit {0}

-- the products of the first m pairs of basis elements are of these kinds, where they meet
pub record AreKindsSoFar (T : TableData) (kinds : List RowKind) (m : ℕ) : Type 0 where
  pub long : length kinds ≡ m
  pub at : (i j : ℕ) → i < length T.basis → j < length T.basis → i * length T.basis + j < m → (ends_of T i).1 ≡ (ends_of T j).0
      → IsKind T (ends_of T i).0 (ends_of T j).1 (λ k. slice_index (T.product i j) k) (slice_index_or kinds (i * length T.basis + j) Other)

-- what kinds tell of whether coefficients are equal
abbrev pub Agree : RowKind → RowKind → Option Bool → Type 0
Agree left right None = Unit {0}
Agree left right (Some b) = (T : TableData) (x y : ℕ) (f g : ℕ → ℕ) → IsKind T x y f left → IsKind T x y g right → IsTrue b ↔ ((k : ℕ) → k < width_of T x y → f k ≡ g k)
