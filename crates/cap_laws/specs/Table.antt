-- Multiplication tables: a finite linear category, given by a basis of the morphisms between each two objects.
use Rattle.std.specs.Prelude.{◌≡◌, ℕ, zero, suc, ◌+◌, ◌*◌, ◌%◌, ◌<◌, ◌≤◌, ◌==◌, ◌&&◌, List, map, filter, length, slice_index, slice_index_or, if◌then◌else◌}
use Rattle.std.specs.List.{range_with_len}
use Rattle.cap_laws.specs.Linear.{CategoryData, IsLinear}

-- f 0 + .. + f (n - 1)
abbrev pub total_below : ℕ → (ℕ → ℕ) → ℕ
total_below zero f = 0
total_below (suc n) f = total_below n f + f n

-- the numbers f 0, .., f (n - 1)
abbrev pub row_below : ℕ → (ℕ → ℕ) → List ℕ
row_below n f = map f (range_with_len 0 n)

-- what a table is made of: the prime, the number of objects, the ends of each basis element, and the rows of coefficients of the units and of the products
pub record TableData : Type 0 where
  pub prime : ℕ
  pub objects : ℕ
  pub basis : List (ℕ × ℕ)
  pub unit : ℕ → List ℕ
  pub product : ℕ → ℕ → List ℕ

-- the ends of a basis element
abbrev pub ends_of : TableData → ℕ → ℕ × ℕ
ends_of T b = slice_index_or T.basis b (0, 0)

-- the basis of Hom(x, y): the basis elements from x to y, in order
abbrev pub hom_of : TableData → ℕ → ℕ → List ℕ
hom_of T x y = filter (λ b. ((ends_of T b).0 == x) && ((ends_of T b).1 == y)) (range_with_len 0 (length T.basis))

-- the number of them
abbrev pub width_of : TableData → ℕ → ℕ → ℕ
width_of T x y = length (hom_of T x y)

-- a morphism is a combination of the basis elements between two objects: its coefficients in order
pub record Combination : Type 0 where
  pub from : ℕ
  pub to : ℕ
  pub coefficients : List ℕ

-- as many residues as the basis of Hom(x, y) has elements
pub record IsRow (T : TableData) (x y : ℕ) (row : List ℕ) : Type 0 where
  pub long : length row ≡ width_of T x y
  pub residues : (k : ℕ) → k < length row → slice_index row k < T.prime

-- a combination of basis elements between two objects of the table
pub record IsCombination (T : TableData) (f : Combination) : Type 0 where
  pub from : f.from < T.objects
  pub to : f.to < T.objects
  pub row : IsRow T f.from f.to f.coefficients

-- the basis element b as a combination: 1 at its own place, and 0 elsewhere
abbrev pub element_of : TableData → ℕ → Combination
element_of T b = record {
  from = (ends_of T b).0;
  to = (ends_of T b).1;
  coefficients = row_below (width_of T (ends_of T b).0 (ends_of T b).1) (λ k. if slice_index (hom_of T (ends_of T b).0 (ends_of T b).1) k == b then 1 else 0);
}

-- f·g, extended linearly: the sum of the products of the basis elements of f and of g, each times its two coefficients
abbrev pub composed_of : TableData → Combination → Combination → Combination
composed_of T f g =
    let first = hom_of T f.from f.to in
    let second = hom_of T g.from g.to in
    record {
      from = f.from;
      to = g.to;
      coefficients = row_below (width_of T f.from g.to) (λ k.
          total_below (length first) (λ i. total_below (length second) (λ j.
          slice_index f.coefficients i * slice_index g.coefficients j * slice_index (T.product (slice_index first i) (slice_index second j)) k))
          % T.prime);
    }

-- the category of all combinations; congruence is equality
abbrev pub table_data : TableData → CategoryData ℕ Combination
table_data T = record {
  prime = T.prime;
  is_object = λ x. x < T.objects;
  is_morphism = λ f. IsCombination T f;
  source = λ f. f.from;
  target = λ f. f.to;
  identity = λ x. record { from = x; to = x; coefficients = T.unit x };
  compose = λ f g. composed_of T f g;
  congruent = λ f g. f ≡ g;
  zero = λ x y. record { from = x; to = y; coefficients = row_below (width_of T x y) (λ k. 0) };
  add = λ f g. record { from = f.from; to = f.to; coefficients = row_below (width_of T f.from f.to) (λ k. (slice_index f.coefficients k + slice_index g.coefficients k) % T.prime) };
  scale = λ n f. record { from = f.from; to = f.to; coefficients = row_below (width_of T f.from f.to) (λ k. n * slice_index f.coefficients k % T.prime) };
}

-- a valid table: at most 16 objects and 128 basis elements, each between two objects; products of basis elements that meet are rows; and the laws of a linear category hold for all combinations
pub record IsTable (T : TableData) : Type 0 where
  pub few_objects : T.objects ≤ 16
  pub few_elements : length T.basis ≤ 128
  pub ends : (b : ℕ) → b < length T.basis → ((ends_of T b).0 < T.objects) × ((ends_of T b).1 < T.objects)
  pub products : (i j : ℕ) → i < length T.basis → j < length T.basis → (ends_of T i).1 ≡ (ends_of T j).0 → IsRow T (ends_of T i).0 (ends_of T j).1 (T.product i j)
  pub linear : IsLinear (table_data T)

-- the composite of two basis elements that meet is the product that the table tells
pub record BasisProducts (T : TableData) : Type 0 where
  pub law : (i j : ℕ) → i < length T.basis → j < length T.basis → (ends_of T i).1 ≡ (ends_of T j).0
      → composed_of T (element_of T i) (element_of T j) ≡ record { from = (ends_of T i).0; to = (ends_of T j).1; coefficients = T.product i j }
