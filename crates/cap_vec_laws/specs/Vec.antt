-- The category of matrices modulo a prime: objects are dimensions, of any size, and a morphism from n to m is a matrix of n rows and m columns.
use Rattle.std.specs.Prelude.{◌≡◌, ℕ, ◌-◌, Option, Some, None}
use Rattle.cap_matrix.specs.Grid.{Grid, IsMatrix, product_of, sum_of, scaled_of, zero_of, unit_of, stacked_of, block_of}
use Rattle.cap_laws.specs.Linear.{CategoryData}

-- f·g is first f, then g: the matrix product; two morphisms are congruent where they are equal
abbrev pub vec_data : ℕ → CategoryData ℕ Grid
vec_data p = record {
  prime = p;
  is_object = λ n. Unit {0};
  is_morphism = λ g. IsMatrix p g;
  source = λ g. g.row_count;
  target = λ g. g.column_count;
  identity = λ n. unit_of p n;
  compose = λ f g. product_of f g;
  congruent = λ f g. f ≡ g;
  zero = λ n m. zero_of p n m;
  add = λ f g. sum_of f g;
  scale = λ n f. scaled_of n f;
}

-- the columns of n rows that stand below the first a places, and the b places after them
abbrev pub first_columns : ℕ → Grid → Grid
first_columns a n = block_of 0 0 n.row_count a n

abbrev pub last_columns : ℕ → ℕ → Grid → Grid
last_columns a b n = block_of 0 a n.row_count b n

-- f above −g
abbrev pub stacked_difference : Grid → Grid → Grid
stacked_difference f g = stacked_of f (scaled_of (f.prime - 1) g)

-- a matrix that is answered, transposed
abbrev pub map_option : (Grid → Grid) → Option Grid → Option Grid
map_option f None = None
map_option f (Some x) = Some (f x)
