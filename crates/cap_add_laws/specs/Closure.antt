-- The additive closure of a table: lists of its objects, and matrices of combinations.
use Rattle.std.specs.Prelude.{◌≡◌, ℕ, zero, suc, ◌+◌, ◌*◌, ◌/◌, ◌%◌, ◌<◌, ◌==◌, if◌then◌else◌, List, [], ◌∷◌, ◌++◌, map, length, slice_index, slice_index_or, take, drop}
use Rattle.std.specs.List.{range_with_len}
use Rattle.cap_laws.specs.Linear.{CategoryData}
use Rattle.cap_laws.specs.Table.{TableData, Combination, IsRow, width_of, table_data}
use Rattle.cap_laws.specs.declared.values.Sum.{Sum}
use Rattle.cap_homlaw.specs.Hom.{HomData}

-- the sum of F 0, .., F (n - 1), morphisms from a to b
abbrev pub sum_below : {Obj Mor : Type 0} → CategoryData Obj Mor → Obj → Obj → ℕ → (ℕ → Mor) → Mor
sum_below C a b zero F = C.zero a b
sum_below C a b (suc n) F = C.add (sum_below C a b n F) (F n)

-- a matrix of combinations: the coefficients of entry (i, j), from the i-th part of the source to the j-th of the target, row by row
pub record MorphismMatrix : Type 0 where
  pub from : List ℕ
  pub to : List ℕ
  pub entries : List (List ℕ)

-- entry (i, j)
abbrev pub entry_of : MorphismMatrix → ℕ → ℕ → Combination
entry_of f i j = record { from = slice_index f.from i; to = slice_index f.to j; coefficients = slice_index_or f.entries (i * length f.to + j) [] }

-- the matrix from a to b whose entries a formula gives
abbrev pub morphism_by : List ℕ → List ℕ → (ℕ → ℕ → Combination) → MorphismMatrix
morphism_by a b F = record { from = a; to = b; entries = map (λ k. (F (k / length b) (k % length b)).coefficients) (range_with_len 0 (length a * length b)) }

-- a list of objects of the table
pub record AreObjects (T : TableData) (a : List ℕ) : Type 0 where
  pub each : (i : ℕ) → i < length a → slice_index a i < T.objects

-- a matrix of combinations between two lists of objects
pub record IsMorphismMatrix (T : TableData) (f : MorphismMatrix) : Type 0 where
  pub from : AreObjects T f.from
  pub to : AreObjects T f.to
  pub many : length f.entries ≡ length f.from * length f.to
  pub rows : (i j : ℕ) → i < length f.from → j < length f.to → IsRow T (slice_index f.from i) (slice_index f.to j) (slice_index_or f.entries (i * length f.to + j) [])

-- units at (r, c), (r + 1, c + 1) and so on, and zeros elsewhere; one of r and c is 0
abbrev pub diagonal_of : TableData → List ℕ → List ℕ → ℕ → ℕ → MorphismMatrix
diagonal_of T a b r c = morphism_by a b (λ i j. if i + c == j + r then (table_data T).identity (slice_index a i) else (table_data T).zero (slice_index a i) (slice_index b j))

-- the additive closure; f·g is the matrix product, and congruence is equality
abbrev pub closure_data : TableData → CategoryData (List ℕ) MorphismMatrix
closure_data T =
    let K = table_data T in
    record {
      prime = T.prime;
      is_object = λ a. AreObjects T a;
      is_morphism = λ f. IsMorphismMatrix T f;
      source = λ f. f.from;
      target = λ f. f.to;
      identity = λ a. diagonal_of T a a 0 0;
      compose = λ f g. morphism_by f.from g.to (λ i k. sum_below K (slice_index f.from i) (slice_index g.to k) (length f.to) (λ j. K.compose (entry_of f i j) (entry_of g j k)));
      congruent = λ f g. f ≡ g;
      zero = λ a b. morphism_by a b (λ i j. K.zero (slice_index a i) (slice_index b j));
      add = λ f g. morphism_by f.from f.to (λ i j. K.add (entry_of f i j) (entry_of g i j));
      scale = λ n f. morphism_by f.from f.to (λ i j. K.scale n (entry_of f i j));
    }

-- the direct sum of a and b: the list a and then b
abbrev pub closure_sum : TableData → List ℕ → List ℕ → Sum MorphismMatrix
closure_sum T a b = record {
  i1 = diagonal_of T a (a ++ b) 0 0;
  i2 = diagonal_of T b (a ++ b) 0 (length a);
  p1 = diagonal_of T (a ++ b) a 0 0;
  p2 = diagonal_of T (a ++ b) b (length a) 0;
}

-- how many coefficients the entries of a matrix from a to b have, row by row
abbrev pub widths_of : TableData → List ℕ → List ℕ → List ℕ
widths_of T a b = map (λ k. width_of T (slice_index a (k / length b)) (slice_index b (k % length b))) (range_with_len 0 (length a * length b))

-- the sum of a list of numbers
abbrev pub sum_list : List ℕ → ℕ
sum_list [] = 0
sum_list (w ∷ ws) = w + sum_list ws

-- lists one after another
abbrev pub joined : List (List ℕ) → List ℕ
joined [] = []
joined (x ∷ xs) = x ++ joined xs

-- a list cut into stretches of the given lengths
abbrev pub cut_by : List ℕ → List ℕ → List (List ℕ)
cut_by [] row = []
cut_by (w ∷ ws) row = take w row ∷ cut_by ws (drop w row)

-- its homomorphism structure: the coefficients of all entries, row by row; the lists of one object are the generators
abbrev pub closure_hom : TableData → HomData (List ℕ) MorphismMatrix
closure_hom T = record {
  dim = λ a b. sum_list (widths_of T a b);
  nu = λ f. joined f.entries;
  back = λ a b row. record { from = a; to = b; entries = cut_by (widths_of T a b) row };
  generators = T.objects;
  generator = λ n. n ∷ [];
}
