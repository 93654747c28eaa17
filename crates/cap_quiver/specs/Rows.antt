-- What the loops over basis paths have listed.
use Rattle.std.specs.Prelude.{◌≡◌, ◌≢◌, ℕ, ◌+◌, ◌*◌, ◌/◌, ◌%◌, ◌<◌, nat_lt, if◌then◌else◌, List, [], length, slice_index, slice_index_or}
use Rattle.cap_laws.specs.Table.{TableData, row_below}
use Rattle.cap_matrix.specs.Grid.{Grid, entry}
use Rattle.cap_quiver_laws.specs.Paths.{Path, path_of}
use Rattle.cap_quiver_laws.specs.Quotient.{PathNumbers, IsQuotient}
use Rattle.cap_quiver_laws.specs.Ideal.{Relations, ideal_rows, ideal_table}

-- row f is not 0 everywhere
abbrev pub HasEntry : Grid → ℕ → Type 0
HasEntry g f = (j : ℕ) × (j < g.column_count) × (entry g.entries f j ≢ 0)

-- the ends of the first k basis paths
pub record AreEndsOf (A : PathNumbers) (bs : List ℕ) (ends : List (ℕ × ℕ)) (k : ℕ) : Type 0 where
  pub long : length ends ≡ k
  pub at : (b : ℕ) → b < k → slice_index_or ends b (0, 0) ≡ (A.start (slice_index bs b), A.finish (slice_index bs b))

-- the arrows of the first k basis paths
pub record AreArrowsOf (ps : List Path) (bs : List ℕ) (arrows : List (List ℕ)) (k : ℕ) : Type 0 where
  pub long : length arrows ≡ k
  pub at : (b : ℕ) → b < k → slice_index_or arrows b [] ≡ (path_of ps (slice_index bs b)).arrows

-- the lists hold numbers below n
abbrev pub AreInside : ℕ → List (List ℕ) → Type 0
AreInside n homs = (i l : ℕ) → i < length homs → l < length (slice_index_or homs i []) → slice_index (slice_index_or homs i []) l < n

-- the coordinates of path q of m at the basis elements of a Hom, where row b of c has those at basis element b; 0 where q is no path
abbrev pub class_of : ℕ → (ℕ → ℕ → ℕ) → List ℕ → ℕ → List ℕ
class_of m c hom q = row_below (length hom) (λ l. if nat_lt q m then c (slice_index hom l) q else 0)

-- the coordinates of path a followed by path b, where the basis of Hom(x, y) stands at x·k + y for k objects
abbrev pub product_class_of : PathNumbers → ℕ → (ℕ → ℕ → ℕ) → List (List ℕ) → ℕ → ℕ → List ℕ
product_class_of A m c homs a b = class_of m c (slice_index_or homs (A.start a * A.objects + A.finish b) []) (A.join a b)

-- the units of the first k objects
pub record AreUnitRows (A : PathNumbers) (m : ℕ) (c : ℕ → ℕ → ℕ) (homs units : List (List ℕ)) (k : ℕ) : Type 0 where
  pub long : length units ≡ k
  pub at : (x : ℕ) → x < k → slice_index_or units x [] ≡ class_of m c (slice_index_or homs (x * A.objects + x) []) (A.unit x)

-- the products of the first k pairs of basis paths
pub record AreProductRows (A : PathNumbers) (m : ℕ) (c : ℕ → ℕ → ℕ) (homs : List (List ℕ)) (bs : List ℕ) (rows : List (List ℕ)) (k : ℕ) : Type 0 where
  pub long : length rows ≡ k
  pub at : (i : ℕ) → i < k → slice_index_or rows i [] ≡ product_class_of A m c homs (slice_index bs (i / length bs)) (slice_index bs (i % length bs))

-- T is the quotient, modulo p, of paths by the ideal of relations, with the basis paths bs
pub record IsQuotientOf (p : ℕ) (A : PathNumbers) (R : Relations) (number : ℕ → ℕ → ℕ) (bs : List ℕ) (T : TableData) : Type 0 where
  pub prime : T.prime ≡ p
  pub quotient : IsQuotient (ideal_rows A R) A (ideal_table T.prime A R number) bs T
