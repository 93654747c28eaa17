-- The quotient of the span of finitely many paths by a two-sided ideal, as a multiplication table.
use Rattle.std.specs.Prelude.{◌≡◌, ◌⊎◌, ℕ, ◌+◌, ◌*◌, ◌%◌, ◌<◌, ◌≤◌, ◌==◌, if◌then◌else◌, true, List, length, slice_index}
use Rattle.std.specs.List.{Contains}
use Rattle.cap_field.specs.Residue.{is_tabled}
use Rattle.cap_matrix.specs.Grid.{total}
use Rattle.cap_matrix.specs.Reduced.{InSpan}
use Rattle.cap_laws.specs.Table.{TableData, IsRow, ends_of, hom_of, width_of}

-- a vector has one coefficient for each of m paths; path a as a vector, which is 0 where there is no such path
abbrev pub path_at : ℕ → ℕ → ℕ
path_at a q = if a == q then 1 else 0

-- v and w differ by an element of the span of the n rows of t, modulo p
pub record IsCongruent (p n m : ℕ) (t : ℕ → ℕ → ℕ) (v w : ℕ → ℕ) : Type 0 where
  pub element : ℕ → ℕ
  pub inside : InSpan p n m t element
  pub same : (q : ℕ) → q < m → v q % p ≡ (w q + element q) % p

-- path q is, up to that span, a combination of the paths before it
pub record IsDependent (p n m : ℕ) (t : ℕ → ℕ → ℕ) (q : ℕ) : Type 0 where
  pub before : ℕ → ℕ
  pub none : (l : ℕ) → q ≤ l → before l ≡ 0
  pub congruent : IsCongruent p n m t (path_at q) before

-- the paths that are not, in order
pub record IsBasis (p n m : ℕ) (t : ℕ → ℕ → ℕ) (bs : List ℕ) : Type 0 where
  pub inside : (k : ℕ) → k < length bs → slice_index bs k < m
  pub rising : (k l : ℕ) → k < l → l < length bs → slice_index bs k < slice_index bs l
  pub decided : (q : ℕ) → q < m → (Contains bs q × ¬ IsDependent p n m t q) ⊎ (¬ Contains bs q × IsDependent p n m t q)

-- v times path h, and path h times v, where join a b is the number of path a followed by b, and at least m where that is no path
abbrev pub times_path : ℕ → (ℕ → ℕ → ℕ) → (ℕ → ℕ) → ℕ → ℕ → ℕ
times_path m join v h q = total m (λ a. v a * path_at (join a h) q)

abbrev pub path_times : ℕ → (ℕ → ℕ → ℕ) → ℕ → (ℕ → ℕ) → ℕ → ℕ
path_times m join h v q = total m (λ a. v a * path_at (join h a) q)

-- the numbers of m paths, their ends, the unit of each object and how they join
pub record PathNumbers : Type 0 where
  pub count : ℕ
  pub objects : ℕ
  pub start : ℕ → ℕ
  pub finish : ℕ → ℕ
  pub unit : ℕ → ℕ
  pub join : ℕ → ℕ → ℕ

-- a joined path has the ends of its parts, joining is associative, units are units, and what is no path stays none
pub record IsPathAlgebra (A : PathNumbers) : Type 0 where
  pub ends : (a : ℕ) → a < A.count → (A.start a < A.objects) × (A.finish a < A.objects)
  pub unit_ends : (x : ℕ) → x < A.objects → (A.unit x < A.count) × (A.start (A.unit x) ≡ x) × (A.finish (A.unit x) ≡ x)
  pub join_ends : (a b : ℕ) → A.join a b < A.count → (A.start (A.join a b) ≡ A.start a) × (A.finish (A.join a b) ≡ A.finish b)
  pub assoc : (a b c : ℕ) → A.join (A.join a b) c ≡ A.join a (A.join b c)
  pub none_left : (a b : ℕ) → A.count ≤ a → A.count ≤ A.join a b
  pub none_right : (a b : ℕ) → A.count ≤ b → A.count ≤ A.join a b
  pub unit_left : (a : ℕ) → a < A.count → A.join (A.unit (A.start a)) a ≡ a
  pub unit_right : (a : ℕ) → a < A.count → A.join a (A.unit (A.finish a)) ≡ a

-- the span of the n rows of t holds the products of its elements with paths, on both sides
pub record IsTwoSided (p n : ℕ) (A : PathNumbers) (t : ℕ → ℕ → ℕ) : Type 0 where
  pub left : (h i : ℕ) → h < A.count → i < n → InSpan p n A.count t (path_times A.count A.join h (t i))
  pub right : (i h : ℕ) → i < n → h < A.count → InSpan p n A.count t (times_path A.count A.join (t i) h)

-- a row over Hom(x, y) as a combination of basis paths
abbrev pub path_vector : TableData → List ℕ → ℕ → ℕ → List ℕ → ℕ → ℕ
path_vector T bs x y row q = total (width_of T x y) (λ k. slice_index row k * path_at (slice_index bs (slice_index (hom_of T x y) k)) q)

-- two tables agree in all that is read of them: the units of objects, and the products of basis elements that meet
pub record IsSameTable (T U : TableData) : Type 0 where
  pub prime : T.prime ≡ U.prime
  pub objects : T.objects ≡ U.objects
  pub basis : T.basis ≡ U.basis
  pub units : (x : ℕ) → x < T.objects → T.unit x ≡ U.unit x
  pub products : (i j : ℕ) → i < length T.basis → j < length T.basis → (ends_of T i).1 ≡ (ends_of T j).0 → T.product i j ≡ U.product i j

-- T is the quotient by the span of the n rows of t, with the basis paths bs: units and products of basis paths stand for the rows of T
pub record IsQuotient (n : ℕ) (A : PathNumbers) (t : ℕ → ℕ → ℕ) (bs : List ℕ) (T : TableData) : Type 0 where
  pub prime : is_tabled T.prime ≡ true
  pub objects : T.objects ≡ A.objects
  pub basis : IsBasis T.prime n A.count t bs
  pub count : length T.basis ≡ length bs
  pub ends : (b : ℕ) → b < length bs → ends_of T b ≡ (A.start (slice_index bs b), A.finish (slice_index bs b))
  pub unit_rows : (x : ℕ) → x < T.objects → IsRow T x x (T.unit x)
  pub units : (x : ℕ) → x < T.objects → IsCongruent T.prime n A.count t (path_vector T bs x x (T.unit x)) (path_at (A.unit x))
  pub product_rows : (i j : ℕ) → i < length bs → j < length bs → (ends_of T i).1 ≡ (ends_of T j).0 → IsRow T (ends_of T i).0 (ends_of T j).1 (T.product i j)
  pub products : (i j : ℕ) → i < length bs → j < length bs → (ends_of T i).1 ≡ (ends_of T j).0
      → IsCongruent T.prime n A.count t (path_vector T bs (ends_of T i).0 (ends_of T j).1 (T.product i j)) (path_at (A.join (slice_index bs i) (slice_index bs j)))
