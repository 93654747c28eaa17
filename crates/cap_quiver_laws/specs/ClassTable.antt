-- What the code makes: the table whose rows are the coordinates of paths.
use Rattle.std.specs.Prelude.{◌≡◌, ◌≢◌, ℕ, ◌<◌, true, nat_lt, if◌then◌else◌, List, length, slice_index}
use Rattle.cap_field.specs.Residue.{is_tabled}
use Rattle.cap_laws.specs.Table.{TableData, row_below, ends_of, hom_of, width_of}
use Rattle.cap_matrix.specs.Reduced.{InSpan}
use Rattle.cap_quiver_laws.specs.Quotient.{PathNumbers}

-- the coordinates of path q of m over the basis of Hom(x, y), where row b of c has those at basis element b; 0 where q is no path
abbrev pub class_row : TableData → ℕ → (ℕ → ℕ → ℕ) → ℕ → ℕ → ℕ → List ℕ
class_row T m c x y q = row_below (width_of T x y) (λ l. if nat_lt q m then c (slice_index (hom_of T x y) l) q else 0)

pub record IsClassTable (A : PathNumbers) (c : ℕ → ℕ → ℕ) (bs : List ℕ) (T : TableData) : Type 0 where
  pub prime : is_tabled T.prime ≡ true
  pub objects : T.objects ≡ A.objects
  pub count : length T.basis ≡ length bs
  pub ends : (b : ℕ) → b < length bs → ends_of T b ≡ (A.start (slice_index bs b), A.finish (slice_index bs b))
  pub units : (x : ℕ) → x < T.objects → T.unit x ≡ class_row T A.count c x x (A.unit x)
  pub products : (i j : ℕ) → i < length bs → j < length bs → (ends_of T i).1 ≡ (ends_of T j).0
      → T.product i j ≡ class_row T A.count c (ends_of T i).0 (ends_of T j).1 (A.join (slice_index bs i) (slice_index bs j))

-- the column of the first entry of each row that is not 0
pub record IsLeads (c : ℕ → ℕ → ℕ) (m : ℕ) (bs : List ℕ) : Type 0 where
  pub inside : (f : ℕ) → f < length bs → slice_index bs f < m
  pub before : (f j : ℕ) → f < length bs → j < slice_index bs f → c f j ≡ 0
  pub some : (f : ℕ) → f < length bs → c f (slice_index bs f) ≢ 0

-- the rows of each table are in the span of the other
pub record SpanTheSame (p n r m : ℕ) (t u : ℕ → ℕ → ℕ) : Type 0 where
  pub there : (i : ℕ) → i < n → InSpan p r m u (t i)
  pub back : (i : ℕ) → i < r → InSpan p n m t (u i)
