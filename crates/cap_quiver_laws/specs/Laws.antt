-- The laws of quivers with relations, as statements.
use Rattle.std.specs.Prelude.{◌≡◌, ℕ, ◌≤◌, List, length}
use Rattle.cap_laws.specs.Table.{TableData, IsTable}
use Rattle.cap_quiver_laws.specs.Paths.{QuiverData, IsQuiver, Path, IsPathList, IsNumbering}
use Rattle.cap_quiver_laws.specs.Quotient.{PathNumbers, IsPathAlgebra, IsTwoSided, IsQuotient, IsSameTable}
use Rattle.cap_quiver_laws.specs.Ideal.{Relations, ideal_rows, ideal_table}
use Rattle.cap_quiver_laws.specs.QuiverTable.{IsQuiverTable}

-- the quotient of paths by a two-sided span is a valid table, where it keeps the limits of tables
abbrev pub QuotientIsTable : Type 0
QuotientIsTable = (n : ℕ) (A : PathNumbers) (t : ℕ → ℕ → ℕ) (bs : List ℕ) (T : TableData) → T.objects ≤ 16 → length T.basis ≤ 128 → IsPathAlgebra A → IsTwoSided T.prime n A t → IsQuotient n A t bs T → IsTable T

-- joining paths shorter than a bound is associative, with units
abbrev pub PathsJoin : Type 0
PathsJoin = (Q : QuiverData) (ps : List Path) (A : PathNumbers) → IsQuiver Q → IsPathList Q ps → IsNumbering Q ps A → IsPathAlgebra A

-- the ideal of relations is two-sided
abbrev pub IdealIsTwoSided : Type 0
IdealIsTwoSided = (p : ℕ) (A : PathNumbers) (R : Relations) (number : ℕ → ℕ → ℕ) → IsPathAlgebra A → IsTwoSided p (ideal_rows A R) A (ideal_table p A R number)

-- the table of a quiver is valid, where it keeps the limits of tables
abbrev pub QuiverTableIsTable : Type 0
QuiverTableIsTable = (p : ℕ) (Q : QuiverData) (R : Relations) (T : TableData) (paths : List (List ℕ)) → Q.objects ≤ 16 → length T.basis ≤ 128 → IsQuiver Q → IsQuiverTable p Q R T paths → IsTable T

-- a quotient has one basis and one table
abbrev pub QuotientIsOne : Type 0
QuotientIsOne = (n : ℕ) (A : PathNumbers) (t : ℕ → ℕ → ℕ) (bs cs : List ℕ) (T U : TableData) → T.prime ≡ U.prime → IsQuotient n A t bs T → IsQuotient n A t cs U → IsSameTable T U × (bs ≡ cs)

-- a quiver with relations has one table modulo a prime, and one list of basis paths
abbrev pub QuiverTableIsOne : Type 0
QuiverTableIsOne = (p : ℕ) (Q : QuiverData) (R : Relations) (T U : TableData) (ps qs : List (List ℕ)) → IsQuiverTable p Q R T ps → IsQuiverTable p Q R U qs → IsSameTable T U × (ps ≡ qs)
