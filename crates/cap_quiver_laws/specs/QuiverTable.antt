-- The table of a quiver with a bound and relations.
use Rattle.std.specs.Prelude.{◌≡◌, ℕ, ◌<◌, List, length, slice_index, slice_index_or, []}
use Rattle.cap_laws.specs.Table.{TableData}
use Rattle.cap_quiver_laws.specs.Paths.{QuiverData, Path, path_of, IsPathList, IsNumbering}
use Rattle.cap_quiver_laws.specs.Quotient.{PathNumbers, IsQuotient}
use Rattle.cap_quiver_laws.specs.Ideal.{Relations, IsRelation, IsTermNumbers, ideal_rows, ideal_table}

-- T is, modulo the prime p, the quotient of the paths shorter than the bound by the ideal of the relations, and its basis paths have these arrows; the terms of each relation are paths with one source and one target
pub record IsQuiverTable (p : ℕ) (Q : QuiverData) (R : Relations) (T : TableData) (basis_paths : List (List ℕ)) : Type 0 where
  pub prime : T.prime ≡ p
  pub relations : (r : ℕ) → r < R.count → IsRelation Q R r
  pub paths : List Path
  pub all : IsPathList Q paths
  pub numbers : PathNumbers
  pub numbered : IsNumbering Q paths numbers
  pub term : ℕ → ℕ → ℕ
  pub terms : IsTermNumbers Q paths R term
  pub basis : List ℕ
  pub quotient : IsQuotient (ideal_rows numbers R) numbers (ideal_table T.prime numbers R term) basis T
  pub count : length basis_paths ≡ length basis
  pub arrows : (b : ℕ) → b < length basis → slice_index_or basis_paths b [] ≡ (path_of paths (slice_index basis b)).arrows
