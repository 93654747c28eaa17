-- What a quiver answers.
use Rattle.std.specs.Prelude.{ℕ, ◌-◌, ◌<◌, ◌≤◌}
use Rattle.cap_quiver_laws.specs.Paths.{QuiverData}
use Rattle.cap_quiver_laws.specs.Ideal.{Relations, IsRelation}
use Rattle.cap_quiver_paths.specs.Data.{quiver, HasManyShort}
use Rattle.cap_quiver_paths.specs.Relations.{relations_of}
use Rattle.cap_quiver.specs.declared.quiver.Quiver.{Quiver}
use Rattle.cap_quiver.specs.declared.faults.BadQuiver.TheVariants.{BadRelation, TooManyPaths}
use Rattle.cap_quiver.specs.declared.faults.QuiverFault.{QuiverFault}
use Rattle.cap_quiver.specs.declared.faults.QuiverFault.TheVariants.{Bad, NoMemory}

-- the objects, arrows and bound of a quiver, and its relations
abbrev pub quiver_in : Quiver → QuiverData
quiver_in q = quiver q.objects q.arrows q.bound

abbrev pub relations_in : Quiver → Relations
relations_in q = relations_of q.relations

-- relation n, counted from 1, is the first whose terms are not paths with one source and one target
pub record IsFirstBad (Q : QuiverData) (R : Relations) (n : ℕ) : Type 0 where
  pub low : 1 ≤ n
  pub high : n ≤ R.count
  pub bad : ¬ IsRelation Q R (n - 1)
  pub before : (r : ℕ) → r < n - 1 → IsRelation Q R r

-- all relations are good, and more than 128 paths are shorter than the bound
pub record HasTooMany (Q : QuiverData) (R : Relations) : Type 0 where
  pub good : (r : ℕ) → r < R.count → IsRelation Q R r
  pub many : HasManyShort Q 128

-- why a quiver has no table, in this order
abbrev pub IsQuiverFault : Quiver → QuiverFault → Type 0
IsQuiverFault q (Bad (BadRelation n)) = IsFirstBad (quiver_in q) (relations_in q) n
IsQuiverFault q (Bad TooManyPaths) = HasTooMany (quiver_in q) (relations_in q)
IsQuiverFault q NoMemory = Unit {0}
