-- The numbers of paths, as lists.
use Rattle.std.specs.Prelude.{◌≡◌, ◌⊎◌, ℕ, ◌+◌, ◌*◌, ◌/◌, ◌%◌, ◌<◌, ◌≤◌, nat_lt, ◌&&◌, if◌then◌else◌, List, [], ◌++◌, length, slice_index, slice_index_or}
use Rattle.cap_quiver_laws.specs.Paths.{QuiverData, Path, end_of, path_of, IsJoinable}
use Rattle.cap_quiver_laws.specs.Quotient.{PathNumbers}

-- the numbers whose ends of paths and units of objects stand in lists, and whose joins in another, that of a and b at a·m + b where there are m paths
abbrev pub numbers_of : ℕ → List (ℕ × ℕ) → List ℕ → List ℕ → PathNumbers
numbers_of objects ends units joins = record {
  count = length ends;
  objects = objects;
  start = λ a. (slice_index_or ends a (0, 0)).0;
  finish = λ a. (slice_index_or ends a (0, 0)).1;
  unit = λ x. slice_index units x;
  join = λ a b. if nat_lt a (length ends) && nat_lt b (length ends) then slice_index joins (a * length ends + b) else length ends;
}

-- the lists have the right lengths, within the limits
pub record AreNumbers (objects : ℕ) (ends : List (ℕ × ℕ)) (units joins : List ℕ) : Type 0 where
  pub few_objects : objects ≤ 16
  pub few : length ends ≤ 128
  pub unit_count : length units ≡ objects
  pub join_count : length joins ≡ length ends * length ends

-- a is the number of the path P, and the length of the list where P is not in it
abbrev pub IsNumberOf : List Path → Path → ℕ → Type 0
IsNumberOf ps P a = ((a < length ps) × (path_of ps a ≡ P)) ⊎ ((a ≡ length ps) × ((b : ℕ) → b < length ps → path_of ps b ≡ P → ⊥))

-- the path a followed by the path b
abbrev pub joined_of : List Path → ℕ → ℕ → Path
joined_of ps a b = record { start = (path_of ps a).start; arrows = (path_of ps a).arrows ++ (path_of ps b).arrows }

-- c is the number of path a followed by path b where they join, and else the length of the list
abbrev pub IsJoin : QuiverData → List Path → ℕ → ℕ → ℕ → Type 0
IsJoin Q ps a b c = (IsJoinable Q ps a b × (c < length ps) × (path_of ps c ≡ joined_of ps a b)) ⊎ (¬ IsJoinable Q ps a b × (c ≡ length ps))

-- the ends of the first k paths
pub record AreEndsSoFar (Q : QuiverData) (ps : List Path) (ends : List (ℕ × ℕ)) (k : ℕ) : Type 0 where
  pub long : length ends ≡ k
  pub at : (a : ℕ) → a < k → slice_index_or ends a (0, 0) ≡ ((path_of ps a).start, end_of Q (path_of ps a).start (path_of ps a).arrows)

-- the numbers of the units of the first k objects
pub record AreUnitNumbersSoFar (ps : List Path) (units : List ℕ) (k : ℕ) : Type 0 where
  pub long : length units ≡ k
  pub at : (x : ℕ) → x < k → IsNumberOf ps (record { start = x; arrows = [] }) (slice_index units x)

-- the joins of the first k pairs of paths
pub record AreJoinsSoFar (Q : QuiverData) (ps : List Path) (joins : List ℕ) (k : ℕ) : Type 0 where
  pub long : length joins ≡ k
  pub at : (i : ℕ) → i < k → IsJoin Q ps (i / length ps) (i % length ps) (slice_index joins i)
