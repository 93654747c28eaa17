-- The numbers of the terms of relations, as lists.
use Rattle.std.specs.Prelude.{◌≡◌, ◌⊎◌, ℕ, ◌<◌, ◌≤◌, List, [], length, slice_index, slice_index_or}
use Rattle.std.specs.List.{Contains}
use Rattle.cap_quiver_laws.specs.Paths.{QuiverData, Path, path_of}
use Rattle.cap_quiver_laws.specs.Ideal.{IsTermPath}

-- the list has each term that is shorter than the bound
abbrev pub HasShortTerms : QuiverData → List Path → Type 0
HasShortTerms Q ps = (x y : ℕ) (arrows : List ℕ) → IsTermPath Q x y arrows → length arrows < Q.bound → Contains ps (record { start = x; arrows = arrows })

-- n is the number of the path with these arrows, and the length of the list where they are not shorter than the bound
abbrev pub IsArrowsNumber : QuiverData → List Path → List ℕ → ℕ → Type 0
IsArrowsNumber Q ps arrows n = ((n < length ps) × ((path_of ps n).arrows ≡ arrows)) ⊎ ((Q.bound ≤ length arrows) × (n ≡ length ps))

-- the number of term k of relation r stands at k in list r
abbrev pub number_in : List (List ℕ) → ℕ → ℕ → ℕ
number_in numbers r k = slice_index (slice_index_or numbers r []) k

-- the numbers of the first k terms
pub record AreTermNumbersSoFar (Q : QuiverData) (ps : List Path) (terms : List (ℕ × List ℕ)) (numbers : List ℕ) (k : ℕ) : Type 0 where
  pub long : length numbers ≡ k
  pub at : (i : ℕ) → i < k → IsArrowsNumber Q ps (slice_index_or terms i (0, [])).1 (slice_index numbers i)

-- the numbers of the terms of the first k relations
pub record AreAllNumbersSoFar (Q : QuiverData) (ps : List Path) (relations : ℕ → List (ℕ × List ℕ)) (numbers : List (List ℕ)) (k : ℕ) : Type 0 where
  pub long : length numbers ≡ k
  pub at : (r : ℕ) → r < k → AreTermNumbersSoFar Q ps (relations r) (slice_index_or numbers r []) (length (relations r))
