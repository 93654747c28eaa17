-- Relations between paths, as lists of terms.
use Rattle.std.specs.Prelude.{ℕ, ◌<◌, List, [], length, slice_index_or}
use Rattle.cap_quiver_laws.specs.Paths.{QuiverData}
use Rattle.cap_quiver_laws.specs.Ideal.{Relations, IsTermPath}
use Rattle.cap_quiver_paths.specs.declared.relation.Relation.{Relation}

-- the terms of the relations of a list
abbrev pub relations_of : List Relation → Relations
relations_of rs = record { count = length rs; terms = λ r. (slice_index_or rs r (record { terms = [] })).terms }

-- the terms are paths of at least one arrow from x to y
abbrev pub AreTerms : QuiverData → List (ℕ × List ℕ) → ℕ → ℕ → Type 0
AreTerms Q terms x y = (k : ℕ) → k < length terms → IsTermPath Q x y (slice_index_or terms k (0, [])).1
