-- The limits on a quiver with relations.
use Rattle.std.specs.Prelude.{ℕ, ◌<◌, ◌≤◌, List, length, slice_index_or}
use Rattle.cap_quiver_paths.specs.Relations.{relations_of}
use Rattle.cap_quiver_paths.specs.declared.relation.Relation.{Relation}
use Rattle.cap_quiver_ideal.specs.Products.{AreResidueTerms}

-- a relation has at most 16 terms, and coefficients that are residues modulo p
abbrev pub FitsRelation : ℕ → List (ℕ × List ℕ) → Type 0
FitsRelation p terms = (length terms ≤ 16) × AreResidueTerms p terms

-- the ends of arrows are objects, the relations fit, and there are at most 16 objects, 64 arrows, 64 relations, and a bound from 1 to 16
pub record FitsQuiver (p objects : ℕ) (arrows : List (ℕ × ℕ)) (relations : List Relation) (bound : ℕ) : Type 0 where
  pub few_objects : objects ≤ 16
  pub few_arrows : length arrows ≤ 64
  pub few_relations : length relations ≤ 64
  pub low : 1 ≤ bound
  pub high : bound ≤ 16
  pub ends : (a : ℕ) → a < length arrows → ((slice_index_or arrows a (0, 0)).0 < objects) × ((slice_index_or arrows a (0, 0)).1 < objects)
  pub relations_fit : (r : ℕ) → r < length relations → FitsRelation p ((relations_of relations).terms r)
