-- How many cells data count: all residues, and the parts of lists of table objects. Dimensions count nothing.
use Rattle.std.specs.Prelude.{ℕ, ◌+◌, length}
use Rattle.cap_data.specs.Cells.{coefficients, cells_of, cells_of_all}
use Rattle.cap_data.specs.declared.data.ObjData.{ObjData}
use Rattle.cap_data.specs.declared.data.ObjData.TheVariants.{Dim, Parts, Relation, Dims}
use Rattle.cap_data.specs.declared.data.MorData.{MorData}
use Rattle.cap_data.specs.declared.data.MorData.TheVariants as mor

abbrev pub cells_in_object : ObjData → ℕ
cells_in_object (Dim n) = 0
cells_in_object (Parts parts) = length parts
cells_in_object (Relation src tgt rho) = length src + length tgt + coefficients rho
cells_in_object (Dims dims maps) = cells_of_all maps

abbrev pub cells_in_morphism : MorData → ℕ
cells_in_morphism (mor.Mat g) = cells_of g
cells_in_morphism (mor.Entries entries) = coefficients entries
cells_in_morphism (mor.Parts parts) = cells_of_all parts
