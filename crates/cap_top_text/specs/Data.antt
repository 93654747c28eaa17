-- How data are written: dimensions and matrices. Data of the kinds that are not built have no text yet.
use Rattle.std.specs.Prelude.{ℕ, ◌==◌, if◌then◌else◌, List, [], ◌∷◌, ◌++◌, map, codes}
use Rattle.std.specs.List.{flat_map}
use Rattle.std.specs.Fmt.{decimal}
use Rattle.cap_matrix.specs.Grid.{Grid}
use Rattle.cap_data.specs.declared.data.ObjData.{ObjData}
use Rattle.cap_data.specs.declared.data.ObjData.TheVariants.{Dim}
use Rattle.cap_data.specs.declared.data.MorData.{MorData}
use Rattle.cap_data.specs.declared.data.MorData.TheVariants.{Mat}

-- pieces with a separator between each two
abbrev pub joined : List ℕ → List (List ℕ) → List ℕ
joined separator [] = []
joined separator (piece ∷ pieces) = piece ++ flat_map (λ next. separator ++ next) pieces

-- a row: its entries with a blank between
abbrev pub row_text : List ℕ → List ℕ
row_text row = joined (codes " ") (map decimal row)

-- a matrix: its rows in brackets, with a semicolon and a blank between, and nothing in them where there is no entry
abbrev pub matrix_text : Grid → List ℕ
matrix_text g = codes "[" ++ (if g.column_count == 0 then [] else joined (codes "; ") (map row_text g.entries)) ++ codes "]"

-- the data of an object and of a morphism
abbrev pub object_text : ObjData → List ℕ
object_text (Dim n) = decimal n
object_text _ = []

abbrev pub morphism_text : MorData → List ℕ
morphism_text (Mat m) = matrix_text m
morphism_text _ = []
