-- Lists of table objects as data, and the matrices of combinations between them.
use Rattle.std.specs.Prelude.{ℕ, List, []}
use Rattle.cap_add_laws.specs.Closure.{MorphismMatrix}
use Rattle.cap_alike.specs.Along.{Reading}
use Rattle.cap_data.specs.declared.data.ObjData.{ObjData}
use Rattle.cap_data.specs.declared.data.ObjData.TheVariants.{Parts}
use Rattle.cap_data.specs.declared.data.MorData.{MorData}
use Rattle.cap_data.specs.declared.data.MorData.TheVariants.{Entries}

-- an object is its list; data of other kinds are read as anything
abbrev pub read_list : ObjData → List ℕ
read_list (Parts parts) = parts
read_list _ = []

-- the entries of a morphism, row by row
abbrev pub read_entries : MorData → List (List ℕ)
read_entries (Entries entries) = entries
read_entries _ = []

abbrev pub closure_reading : Reading ObjData MorData (List ℕ) MorphismMatrix
closure_reading = record {
  read_object = read_list;
  write_object = λ a. Parts a;
  read_arrow = λ a b m. record { from = read_list a; to = read_list b; entries = read_entries m };
  write_arrow = λ f. Entries f.entries;
}
