-- Relations between lists of table objects as data, and the morphisms between them.
use Rattle.std.specs.Prelude.{ℕ, List, []}
use Rattle.cap_add_laws.specs.Closure.{MorphismMatrix}
use Rattle.cap_freyd_laws.specs.declared.values.Presentation.{Presentation}
use Rattle.cap_freyd_laws.specs.declared.values.PresentationMor.{PresentationMor}
use Rattle.cap_alike.specs.Along.{Reading}
use Rattle.cap_data.specs.declared.data.ObjData.{ObjData}
use Rattle.cap_data.specs.declared.data.ObjData.TheVariants.{Relation}
use Rattle.cap_data.specs.declared.data.MorData.{MorData}
use Rattle.cap_data.specs.declared.data.MorData.TheVariants.{Entries}

-- an object is the relation between its two lists; data of other kinds are read as anything
abbrev pub read_relation : ObjData → Presentation MorphismMatrix
read_relation (Relation src tgt rho) = record { relation = record { from = src; to = tgt; entries = rho } }
read_relation _ = record { relation = record { from = []; to = []; entries = [] } }

abbrev pub write_relation : Presentation MorphismMatrix → ObjData
write_relation a = Relation a.relation.from a.relation.to a.relation.entries

-- the entries of a morphism, row by row
abbrev pub read_alpha : MorData → List (List ℕ)
read_alpha (Entries alpha) = alpha
read_alpha _ = []

-- a morphism has entries between the targets of the relations that it goes between
abbrev pub read_square : ObjData → ObjData → MorData → PresentationMor MorphismMatrix
read_square a b m =
    let from = read_relation a in
    let to = read_relation b in
    record { from = from; to = to; alpha = record { from = from.relation.to; to = to.relation.to; entries = read_alpha m } }

abbrev pub freyd_reading : Reading ObjData MorData (Presentation MorphismMatrix) (PresentationMor MorphismMatrix)
freyd_reading = record { read_object = read_relation; write_object = write_relation; read_arrow = read_square; write_arrow = λ f. Entries f.alpha.entries }
