-- How objects, morphisms, other values and refusals are written behind the objects that they mention.
use Rattle.std.specs.Prelude.{ℕ, true, false, if◌then◌else◌, List, [], ◌∷◌, ◌++◌, map, codes, Option, Some, None, slice_index_or}
use Rattle.std.specs.List.{flat_map}
use Rattle.std.specs.Fmt.{decimal}
use Rattle.cap_names.specs.declared.identifiers.Handle.{Handle}
use Rattle.cap_names.specs.declared.identifiers.OpId.{OpId}
use Rattle.cap_names.specs.Operations.{operation_names}
use Rattle.cap_ops.specs.declared.arrows.Arrow.{Arrow}
use Rattle.cap_ops.specs.Told.{told_in}
use Rattle.cap_data.specs.declared.data.ObjData.{ObjData}
use Rattle.cap_data.specs.declared.data.MorData.{MorData}
use Rattle.cap_report.specs.declared.lines.LineAnswer.{LineAnswer}
use Rattle.cap_report.specs.declared.lines.LineAnswer.TheVariants as line
use Rattle.cap_report.specs.declared.lines.LineRefusal.{LineRefusal}
use Rattle.cap_report.specs.declared.lines.LineRefusal.TheVariants as refusal
use Rattle.cap_top_text.specs.declared.home.Home.{Home}
use Rattle.cap_top_text.specs.Data.{joined, object_text, morphism_text}
use Rattle.cap_top_text.specs.Numbers.{Seen, has_seen, with_seen, number_of}

-- the name of an operation; a number that is none's has no name
unfoldable pub operation_text : OpId → List ℕ
operation_text op = slice_index_or ([] ∷ operation_names) op.0 []

-- the ends of a morphism, and the objects that an answer mentions, in order
abbrev pub ends_of : Arrow MorData → List Handle
ends_of f = f.src ∷ f.tgt ∷ []

abbrev pub refusal_mentions : LineRefusal → List Handle
refusal_mentions (refusal.Mismatch m) = m.left ∷ m.right ∷ []
refusal_mentions (refusal.NameTaken h) = h ∷ []
refusal_mentions _ = []

abbrev pub mentions : LineAnswer MorData → List Handle
mentions (line.Object h) = h ∷ []
mentions (line.Morphism f) = ends_of f
mentions (line.Tuple fs) = flat_map ends_of fs
mentions (line.Refused r) = refusal_mentions r
mentions _ = []

abbrev pub object_or_nothing : Option ObjData → List ℕ
object_or_nothing None = []
object_or_nothing (Some x) = object_text x

module _ (C : Home) where
  -- C#n
  abbrev pub handle_text : Seen → Handle → List ℕ
  handle_text seen h = C.name ++ codes "#" ++ decimal (number_of seen C.number h)

  -- C#n: DATA, for an object that appears for the first time
  abbrev pub new_object : List ObjData → Seen → Handle → List ℕ
  new_object objects seen h = if has_seen seen C.number h then [] else handle_text (with_seen seen C.number h) h ++ codes ": " ++ object_or_nothing (told_in objects h) ++ codes "\n"

  -- objects that are mentioned, in order: their lines, and what has been seen behind them
  abbrev pub new_objects : List ObjData → Seen → List Handle → List ℕ
  new_objects objects seen [] = []
  new_objects objects seen (h ∷ hs) = new_object objects seen h ++ new_objects objects (with_seen seen C.number h) hs

  abbrev pub seen_behind : Seen → List Handle → Seen
  seen_behind seen [] = seen
  seen_behind seen (h ∷ hs) = seen_behind (with_seen seen C.number h) hs

  module _ (seen : Seen) where
    -- C#s -> C#t DATA
    abbrev pub arrow_text : Arrow MorData → List ℕ
    arrow_text f = handle_text seen f.src ++ codes " -> " ++ handle_text seen f.tgt ++ codes " " ++ morphism_text f.value

    -- a refusal, behind `!`
    abbrev pub refusal_text : LineRefusal → List ℕ
    refusal_text (refusal.Lacks name) = codes "Lacks " ++ name
    refusal_text (refusal.Mismatch m) = codes "Mismatch " ++ decimal m.place ++ codes " " ++ handle_text seen m.left ++ codes " " ++ handle_text seen m.right
    refusal_text refusal.NotFinal = codes "NotFinal"
    refusal_text (refusal.AlreadyFinal at) = codes "AlreadyFinal " ++ decimal at
    refusal_text (refusal.NotOffered op) = codes "NotOffered " ++ operation_text op
    refusal_text (refusal.Twice weight) = codes "Twice " ++ decimal weight
    refusal_text (refusal.NameTaken h) = codes "NameTaken " ++ handle_text seen h
    refusal_text (refusal.Missing op) = codes "Missing " ++ operation_text op
    refusal_text (refusal.TooLarge t) = codes "TooLarge " ++ decimal t.rows ++ codes " " ++ decimal t.cols
    refusal_text (refusal.Shape part) = codes "Shape " ++ decimal part
    refusal_text (refusal.Full entries cells) = codes "Full " ++ decimal entries ++ codes " " ++ decimal cells

    -- a value, behind `=`
    abbrev pub value_text : LineAnswer MorData → List ℕ
    value_text (line.Object h) = handle_text seen h
    value_text (line.Morphism f) = arrow_text f
    value_text (line.Tuple fs) = joined (codes " | ") (map arrow_text fs)
    value_text (line.Truth true) = codes "true"
    value_text (line.Truth false) = codes "false"
    value_text line.Nothing = codes "none"
    value_text _ = []
