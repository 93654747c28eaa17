-- Worked examples of the definitions.
use Rattle.std.proofs.Common.{◌≡◌, ℕ, List, [], ◌∷◌, pos, negsuc, true, false, Some, None, refl}
use Rattle.cap_names.specs.declared.literals.EntryLit.TheVariants as entries
use Rattle.cap_names.specs.declared.literals.ObjLit.TheVariants as objects
use Rattle.cap_grammar.specs.declared.tree.EntryTok.TheVariants as cell
use Rattle.cap_grammar.specs.declared.tree.ObjTok.TheVariants.{Parts, Dims}
use Rattle.cap_grammar.specs.declared.tree.BlockLine.{BlockLine}
use Rattle.cap_grammar.specs.declared.tree.BlockLine.TheVariants as line
use Rattle.cap_checked.specs.Checked.{entry, number, basis, object}
use Rattle.cap_checked.specs.declared.tree.CheckedObj.TheVariants as checked

-- names of one letter
abbrev a : List ℕ
a = 97 ∷ []

abbrev b : List ℕ
b = 98 ∷ []

abbrev c : List ℕ
c = 99 ∷ []

-- -5, -0 and (1 -2)
entries_have_signs : (entry (cell.Int (record { minus = true; digits = 5 })) ≡ entries.Int (negsuc 4))
    × (entry (cell.Int (record { minus = true; digits = 0 })) ≡ entries.Int (pos 0))
    × (entry (cell.Coeffs (record { minus = false; digits = 1 } ∷ record { minus = true; digits = 2 } ∷ [])) ≡ entries.Coeffs (pos 1 ∷ negsuc 1 ∷ []))
entries_have_signs = (refl, refl, refl)

-- objects a b: `[b a]` is 1 0, and c isn't there
objects_from_0 : (object false (a ∷ b ∷ []) [] (Parts (b ∷ a ∷ [])) ≡ checked.Lit (objects.Parts (1 ∷ 0 ∷ []))) × (number (a ∷ b ∷ []) c ≡ 2)
objects_from_0 = (refl, refl)

-- a table with `basis a`, `unit a = ..`, `basis b`: the basis elements alone are counted
abbrev table : List BlockLine
table = line.Basis a c c ∷ line.Unit c [] ∷ line.Basis b c c ∷ []

elements_alone : (basis table ≡ a ∷ b ∷ [])
    × (object false (c ∷ []) (basis table) (Dims (3 ∷ []) (Some (((b ∷ []), record { rows = [] }) ∷ []))) ≡ checked.Lit (objects.Dims (3 ∷ []) ((1, record { rows = [] }) ∷ [])))
elements_alone = (refl, refl)

-- a quiver with arrows a and b: the map of the path b*a is at 1 0
abbrev quiver : List BlockLine
quiver = line.Arrow a c c ∷ line.Arrow b c c ∷ []

paths_in_order : object true (c ∷ []) (basis quiver) (Dims (3 ∷ []) (Some (((b ∷ a ∷ []), record { rows = [] }) ∷ []))) ≡ checked.Paths (3 ∷ []) (((1 ∷ 0 ∷ []), record { rows = [] }) ∷ [])
paths_in_order = refl
