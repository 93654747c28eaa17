-- The marks of a block's lines, of all of them or up to a fault (this project's own).
use Rattle.std.specs.Prelude.{◌≡◌, List, ◌++◌, Bool, true, false, is_some}
use Rattle.std.specs.List.{list_any}
use Rattle.cap_grammar.specs.declared.tree.Block.{Block}
use Rattle.cap_grammar.specs.declared.tree.Place.{Place}
use Rattle.cap_block_faults.specs.Marks.{Mark, faults, first}
use Rattle.cap_block_faults.specs.Blocks.{lines_marks}

-- all the marks stand behind the old ones; or only a front of them, and a fault is among those
abbrev pub AreLines : Block → List Mark → List Mark → Bool → Type 0
AreLines b old new true = new ≡ old ++ lines_marks b
AreLines b old new false = (list_any is_some new ≡ true) × ((rest : List Mark) × (old ++ lines_marks b ≡ new ++ rest))

-- the same first fault, at all places
abbrev pub HaveSameFirst : List Mark → List Mark → Type 0
HaveSameFirst some all = (places : List Place) → first (faults places some) ≡ first (faults places all)
