-- Printed scripts (this project's own script language).
use Rattle.std.specs.Prelude.{ℕ, List}
use Rattle.cap_grammar.specs.declared.tree.Place.{Place}
use Rattle.cap_grammar.specs.declared.tree.Script.{Script}
use Rattle.cap_grammar.specs.Scripts.{Mark, symbols, places, IsScript, IsTextOf}
use Rattle.cap_symbols.specs.Marks.{AreSymbols}
use Rattle.cap_spelling.specs.Again.{EqualUpToPlaces}

-- the script has a text: it is a tree that reading gives
abbrev pub HasText : Script → Type 0
HasText s = (bs : List ℕ) × (marks : List Mark) × (end : Place) × AreSymbols bs (symbols marks) (places marks) × IsTextOf s marks end

-- The bytes are a text of the script, without empty lines and with the last LF: its own symbols spell it, wherever the text is said to end.
pub record IsText (bs : List ℕ) (s : Script) : Type 0 where
  pub marks : List Mark
  pub are : AreSymbols bs (symbols marks) (places marks)
  pub lines : IsScript s marks
  pub text : (end : Place) → IsTextOf s marks end

-- the bytes are a text of the script up to the places that it keeps
abbrev pub IsPrinted : Script → List ℕ → Type 0
IsPrinted s bs = (t : Script) × IsText bs t × EqualUpToPlaces t s
