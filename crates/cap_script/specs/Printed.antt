-- Printed scripts (this project's own script language).
use Rattle.std.specs.Prelude.{ℕ, List}
use Rattle.cap_grammar.specs.declared.tree.Script.{Script}
use Rattle.cap_spelling.specs.Again.{EqualUpToPlaces}
use Rattle.cap_script.specs.Scripts.{IsParsed}

-- the bytes are a text of a script that equals this one up to the places that it keeps
abbrev pub IsPrintedAgain : Script → List ℕ → Type 0
IsPrintedAgain s bs = (t : Script) × IsParsed bs t × EqualUpToPlaces t s
