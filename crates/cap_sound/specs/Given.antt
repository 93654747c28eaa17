-- Scripts that stand in some text (this project's own script language).
use Rattle.std.specs.Prelude.{ℕ, List}
use Rattle.cap_grammar.specs.declared.tree.Script.{Script}
use Rattle.cap_script.specs.Scripts.{IsParsed}

-- some bytes are a text of the script, which keeps the places of its tokens there
abbrev pub IsGiven : Script → Type 0
IsGiven s = (bs : List ℕ) × IsParsed bs s
