-- The laws of scripts and faults of texts.
use Rattle.std.specs.Prelude.{◌≡◌, ◌⊎◌, ℕ, List}
use Rattle.cap_names.specs.declared.reasons.BadScript.{BadScript}
use Rattle.cap_grammar.specs.declared.tree.Script.{Script}
use Rattle.cap_script.specs.declared.fault.ScriptFault.TheVariants as parsing
use Rattle.cap_script.specs.Scripts.{IsParsed, IsCause}

-- the text is one of some script
abbrev pub HasScript : List ℕ → Type 0
HasScript bs = (s : Script) × IsParsed bs s

-- the text has a fault: a first bad byte, or a first token with which no script goes on, or it ends too early
abbrev pub HasCause : List ℕ → Type 0
HasCause bs = (bad : BadScript) × IsCause bs (parsing.BadScript bad)

-- a text is one of at most one script, places included
abbrev pub OneScript : Type 0
OneScript = (bs : List ℕ) (s t : Script) → IsParsed bs s → IsParsed bs t → s ≡ t

-- no text of a script has a fault
abbrev pub NoScriptWithFault : Type 0
NoScriptWithFault = (bs : List ℕ) (s : Script) (bad : BadScript) → IsParsed bs s → IsCause bs (parsing.BadScript bad) → ⊥

-- a text has one fault at most
abbrev pub OneFault : Type 0
OneFault = (bs : List ℕ) (a b : BadScript) → IsCause bs (parsing.BadScript a) → IsCause bs (parsing.BadScript b) → a ≡ b

-- each text, of any size, is one of a script or has a fault
abbrev pub ScriptOrCause : Type 0
ScriptOrCause = (bs : List ℕ) → HasScript bs ⊎ HasCause bs
