-- Texts of scripts, and the first fault of a text that is none (this project's own script language).
use Rattle.std.specs.Prelude.{◌≡◌, ℕ, List, length, slice_index_or}
use Rattle.cap_names.specs.Tokens.{IsBadAt}
use Rattle.cap_names.specs.declared.reasons.BadScript.{BadScript}
use Rattle.cap_names.specs.declared.reasons.Reason.{Reason}
use Rattle.cap_names.specs.declared.reasons.Reason.TheVariants.{Token, Syntax, Known, Taken, Sort, Prime, Limit}
use Rattle.cap_grammar.specs.declared.symbol.Symbol.{Symbol}
use Rattle.cap_grammar.specs.declared.tree.Place.{Place}
use Rattle.cap_grammar.specs.declared.tree.Script.{Script}
use Rattle.cap_grammar.specs.Scripts.{IsTextOf, IsFault}
use Rattle.cap_symbols.specs.Marks.{place_at, AreSymbols}
use Rattle.cap_lines.specs.Marks.{marks}
use Rattle.cap_script.specs.declared.fault.ScriptFault.{ScriptFault}
use Rattle.cap_script.specs.declared.fault.ScriptFault.TheVariants as fault

-- the end of a text: the place behind its last byte
abbrev pub end_of : List ℕ → Place
end_of bs = place_at bs (length bs)

-- The bytes are a text of the script: their symbols, each at its place, are one. The script keeps these places.
pub record IsParsed (bs : List ℕ) (s : Script) : Type 0 where
  pub symbols : List Symbol
  pub places : List Place
  pub are : AreSymbols bs symbols places
  pub text : IsTextOf s (marks symbols places) (end_of bs)

-- a place as a fault tells it
abbrev pub fault_at : Place → Reason → BadScript
fault_at place reason = record { line = place.line; column = place.column; reason = reason }

-- a byte is in no token, blank or comment: the first such byte is told
pub record IsTokenFault (bs : List ℕ) (bad : BadScript) : Type 0 where
  pub byte : ℕ
  pub first : IsBadAt bs byte
  pub told : bad ≡ fault_at (place_at bs byte) Token

-- the tokens are no script's: the first one with which no script goes on is told, or the end of the text
pub record IsSyntaxFault (bs : List ℕ) (bad : BadScript) : Type 0 where
  pub symbols : List Symbol
  pub places : List Place
  pub are : AreSymbols bs symbols places
  pub before : ℕ
  pub first : IsFault symbols before
  pub told : bad ≡ fault_at (slice_index_or places before (end_of bs)) Syntax

-- what a refusal's reason says of the text; parsing gives no other reason
abbrev pub IsCauseBy : Reason → List ℕ → BadScript → Type 0
IsCauseBy Token bs bad = IsTokenFault bs bad
IsCauseBy Syntax bs bad = IsSyntaxFault bs bad
IsCauseBy Known bs bad = ⊥
IsCauseBy Taken bs bad = ⊥
IsCauseBy Sort bs bad = ⊥
IsCauseBy Prime bs bad = ⊥
IsCauseBy Limit bs bad = ⊥

abbrev pub IsCause : List ℕ → ScriptFault → Type 0
IsCause bs (fault.BadScript bad) = IsCauseBy bad.reason bs bad
IsCause bs fault.NoMemory = Unit {0}
