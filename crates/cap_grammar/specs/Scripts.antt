-- Scripts: their nodes with the places of their tokens, and their texts with empty lines and without a last LF (this project's own script language).
use Rattle.std.specs.Prelude.{◌≡◌, ℕ, suc, ◌≤◌, ◌<◌, List, [], ◌∷◌, ◌++◌, map, length, take, Bool, true, false, ◌&&◌, if◌then◌else◌}
use Rattle.cap_reading.specs.Languages.{◌·◌, each}
use Rattle.cap_grammar.specs.declared.symbol.Fixed.TheVariants as word
use Rattle.cap_grammar.specs.declared.symbol.Symbol.{Symbol}
use Rattle.cap_grammar.specs.declared.symbol.Symbol.TheVariants as symbol
use Rattle.cap_grammar.specs.declared.tree.Place.{Place}
use Rattle.cap_grammar.specs.declared.tree.Placed.{Placed}
use Rattle.cap_grammar.specs.declared.tree.ObjTok.{ObjTok}
use Rattle.cap_grammar.specs.declared.tree.MorTok.{MorTok}
use Rattle.cap_grammar.specs.declared.tree.SessionPart.{SessionPart}
use Rattle.cap_grammar.specs.declared.tree.Script.{Script}
use Rattle.cap_grammar.specs.Grammar.{fixed, name, command, part}

-- a symbol and where it stands
pub record Mark : Type 0 where
  pub symbol : Symbol
  pub place : Place

abbrev pub symbols : List Mark → List Symbol
symbols marks = map (λ m. m.symbol) marks

abbrev pub places : List Mark → List Place
places marks = map (λ m. m.place) marks

-- the marks of a node: their symbols are its text, and it keeps their places
abbrev pub placed : {A : Type 0} → (A → List Symbol → Type 0) → Placed A → List Mark → Type 0
placed text p marks = text p.node (symbols marks) × (p.places ≡ places marks)

-- session = "session" NAME LF { command } "end" LF: the commands keep their places, and the session those of its first and its last line
pub record IsSession (s : Placed (SessionPart ObjTok MorTok)) (marks : List Mark) : Type 0 where
  pub first : List Mark
  pub inner : List Mark
  pub last : List Mark
  pub whole : marks ≡ first ++ inner ++ last
  pub begins : (fixed word.Session · name s.node.name · fixed word.Newline) (symbols first)
  pub commands : each (placed command) s.node.commands inner
  pub ends : (fixed word.End · fixed word.Newline) (symbols last)
  pub kept : s.places ≡ places (first ++ last)

-- script = { block | category | command } { session }
abbrev pub IsScript : Script → List Mark → Type 0
IsScript s = each (placed part) s.prelude · each IsSession s.sessions

abbrev pub is_newline : Symbol → Bool
is_newline (symbol.Fixed word.Newline) = true
is_newline _ = false

-- A text without its empty lines: an LF where a line begins is one.
abbrev pub without_empty_lines : Bool → List Mark → List Mark
without_empty_lines begins [] = []
without_empty_lines begins (m ∷ ms) =
    if begins && is_newline m.symbol then without_empty_lines true ms else m ∷ without_empty_lines (is_newline m.symbol) ms

-- The last line may lack its LF: the end of the text stands for it. An LF more is an empty line, or that one.
abbrev pub whole_lines : List Mark → Place → List Mark
whole_lines marks end = without_empty_lines true (marks ++ record { symbol = symbol.Fixed word.Newline; place = end } ∷ [])

-- These are the marks of a text of the script, which ends at this place.
abbrev pub IsTextOf : Script → List Mark → Place → Type 0
IsTextOf s marks end = IsScript s (whole_lines marks end)

-- a script goes on with these symbols: they are the front of some script's text
abbrev pub GoesOn : List Symbol → Type 0
GoesOn front = (marks : List Mark) × (more : List Symbol) × (symbols marks ≡ front ++ more) × (end : Place) × (s : Script) × IsTextOf s marks end

-- The first n symbols are the longest front with which a script goes on. They aren't all, or they are no script's text.
pub record IsFault (text : List Symbol) (n : ℕ) : Type 0 where
  pub within : n ≤ length text
  pub before : GoesOn (take n text)
  pub after : n < length text → GoesOn (take (suc n) text) → ⊥
  pub none : (marks : List Mark) → symbols marks ≡ text → (end : Place) → (s : Script) → IsTextOf s marks end → ⊥
