-- Scripts up to the places that they keep, and what the symbols of a script are of it (this project's own).
use Rattle.std.specs.Prelude.{◌≡◌, ℕ, List, map}
use Rattle.cap_grammar.specs.declared.symbol.Symbol.{Symbol}
use Rattle.cap_grammar.specs.declared.symbol.Symbol.TheVariants as symbol
use Rattle.cap_grammar.specs.declared.tree.ObjTok.{ObjTok}
use Rattle.cap_grammar.specs.declared.tree.MorTok.{MorTok}
use Rattle.cap_grammar.specs.declared.tree.Command.{Command}
use Rattle.cap_grammar.specs.declared.tree.Placed.{Placed}
use Rattle.cap_grammar.specs.declared.tree.SessionPart.{SessionPart}
use Rattle.cap_grammar.specs.declared.tree.Script.{Script}
use Rattle.cap_grammar.specs.Scripts.{Mark, IsScript}
use Rattle.cap_spelling.specs.Spelling.{number_symbol}

-- nodes without their places
abbrev pub nodes : {A : Type 0} → List (Placed A) → List A
nodes ps = map (λ p. p.node) ps

-- a session without places: its name and its commands
abbrev pub bare_session : Placed (SessionPart ObjTok MorTok) → List ℕ × List (Command ObjTok MorTok)
bare_session s = (s.node.name, nodes s.node.commands)

-- The scripts have the same nodes in the same order; each keeps places of its own.
pub record EqualUpToPlaces (s t : Script) : Type 0 where
  pub prelude : nodes s.prelude ≡ nodes t.prelude
  pub sessions : map bare_session s.sessions ≡ map bare_session t.sessions

-- the marks are those of a script that is this one up to the places
abbrev pub IsScriptUpToPlaces : Script → List Mark → Type 0
IsScriptUpToPlaces s marks = (t : Script) × IsScript t marks × EqualUpToPlaces t s

-- a number 0 is written as the token `0`, and every other symbol as it is
abbrev pub plain_zero : Symbol → Symbol
plain_zero (symbol.Fixed w) = symbol.Fixed w
plain_zero (symbol.Operation op) = symbol.Operation op
plain_zero (symbol.Name n) = symbol.Name n
plain_zero (symbol.Number n) = number_symbol n
plain_zero symbol.Nought = symbol.Nought
