-- Reading nodes with the places of their tokens, and symbols of a text among those of its whole lines (this project's own).
use Rattle.std.specs.Prelude.{ℕ, zero, suc, ◌-◌, List, [], ◌∷◌, length, take, drop, Bool, Ok, Err, ◌&&◌, if◌then◌else◌}
use Rattle.cap_reading.specs.Steps.{Read}
use Rattle.cap_grammar.specs.declared.symbol.Symbol.{Symbol}
use Rattle.cap_grammar.specs.declared.tree.Place.{Place}
use Rattle.cap_grammar.specs.declared.tree.Placed.{Placed}
use Rattle.cap_grammar.specs.Scripts.{Mark, symbols, places, is_newline}

-- symbols, each with its place
abbrev pub marks : List Symbol → List Place → List Mark
marks [] ps = []
marks (s ∷ ss) [] = []
marks (s ∷ ss) (p ∷ ps) = record { symbol = s; place = p } ∷ marks ss ps

-- what a step answered of the symbols, with the places of the marks that were read
abbrev pub back : {A : Type 0} → List Mark → Read Symbol A → Read Mark (Placed A)
back ms (Ok x) = Ok (record { node = x.0; places = places (take (length ms - length x.1) ms) }, drop (length ms - length x.1) ms)
back ms (Err rest) = Err (drop (length ms - length rest) ms)

-- the step of symbols, for marks: the node keeps its places
abbrev pub placed_at : {A : Type 0} → (List Symbol → Read Symbol A) → List Mark → Read Mark (Placed A)
placed_at r ms = back ms (r (symbols ms))

-- how many symbols of a text stand before the one of this number among those that aren't empty lines
abbrev pub position : Bool → List Symbol → ℕ → ℕ
position begins [] n = 0
position begins (t ∷ ts) zero = if begins && is_newline t then suc (position (is_newline t) ts zero) else 0
position begins (t ∷ ts) (suc n) = suc (position (is_newline t) ts (if begins && is_newline t then suc n else n))
