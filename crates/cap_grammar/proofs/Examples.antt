-- Small texts and what they spell.
use Rattle.std.proofs.Common.{ℕ, List, [], ◌∷◌, refl, inl, inr}
use Rattle.cap_grammar.specs.declared.symbol.Fixed.TheVariants as word
use Rattle.cap_grammar.specs.declared.symbol.Symbol.{Symbol}
use Rattle.cap_grammar.specs.declared.symbol.Symbol.TheVariants as symbol
use Rattle.cap_grammar.specs.declared.tree.Command.TheVariants.{Finalise}
use Rattle.cap_grammar.specs.Grammar.{number, combo, command, row}

abbrev name_v : List ℕ
name_v = 86 ∷ []

-- finalise V
finalise_v : command (Finalise name_v) (symbol.Fixed word.Finalise ∷ symbol.Name name_v ∷ symbol.Fixed word.Newline ∷ [])
finalise_v = record {
  front = symbol.Fixed word.Finalise ∷ [];
  rest = symbol.Name name_v ∷ symbol.Fixed word.Newline ∷ [];
  split = refl;
  first = refl;
  second = record { front = symbol.Name name_v ∷ []; rest = symbol.Fixed word.Newline ∷ []; split = refl; first = refl; second = refl };
}

-- The token 0 is the number 0 and the empty combination; 00 is the number, but no combination.
nought_is_a_number : number 0 (symbol.Nought ∷ [])
nought_is_a_number = inr (refl, refl)

zeros_are_a_number : number 0 (symbol.Number 0 ∷ [])
zeros_are_a_number = inl refl

nought_is_a_combination : combo [] (symbol.Nought ∷ [])
nought_is_a_combination = refl

zeros_are_no_combination : combo [] (symbol.Number 0 ∷ []) → ⊥
zeros_are_no_combination e = cc

-- A row has an entry at least.
no_row_is_empty : (l : List Symbol) → row [] l → ⊥
no_row_is_empty l h = h
