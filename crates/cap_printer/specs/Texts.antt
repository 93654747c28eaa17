-- How the symbols of a text are written (this project's own script language).
use Rattle.std.specs.Prelude.{ℕ, ◌-◌, List, [], ◌∷◌, ◌++◌, codes, Bool, true, false, ◌==◌, ◌||◌, slice_index_or, if◌then◌else◌}
use Rattle.std.specs.Fmt.{decimal}
use Rattle.cap_names.specs.Operations.{operation_names}
use Rattle.cap_grammar.specs.declared.symbol.Fixed.TheVariants as word
use Rattle.cap_grammar.specs.declared.symbol.Symbol.{Symbol}
use Rattle.cap_grammar.specs.declared.symbol.Symbol.TheVariants as symbol
use Rattle.cap_grammar.specs.Texts.{fixed_text}

-- the name of the operation of this number, if there is one
abbrev pub operation_text : ℕ → List ℕ
operation_text number = if number == 0 then [] else slice_index_or operation_names (number - 1) []

abbrev pub symbol_text : Symbol → List ℕ
symbol_text (symbol.Fixed w) = fixed_text w
symbol_text (symbol.Operation op) = operation_text op.0
symbol_text (symbol.Name n) = n
symbol_text (symbol.Number n) = decimal n
symbol_text symbol.Nought = codes "0"

-- no blank stands behind an opening bracket, `.`, `*`, `-` and an LF
abbrev pub opens : Symbol → Bool
opens (symbol.Fixed word.Open) = true
opens (symbol.Fixed word.OpenRound) = true
opens (symbol.Fixed word.OpenBrace) = true
opens (symbol.Fixed word.Dot) = true
opens (symbol.Fixed word.Star) = true
opens (symbol.Fixed word.Minus) = true
opens (symbol.Fixed word.Newline) = true
opens _ = false

-- no blank stands before a closing bracket, `;`, `.`, `*` and an LF
abbrev pub closes : Symbol → Bool
closes (symbol.Fixed word.Close) = true
closes (symbol.Fixed word.CloseRound) = true
closes (symbol.Fixed word.CloseBrace) = true
closes (symbol.Fixed word.Semicolon) = true
closes (symbol.Fixed word.Dot) = true
closes (symbol.Fixed word.Star) = true
closes (symbol.Fixed word.Newline) = true
closes _ = false

-- what stands between two symbols
abbrev pub gap : Symbol → Symbol → List ℕ
gap before s = if opens before || closes s then [] else 32 ∷ []

-- the text of symbols that stand behind another one
abbrev pub text_behind : Symbol → List Symbol → List ℕ
text_behind before [] = []
text_behind before (s ∷ rest) = gap before s ++ (symbol_text s ++ text_behind s rest)

-- the text of symbols that stand at the beginning of a line
abbrev pub text_of : List Symbol → List ℕ
text_of symbols = text_behind (symbol.Fixed word.Newline) symbols
