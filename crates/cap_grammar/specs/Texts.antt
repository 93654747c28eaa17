-- The symbols of tokens: what each stands for, and how it is written (this project's own script language).
use Rattle.std.specs.Prelude.{◌≡◌, ◌⊎◌, ℕ, List, [], ◌∷◌, codes}
use Rattle.std.specs.Str.Parse.{digits_value}
use Rattle.cap_names.specs.Words.{IsWord, IsNumber}
use Rattle.cap_names.specs.Operations.{IsNamed}
use Rattle.cap_grammar.specs.declared.symbol.Fixed.{Fixed}
use Rattle.cap_grammar.specs.declared.symbol.Fixed.TheVariants as word
use Rattle.cap_grammar.specs.declared.symbol.Symbol.{Symbol}
use Rattle.cap_grammar.specs.declared.symbol.Symbol.TheVariants as symbol

-- how a reserved word or mark is written
abbrev pub fixed_text : Fixed → List ℕ
fixed_text word.Table = codes "table"
fixed_text word.Quiver = codes "quiver"
fixed_text word.Prime = codes "prime"
fixed_text word.Bound = codes "bound"
fixed_text word.Objects = codes "objects"
fixed_text word.Basis = codes "basis"
fixed_text word.Unit = codes "unit"
fixed_text word.Product = codes "product"
fixed_text word.Arrow = codes "arrow"
fixed_text word.Relation = codes "relation"
fixed_text word.End = codes "end"
fixed_text word.Category = codes "category"
fixed_text word.Vec = codes "vec"
fixed_text word.Add = codes "add"
fixed_text word.Freyd = codes "freyd"
fixed_text word.Rep = codes "rep"
fixed_text word.Session = codes "session"
fixed_text word.Register = codes "register"
fixed_text word.Finalise = codes "finalise"
fixed_text word.Plan = codes "plan"
fixed_text word.Object = codes "object"
fixed_text word.Let = codes "let"
fixed_text word.Src = codes "src"
fixed_text word.Tgt = codes "tgt"
fixed_text word.Dims = codes "dims"
fixed_text word.Maps = codes "maps"
fixed_text word.To = codes "->"
fixed_text word.Open = codes "["
fixed_text word.Close = codes "]"
fixed_text word.OpenRound = codes "("
fixed_text word.CloseRound = codes ")"
fixed_text word.OpenBrace = codes "{"
fixed_text word.CloseBrace = codes "}"
fixed_text word.Semicolon = codes ";"
fixed_text word.Equals = codes "="
fixed_text word.Dot = codes "."
fixed_text word.Star = codes "*"
fixed_text word.Plus = codes "+"
fixed_text word.Minus = codes "-"
fixed_text word.Newline = 10 ∷ []

-- no name: a reserved word or the name of an operation
abbrev pub IsReserved : List ℕ → Type 0
IsReserved bs = ((w : Fixed) × (fixed_text w ≡ bs)) ⊎ ((number : ℕ) × IsNamed number bs)

-- the text of a token stands for the symbol
abbrev pub IsSymbol : List ℕ → Symbol → Type 0
IsSymbol bs (symbol.Fixed w) = fixed_text w ≡ bs
IsSymbol bs (symbol.Operation op) = IsNamed op.0 bs
IsSymbol bs (symbol.Name n) = IsWord bs × (n ≡ bs) × (IsReserved bs → ⊥)
IsSymbol bs (symbol.Number n) = IsNumber bs × (digits_value 10 bs ≡ n) × (bs ≡ codes "0" → ⊥)
IsSymbol bs symbol.Nought = bs ≡ codes "0"
