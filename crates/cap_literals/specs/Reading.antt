-- Reading from left to right the parts of a command: a step for each production.
use Rattle.std.specs.Prelude.{ℕ, List, [], ◌∷◌, Bool, true, false, Option, Some, None, ◌==◌, if◌then◌else◌}
use Rattle.cap_names.specs.declared.identifiers.OpId.{OpId}
use Rattle.cap_reading.specs.Steps.{Read, take_one, mapped, skip, before, both, either, gives, optional, many, some}
use Rattle.cap_grammar.specs.declared.symbol.Fixed.{Fixed}
use Rattle.cap_grammar.specs.declared.symbol.Fixed.TheVariants as word
use Rattle.cap_grammar.specs.declared.symbol.Symbol.{Symbol}
use Rattle.cap_grammar.specs.declared.symbol.Symbol.TheVariants as symbol
use Rattle.cap_grammar.specs.declared.tree.IntTok.{IntTok}
use Rattle.cap_grammar.specs.declared.tree.TermTok.{TermTok}
use Rattle.cap_grammar.specs.declared.tree.RefTok.{RefTok}
use Rattle.cap_grammar.specs.declared.tree.ArgTok.{ArgTok}
use Rattle.cap_grammar.specs.declared.tree.ArgTok.TheVariants as argument
use Rattle.cap_grammar.specs.declared.tree.EntryTok.{EntryTok}
use Rattle.cap_grammar.specs.declared.tree.EntryTok.TheVariants as cell
use Rattle.cap_grammar.specs.declared.tree.RowsTok.{RowsTok}
use Rattle.cap_grammar.specs.declared.tree.ObjTok.{ObjTok}
use Rattle.cap_grammar.specs.declared.tree.ObjTok.TheVariants.{Dim, Parts, Relation, Dims}
use Rattle.cap_grammar.specs.declared.tree.MorTok.{MorTok}
use Rattle.cap_grammar.specs.declared.tree.MorTok.TheVariants as matrices

-- the number of a word or mark, in the order of their list
abbrev pub code : Fixed → ℕ
code word.Table = 0
code word.Quiver = 1
code word.Prime = 2
code word.Bound = 3
code word.Objects = 4
code word.Basis = 5
code word.Unit = 6
code word.Product = 7
code word.Arrow = 8
code word.Relation = 9
code word.End = 10
code word.Category = 11
code word.Vec = 12
code word.Add = 13
code word.Freyd = 14
code word.Rep = 15
code word.Session = 16
code word.Register = 17
code word.Finalise = 18
code word.Plan = 19
code word.Object = 20
code word.Let = 21
code word.Src = 22
code word.Tgt = 23
code word.Dims = 24
code word.Maps = 25
code word.To = 26
code word.Open = 27
code word.Close = 28
code word.OpenRound = 29
code word.CloseRound = 30
code word.OpenBrace = 31
code word.CloseBrace = 32
code word.Semicolon = 33
code word.Equals = 34
code word.Dot = 35
code word.Star = 36
code word.Plus = 37
code word.Minus = 38
code word.Newline = 39

-- whether a symbol is this word or mark
abbrev pub is : Fixed → Symbol → Bool
is w (symbol.Fixed v) = code v == code w
is w (symbol.Operation op) = false
is w (symbol.Name n) = false
is w (symbol.Number n) = false
is w symbol.Nought = false

-- the operation, name or number that a symbol stands for
abbrev pub operation_of : Symbol → Option OpId
operation_of (symbol.Fixed w) = None
operation_of (symbol.Operation op) = Some op
operation_of (symbol.Name n) = None
operation_of (symbol.Number n) = None
operation_of symbol.Nought = None

abbrev pub name_of : Symbol → Option (List ℕ)
name_of (symbol.Fixed w) = None
name_of (symbol.Operation op) = None
name_of (symbol.Name n) = Some n
name_of (symbol.Number n) = None
name_of symbol.Nought = None

abbrev pub number_of : Symbol → Option ℕ
number_of (symbol.Fixed w) = None
number_of (symbol.Operation op) = None
number_of (symbol.Name n) = None
number_of (symbol.Number n) = Some n
number_of symbol.Nought = Some 0

abbrev pub is_name : Symbol → Bool
is_name (symbol.Fixed w) = false
is_name (symbol.Operation op) = false
is_name (symbol.Name n) = true
is_name (symbol.Number n) = false
is_name symbol.Nought = false

abbrev pub is_number : Symbol → Bool
is_number (symbol.Fixed w) = false
is_number (symbol.Operation op) = false
is_number (symbol.Name n) = false
is_number (symbol.Number n) = true
is_number symbol.Nought = true

abbrev pub is_nought : Symbol → Bool
is_nought (symbol.Fixed w) = false
is_nought (symbol.Operation op) = false
is_nought (symbol.Name n) = false
is_nought (symbol.Number n) = false
is_nought symbol.Nought = true

abbrev pub starts_int : Symbol → Bool
starts_int t = if is_number t then true else is word.Minus t

abbrev pub starts_arg : Symbol → Bool
starts_arg t = if is_name t then true else starts_int t

abbrev pub starts_entry : Symbol → Bool
starts_entry t = if is word.OpenRound t then true else starts_int t

unfoldable pub name_at : List Symbol → Read Symbol (List ℕ)
name_at ts = take_one name_of ts

unfoldable pub operation_at : List Symbol → Read Symbol OpId
operation_at ts = take_one operation_of ts

unfoldable pub number_at : List Symbol → Read Symbol ℕ
number_at ts = take_one number_of ts

-- int = [ "-" ] NUM
abbrev pub minus_int : ℕ → IntTok
minus_int n = record { minus = true; digits = n }

abbrev pub plus_int : ℕ → IntTok
plus_int n = record { minus = false; digits = n }

unfoldable pub int_at : List Symbol → Read Symbol IntTok
int_at ts = either (is word.Minus) (mapped minus_int (skip (is word.Minus) number_at)) (mapped plus_int number_at) ts

-- ref = NAME [ "." NUM ]
abbrev pub new_ref : List ℕ × Option ℕ → RefTok
new_ref x = record { name = x.0; part = x.1 }

unfoldable pub ref_at : List Symbol → Read Symbol RefTok
ref_at ts = mapped new_ref (both name_at (optional (is word.Dot) (skip (is word.Dot) number_at))) ts

-- ref | int
unfoldable pub arg_at : List Symbol → Read Symbol ArgTok
arg_at ts = either is_name (mapped argument.Ref ref_at) (mapped argument.Int int_at) ts

unfoldable pub names_at : List Symbol → Read Symbol (List (List ℕ))
names_at ts = many is_name name_at ts

-- list = "[" {NAME} "]"
unfoldable pub list_at : List Symbol → Read Symbol (List (List ℕ))
list_at ts = skip (is word.Open) (before names_at (is word.Close)) ts

-- path = NAME { "*" NAME }
unfoldable pub next_name_at : List Symbol → Read Symbol (List ℕ)
next_name_at ts = skip (is word.Star) name_at ts

unfoldable pub path_at : List Symbol → Read Symbol (List (List ℕ))
path_at ts = some name_at (is word.Star) next_name_at ts

-- int NAME
abbrev pub new_multiple : IntTok × List ℕ → TermTok
new_multiple x = record { coeff = x.0; path = x.1 ∷ [] }

unfoldable pub multiple_at : List Symbol → Read Symbol TermTok
multiple_at ts = mapped new_multiple (both int_at name_at) ts

unfoldable pub next_multiple_at : List Symbol → Read Symbol TermTok
next_multiple_at ts = skip (is word.Plus) multiple_at ts

-- what stands behind the token `0` of such a term
abbrev pub nought_multiple : List ℕ → TermTok
nought_multiple n = record { coeff = plus_int 0; path = n ∷ [] }

unfoldable pub nought_multiple_at : List Symbol → Read Symbol TermTok
nought_multiple_at ts = mapped nought_multiple name_at ts

-- combo = "0" | int NAME { "+" int NAME }: behind the token `0` a name makes the one from the other
unfoldable pub behind_nought_at : List Symbol → Read Symbol (List TermTok)
behind_nought_at ts = either is_name (some nought_multiple_at (is word.Plus) next_multiple_at) (gives []) ts

unfoldable pub combo_at : List Symbol → Read Symbol (List TermTok)
combo_at ts = either is_nought (skip is_nought behind_nought_at) (some multiple_at (is word.Plus) next_multiple_at) ts

-- sum = int path { "+" int path }
abbrev pub new_term : IntTok × List (List ℕ) → TermTok
new_term x = record { coeff = x.0; path = x.1 }

unfoldable pub term_at : List Symbol → Read Symbol TermTok
term_at ts = mapped new_term (both int_at path_at) ts

unfoldable pub next_term_at : List Symbol → Read Symbol TermTok
next_term_at ts = skip (is word.Plus) term_at ts

unfoldable pub sum_at : List Symbol → Read Symbol (List TermTok)
sum_at ts = some term_at (is word.Plus) next_term_at ts

-- entry = int | "(" {int} ")"
unfoldable pub ints_at : List Symbol → Read Symbol (List IntTok)
ints_at ts = many starts_int int_at ts

unfoldable pub entry_at : List Symbol → Read Symbol EntryTok
entry_at ts = either (is word.OpenRound) (mapped cell.Coeffs (skip (is word.OpenRound) (before ints_at (is word.CloseRound)))) (mapped cell.Int int_at) ts

-- row = entry {entry}
unfoldable pub row_at : List Symbol → Read Symbol (List EntryTok)
row_at ts = some entry_at starts_entry entry_at ts

unfoldable pub next_row_at : List Symbol → Read Symbol (List EntryTok)
next_row_at ts = skip (is word.Semicolon) row_at ts

-- rows = "[" [ row { ";" row } ] "]"
abbrev pub new_rows : List (List EntryTok) → RowsTok
new_rows r = record { rows = r }

unfoldable pub rows_at : List Symbol → Read Symbol RowsTok
rows_at ts = mapped new_rows (skip (is word.Open) (either (is word.Close) (skip (is word.Close) (gives [])) (before (some row_at (is word.Semicolon) next_row_at) (is word.Close)))) ts

-- path "=" rows
unfoldable pub map_at : List Symbol → Read Symbol (List (List ℕ) × RowsTok)
map_at ts = both path_at (skip (is word.Equals) rows_at) ts

unfoldable pub maps_at : List Symbol → Read Symbol (List (List (List ℕ) × RowsTok))
maps_at ts = many is_name map_at ts

-- objlit = NUM | list | list "->" list rows | "dims" NUM {NUM} [ "maps" { path "=" rows } ]: what begins with a list is the one or the other by what is behind it
abbrev pub listed : List (List ℕ) × Option (List (List ℕ) × RowsTok) → ObjTok
listed (src, None) = Parts src
listed (src, Some y) = Relation src y.0 y.1

unfoldable pub listed_at : List Symbol → Read Symbol ObjTok
listed_at ts = mapped listed (both list_at (optional (is word.To) (skip (is word.To) (both list_at rows_at)))) ts

unfoldable pub numbers_at : List Symbol → Read Symbol (List ℕ)
numbers_at ts = some number_at is_number number_at ts

abbrev pub new_dims : List ℕ × Option (List (List (List ℕ) × RowsTok)) → ObjTok
new_dims x = Dims x.0 x.1

unfoldable pub dims_at : List Symbol → Read Symbol ObjTok
dims_at ts = mapped new_dims (skip (is word.Dims) (both numbers_at (optional (is word.Maps) (skip (is word.Maps) maps_at)))) ts

unfoldable pub object_at : List Symbol → Read Symbol ObjTok
object_at ts = either is_number (mapped Dim number_at) (either (is word.Open) listed_at dims_at) ts

-- morlit = rows | "{" {rows} "}"
unfoldable pub matrices_at : List Symbol → Read Symbol (List RowsTok)
matrices_at ts = many (is word.Open) rows_at ts

unfoldable pub morphism_at : List Symbol → Read Symbol MorTok
morphism_at ts = either (is word.OpenBrace) (mapped matrices.Parts (skip (is word.OpenBrace) (before matrices_at (is word.CloseBrace)))) (mapped matrices.Rows rows_at) ts
