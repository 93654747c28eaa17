-- The grammar, production by production (this project's own script language). A production's own text stands above it, with the words in quotes.
use Rattle.std.specs.Prelude.{◌≡◌, ◌⊎◌, ℕ, List, [], ◌∷◌, Bool, true, false, Option, Some, None}
use Rattle.cap_names.specs.declared.identifiers.OpId.{OpId}
use Rattle.cap_reading.specs.Languages.{item, nothing, no_list, ◌·◌, each, some_of, separated, maybe}
use Rattle.cap_grammar.specs.declared.symbol.Fixed.{Fixed}
use Rattle.cap_grammar.specs.declared.symbol.Fixed.TheVariants as word
use Rattle.cap_grammar.specs.declared.symbol.Symbol.{Symbol}
use Rattle.cap_grammar.specs.declared.symbol.Symbol.TheVariants as symbol
use Rattle.cap_grammar.specs.declared.tree.IntTok.{IntTok}
use Rattle.cap_grammar.specs.declared.tree.TermTok.{TermTok}
use Rattle.cap_grammar.specs.declared.tree.RefTok.{RefTok}
use Rattle.cap_grammar.specs.declared.tree.ArgTok.{ArgTok}
use Rattle.cap_grammar.specs.declared.tree.ArgTok.TheVariants as argument
use Rattle.cap_grammar.specs.declared.tree.EntryTok.{EntryTok}
use Rattle.cap_grammar.specs.declared.tree.EntryTok.TheVariants as cell
use Rattle.cap_grammar.specs.declared.tree.RowsTok.{RowsTok}
use Rattle.cap_grammar.specs.declared.tree.ObjTok.{ObjTok}
use Rattle.cap_grammar.specs.declared.tree.ObjTok.TheVariants.{Dim, Parts, Relation, Dims}
use Rattle.cap_grammar.specs.declared.tree.MorTok.{MorTok}
use Rattle.cap_grammar.specs.declared.tree.MorTok.TheVariants as matrices
use Rattle.cap_grammar.specs.declared.tree.Over.{Over}
use Rattle.cap_grammar.specs.declared.tree.Over.TheVariants as kind
use Rattle.cap_grammar.specs.declared.tree.BlockLine.{BlockLine}
use Rattle.cap_grammar.specs.declared.tree.BlockLine.TheVariants as line
use Rattle.cap_grammar.specs.declared.tree.Block.{Block}
use Rattle.cap_grammar.specs.declared.tree.Command.{Command}
use Rattle.cap_grammar.specs.declared.tree.Command.TheVariants.{Register, Finalise, Plan, Object, Src, Tgt, Let, Call}
use Rattle.cap_grammar.specs.declared.tree.Item.{Item}
use Rattle.cap_grammar.specs.declared.tree.Item.TheVariants as top

-- a quoted word or mark
abbrev pub fixed : Fixed → List Symbol → Type 0
fixed w = item (symbol.Fixed w)

-- NAME
abbrev pub name : List ℕ → List Symbol → Type 0
name n = item (symbol.Name n)

-- OP
abbrev pub operation : OpId → List Symbol → Type 0
operation op = item (symbol.Operation op)

-- NUM: the token `0` is one too
abbrev pub number : ℕ → List Symbol → Type 0
number n l = (l ≡ symbol.Number n ∷ []) ⊎ ((n ≡ 0) × (l ≡ symbol.Nought ∷ []))

-- int = [ "-" ] NUM
abbrev pub sign : Bool → List Symbol → Type 0
sign true = fixed word.Minus
sign false = nothing

abbrev pub int : IntTok → List Symbol → Type 0
int i = sign i.minus · number i.digits

-- ref = NAME [ "." NUM ]
abbrev pub ref : RefTok → List Symbol → Type 0
ref r = name r.name · maybe (λ n. fixed word.Dot · number n) r.part

-- path = NAME { "*" NAME }
abbrev pub path : List (List ℕ) → List Symbol → Type 0
path names = separated name (fixed word.Star) names

-- int NAME
abbrev pub lone : List (List ℕ) → List Symbol → Type 0
lone [] = no_list
lone (n ∷ []) = name n
lone (n ∷ m ∷ others) = no_list

abbrev pub multiple : TermTok → List Symbol → Type 0
multiple t = int t.coeff · lone t.path

-- combo = "0" | int NAME { "+" int NAME }
abbrev pub combo : List TermTok → List Symbol → Type 0
combo [] = item symbol.Nought
combo (t ∷ ts) = separated multiple (fixed word.Plus) (t ∷ ts)

-- sum = int path { "+" int path }
abbrev pub term : TermTok → List Symbol → Type 0
term t = int t.coeff · path t.path

abbrev pub sum : List TermTok → List Symbol → Type 0
sum ts = separated term (fixed word.Plus) ts

-- entry = int | "(" {int} ")"
abbrev pub entry : EntryTok → List Symbol → Type 0
entry (cell.Int i) = int i
entry (cell.Coeffs is) = fixed word.OpenRound · each int is · fixed word.CloseRound

-- row = entry {entry}
abbrev pub row : List EntryTok → List Symbol → Type 0
row es = some_of entry entry es

-- rows = "[" [ row { ";" row } ] "]"
abbrev pub inside : List (List EntryTok) → List Symbol → Type 0
inside [] = nothing
inside (r ∷ rs) = separated row (fixed word.Semicolon) (r ∷ rs)

abbrev pub rows : RowsTok → List Symbol → Type 0
rows m = fixed word.Open · inside m.rows · fixed word.Close

-- list = "[" {NAME} "]"
abbrev pub list : List (List ℕ) → List Symbol → Type 0
list names = fixed word.Open · each name names · fixed word.Close

-- objlit = NUM | list | list "->" list rows | "dims" NUM {NUM} [ "maps" { path "=" rows } ]
abbrev pub map : List (List ℕ) × RowsTok → List Symbol → Type 0
map m = path m.0 · fixed word.Equals · rows m.1

abbrev pub object : ObjTok → List Symbol → Type 0
object (Dim n) = number n
object (Parts names) = list names
object (Relation src tgt rho) = list src · fixed word.To · list tgt · rows rho
object (Dims dims maps) = fixed word.Dims · some_of number number dims · maybe (λ ms. fixed word.Maps · each map ms) maps

-- morlit = rows | "{" {rows} "}"
abbrev pub morphism : MorTok → List Symbol → Type 0
morphism (matrices.Rows m) = rows m
morphism (matrices.Parts ms) = fixed word.OpenBrace · each rows ms · fixed word.CloseBrace

-- ref | int
abbrev pub arg : ArgTok → List Symbol → Type 0
arg (argument.Ref r) = ref r
arg (argument.Int i) = int i

-- command = "register" NAME OP [NUM] LF | "finalise" NAME LF | "plan" NAME LF | "object" NAME NAME "=" objlit LF
--         | "let" NAME "=" ("src" | "tgt") ref LF | "let" NAME "=" NAME ref "->" ref morlit LF | "let" NAME "=" NAME OP { ref | int } LF
abbrev pub command : Command ObjTok MorTok → List Symbol → Type 0
command (Register cat op weight) = fixed word.Register · name cat · operation op · maybe number weight · fixed word.Newline
command (Finalise cat) = fixed word.Finalise · name cat · fixed word.Newline
command (Plan cat) = fixed word.Plan · name cat · fixed word.Newline
command (Object cat x lit) = fixed word.Object · name cat · name x · fixed word.Equals · object lit · fixed word.Newline
command (Src x of) = fixed word.Let · name x · fixed word.Equals · fixed word.Src · ref of · fixed word.Newline
command (Tgt x of) = fixed word.Let · name x · fixed word.Equals · fixed word.Tgt · ref of · fixed word.Newline
command (Let x cat src tgt lit) = fixed word.Let · name x · fixed word.Equals · name cat · ref src · fixed word.To · ref tgt · morphism lit · fixed word.Newline
command (Call x cat op args) = fixed word.Let · name x · fixed word.Equals · name cat · operation op · each arg args · fixed word.Newline

-- category = "category" NAME ( "vec" NUM | "add" NAME | "freyd" NAME | "rep" NAME ) LF
abbrev pub over : Over → List Symbol → Type 0
over (kind.Vec prime) = fixed word.Vec · number prime
over (kind.Add table) = fixed word.Add · name table
over (kind.Freyd table) = fixed word.Freyd · name table
over (kind.Rep table) = fixed word.Rep · name table

-- block = "table" NAME "prime" NUM LF "objects" NAME {NAME} LF
--         { "basis" NAME NAME NAME LF | "unit" NAME "=" combo LF | "product" NAME NAME "=" combo LF } "end" LF
--       | "quiver" NAME "prime" NUM "bound" NUM LF "objects" NAME {NAME} LF { "arrow" NAME NAME NAME LF | "relation" sum LF } "end" LF
abbrev pub table_line : BlockLine → List Symbol → Type 0
table_line (line.Basis b src tgt) = fixed word.Basis · name b · name src · name tgt · fixed word.Newline
table_line (line.Unit x c) = fixed word.Unit · name x · fixed word.Equals · combo c · fixed word.Newline
table_line (line.Product left right c) = fixed word.Product · name left · name right · fixed word.Equals · combo c · fixed word.Newline
table_line (line.Arrow a src tgt) = no_list
table_line (line.Relation s) = no_list

abbrev pub quiver_line : BlockLine → List Symbol → Type 0
quiver_line (line.Basis b src tgt) = no_list
quiver_line (line.Unit x c) = no_list
quiver_line (line.Product left right c) = no_list
quiver_line (line.Arrow a src tgt) = fixed word.Arrow · name a · name src · name tgt · fixed word.Newline
quiver_line (line.Relation s) = fixed word.Relation · sum s · fixed word.Newline

abbrev pub objects : List (List ℕ) → List Symbol → Type 0
objects names = fixed word.Objects · some_of name name names · fixed word.Newline

abbrev pub lines : Option ℕ → List BlockLine → List Symbol → Type 0
lines None ls = each table_line ls
lines (Some bound) ls = each quiver_line ls

abbrev pub head : List ℕ → ℕ → Option ℕ → List Symbol → Type 0
head n prime None = fixed word.Table · name n · fixed word.Prime · number prime · fixed word.Newline
head n prime (Some bound) = fixed word.Quiver · name n · fixed word.Prime · number prime · fixed word.Bound · number bound · fixed word.Newline

abbrev pub block : Block → List Symbol → Type 0
block b = head b.name b.prime b.bound · objects b.objects · lines b.bound b.lines · fixed word.End · fixed word.Newline

-- block | category | command
abbrev pub part : Item ObjTok MorTok → List Symbol → Type 0
part (top.Block b) = block b
part (top.Category n o) = fixed word.Category · name n · over o · fixed word.Newline
part (top.Command c) = command c
