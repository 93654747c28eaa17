-- The symbols that spell each node, with the token `0` for the number 0 (this project's own script language).
use Rattle.std.specs.Prelude.{ℕ, List, [], ◌∷◌, ◌++◌, Bool, true, false, Option, Some, None, ◌==◌, if◌then◌else◌}
use Rattle.std.specs.List.{flat_map}
use Rattle.cap_grammar.specs.declared.symbol.Fixed.TheVariants as word
use Rattle.cap_grammar.specs.declared.symbol.Symbol.{Symbol}
use Rattle.cap_grammar.specs.declared.symbol.Symbol.TheVariants as symbol
use Rattle.cap_grammar.specs.declared.tree.IntTok.{IntTok}
use Rattle.cap_grammar.specs.declared.tree.TermTok.{TermTok}
use Rattle.cap_grammar.specs.declared.tree.RefTok.{RefTok}
use Rattle.cap_grammar.specs.declared.tree.ArgTok.{ArgTok}
use Rattle.cap_grammar.specs.declared.tree.ArgTok.TheVariants as argument
use Rattle.cap_grammar.specs.declared.tree.EntryTok.{EntryTok}
use Rattle.cap_grammar.specs.declared.tree.EntryTok.TheVariants as cell
use Rattle.cap_grammar.specs.declared.tree.RowsTok.{RowsTok}
use Rattle.cap_grammar.specs.declared.tree.ObjTok.{ObjTok}
use Rattle.cap_grammar.specs.declared.tree.ObjTok.TheVariants.{Dim, Parts, Relation, Dims}
use Rattle.cap_grammar.specs.declared.tree.MorTok.{MorTok}
use Rattle.cap_grammar.specs.declared.tree.MorTok.TheVariants as matrices
use Rattle.cap_grammar.specs.declared.tree.Over.{Over}
use Rattle.cap_grammar.specs.declared.tree.Over.TheVariants as kind
use Rattle.cap_grammar.specs.declared.tree.BlockLine.{BlockLine}
use Rattle.cap_grammar.specs.declared.tree.BlockLine.TheVariants as line
use Rattle.cap_grammar.specs.declared.tree.Block.{Block}
use Rattle.cap_grammar.specs.declared.tree.Command.{Command}
use Rattle.cap_grammar.specs.declared.tree.Command.TheVariants.{Register, Finalise, Plan, Object, Src, Tgt, Let, Call}
use Rattle.cap_grammar.specs.declared.tree.Item.{Item}
use Rattle.cap_grammar.specs.declared.tree.Item.TheVariants as top
use Rattle.cap_grammar.specs.declared.tree.SessionPart.{SessionPart}
use Rattle.cap_grammar.specs.declared.tree.Script.{Script}

-- a list with a separator between each two
abbrev pub separated_symbols : {A : Type 0} → (A → List Symbol) → Symbol → List A → List Symbol
separated_symbols f sep [] = []
separated_symbols f sep (x ∷ xs) = f x ++ flat_map (λ y. sep ∷ f y) xs

abbrev pub name_symbols : List ℕ → List Symbol
name_symbols n = symbol.Name n ∷ []

abbrev pub number_symbol : ℕ → Symbol
number_symbol n = if n == 0 then symbol.Nought else symbol.Number n

abbrev pub number_symbols : ℕ → List Symbol
number_symbols n = number_symbol n ∷ []

abbrev pub sign_symbols : Bool → List Symbol
sign_symbols true = symbol.Fixed word.Minus ∷ []
sign_symbols false = []

abbrev pub int_symbols : IntTok → List Symbol
int_symbols i = sign_symbols i.minus ++ number_symbols i.digits

abbrev pub part_symbols : Option ℕ → List Symbol
part_symbols None = []
part_symbols (Some n) = symbol.Fixed word.Dot ∷ number_symbols n

abbrev pub ref_symbols : RefTok → List Symbol
ref_symbols r = symbol.Name r.name ∷ part_symbols r.part

abbrev pub path_symbols : List (List ℕ) → List Symbol
path_symbols names = separated_symbols name_symbols (symbol.Fixed word.Star) names

abbrev pub term_symbols : TermTok → List Symbol
term_symbols t = int_symbols t.coeff ++ path_symbols t.path

abbrev pub sum_symbols : List TermTok → List Symbol
sum_symbols ts = separated_symbols term_symbols (symbol.Fixed word.Plus) ts

-- the empty combination is the token `0`
abbrev pub combo_symbols : List TermTok → List Symbol
combo_symbols [] = symbol.Nought ∷ []
combo_symbols (t ∷ ts) = sum_symbols (t ∷ ts)

abbrev pub entry_symbols : EntryTok → List Symbol
entry_symbols (cell.Int i) = int_symbols i
entry_symbols (cell.Coeffs is) = symbol.Fixed word.OpenRound ∷ (flat_map int_symbols is ++ symbol.Fixed word.CloseRound ∷ [])

abbrev pub row_symbols : List EntryTok → List Symbol
row_symbols es = flat_map entry_symbols es

abbrev pub rows_symbols : RowsTok → List Symbol
rows_symbols m = symbol.Fixed word.Open ∷ (separated_symbols row_symbols (symbol.Fixed word.Semicolon) m.rows ++ symbol.Fixed word.Close ∷ [])

abbrev pub list_symbols : List (List ℕ) → List Symbol
list_symbols names = symbol.Fixed word.Open ∷ (flat_map name_symbols names ++ symbol.Fixed word.Close ∷ [])

abbrev pub map_symbols : List (List ℕ) × RowsTok → List Symbol
map_symbols m = path_symbols m.0 ++ symbol.Fixed word.Equals ∷ rows_symbols m.1

abbrev pub maps_symbols : Option (List (List (List ℕ) × RowsTok)) → List Symbol
maps_symbols None = []
maps_symbols (Some ms) = symbol.Fixed word.Maps ∷ flat_map map_symbols ms

abbrev pub object_symbols : ObjTok → List Symbol
object_symbols (Dim n) = number_symbols n
object_symbols (Parts names) = list_symbols names
object_symbols (Relation src tgt rho) = list_symbols src ++ symbol.Fixed word.To ∷ (list_symbols tgt ++ rows_symbols rho)
object_symbols (Dims dims maps) = symbol.Fixed word.Dims ∷ (flat_map number_symbols dims ++ maps_symbols maps)

abbrev pub morphism_symbols : MorTok → List Symbol
morphism_symbols (matrices.Rows m) = rows_symbols m
morphism_symbols (matrices.Parts ms) = symbol.Fixed word.OpenBrace ∷ (flat_map rows_symbols ms ++ symbol.Fixed word.CloseBrace ∷ [])

abbrev pub arg_symbols : ArgTok → List Symbol
arg_symbols (argument.Ref r) = ref_symbols r
arg_symbols (argument.Int i) = int_symbols i

abbrev pub weight_symbols : Option ℕ → List Symbol
weight_symbols None = []
weight_symbols (Some n) = number_symbols n

abbrev pub command_symbols : Command ObjTok MorTok → List Symbol
command_symbols (Register cat op weight) = symbol.Fixed word.Register ∷ symbol.Name cat ∷ symbol.Operation op ∷ (weight_symbols weight ++ symbol.Fixed word.Newline ∷ [])
command_symbols (Finalise cat) = symbol.Fixed word.Finalise ∷ symbol.Name cat ∷ symbol.Fixed word.Newline ∷ []
command_symbols (Plan cat) = symbol.Fixed word.Plan ∷ symbol.Name cat ∷ symbol.Fixed word.Newline ∷ []
command_symbols (Object cat x lit) = symbol.Fixed word.Object ∷ symbol.Name cat ∷ symbol.Name x ∷ symbol.Fixed word.Equals ∷ (object_symbols lit ++ symbol.Fixed word.Newline ∷ [])
command_symbols (Src x of) = symbol.Fixed word.Let ∷ symbol.Name x ∷ symbol.Fixed word.Equals ∷ symbol.Fixed word.Src ∷ (ref_symbols of ++ symbol.Fixed word.Newline ∷ [])
command_symbols (Tgt x of) = symbol.Fixed word.Let ∷ symbol.Name x ∷ symbol.Fixed word.Equals ∷ symbol.Fixed word.Tgt ∷ (ref_symbols of ++ symbol.Fixed word.Newline ∷ [])
command_symbols (Let x cat src tgt lit) =
    symbol.Fixed word.Let ∷ symbol.Name x ∷ symbol.Fixed word.Equals ∷ symbol.Name cat ∷ (ref_symbols src ++ symbol.Fixed word.To ∷ (ref_symbols tgt ++ (morphism_symbols lit ++ symbol.Fixed word.Newline ∷ [])))
command_symbols (Call x cat op args) = symbol.Fixed word.Let ∷ symbol.Name x ∷ symbol.Fixed word.Equals ∷ symbol.Name cat ∷ symbol.Operation op ∷ (flat_map arg_symbols args ++ symbol.Fixed word.Newline ∷ [])

abbrev pub over_symbols : Over → List Symbol
over_symbols (kind.Vec prime) = symbol.Fixed word.Vec ∷ number_symbols prime
over_symbols (kind.Add table) = symbol.Fixed word.Add ∷ symbol.Name table ∷ []
over_symbols (kind.Freyd table) = symbol.Fixed word.Freyd ∷ symbol.Name table ∷ []
over_symbols (kind.Rep table) = symbol.Fixed word.Rep ∷ symbol.Name table ∷ []

abbrev pub line_symbols : BlockLine → List Symbol
line_symbols (line.Basis b src tgt) = symbol.Fixed word.Basis ∷ symbol.Name b ∷ symbol.Name src ∷ symbol.Name tgt ∷ symbol.Fixed word.Newline ∷ []
line_symbols (line.Unit x c) = symbol.Fixed word.Unit ∷ symbol.Name x ∷ symbol.Fixed word.Equals ∷ (combo_symbols c ++ symbol.Fixed word.Newline ∷ [])
line_symbols (line.Product left right c) = symbol.Fixed word.Product ∷ symbol.Name left ∷ symbol.Name right ∷ symbol.Fixed word.Equals ∷ (combo_symbols c ++ symbol.Fixed word.Newline ∷ [])
line_symbols (line.Arrow a src tgt) = symbol.Fixed word.Arrow ∷ symbol.Name a ∷ symbol.Name src ∷ symbol.Name tgt ∷ symbol.Fixed word.Newline ∷ []
line_symbols (line.Relation s) = symbol.Fixed word.Relation ∷ (sum_symbols s ++ symbol.Fixed word.Newline ∷ [])

abbrev pub head_symbols : List ℕ → ℕ → Option ℕ → List Symbol
head_symbols n prime None = symbol.Fixed word.Table ∷ symbol.Name n ∷ symbol.Fixed word.Prime ∷ number_symbol prime ∷ symbol.Fixed word.Newline ∷ []
head_symbols n prime (Some bound) =
    symbol.Fixed word.Quiver ∷ symbol.Name n ∷ symbol.Fixed word.Prime ∷ number_symbol prime ∷ symbol.Fixed word.Bound ∷ number_symbol bound ∷ symbol.Fixed word.Newline ∷ []

abbrev pub objects_symbols : List (List ℕ) → List Symbol
objects_symbols names = symbol.Fixed word.Objects ∷ (flat_map name_symbols names ++ symbol.Fixed word.Newline ∷ [])

abbrev pub end_symbols : List Symbol
end_symbols = symbol.Fixed word.End ∷ symbol.Fixed word.Newline ∷ []

abbrev pub block_symbols : Block → List Symbol
block_symbols b = head_symbols b.name b.prime b.bound ++ (objects_symbols b.objects ++ (flat_map line_symbols b.lines ++ end_symbols))

abbrev pub part_of_script_symbols : Item ObjTok MorTok → List Symbol
part_of_script_symbols (top.Block b) = block_symbols b
part_of_script_symbols (top.Category n o) = symbol.Fixed word.Category ∷ symbol.Name n ∷ (over_symbols o ++ symbol.Fixed word.Newline ∷ [])
part_of_script_symbols (top.Command c) = command_symbols c

abbrev pub session_symbols : SessionPart ObjTok MorTok → List Symbol
session_symbols s =
    symbol.Fixed word.Session ∷ symbol.Name s.name ∷ symbol.Fixed word.Newline ∷ (flat_map (λ c. command_symbols c.node) s.commands ++ end_symbols)

abbrev pub script_symbols : Script → List Symbol
script_symbols s = flat_map (λ p. part_of_script_symbols p.node) s.prelude ++ flat_map (λ p. session_symbols p.node) s.sessions
