-- The symbols of each node are the plain list of its production.
use Rattle.std.specs.List.{flat_map}
use Rattle.std.proofs.Common.{ℕ, List, [], ◌∷◌, Bool, true, false, Option, Some, None}
use Rattle.cap_reading.specs.Languages.{maybe, each, ◌·◌}
use Rattle.cap_grammar.specs.declared.symbol.Fixed.TheVariants as word
use Rattle.cap_grammar.specs.declared.symbol.Fixed.{Fixed}
use Rattle.cap_grammar.specs.declared.symbol.Symbol.TheVariants as symbol
use Rattle.cap_grammar.specs.declared.tree.IntTok.{IntTok}
use Rattle.cap_grammar.specs.declared.tree.TermTok.{TermTok}
use Rattle.cap_grammar.specs.declared.tree.RefTok.{RefTok}
use Rattle.cap_grammar.specs.declared.tree.ArgTok.{ArgTok}
use Rattle.cap_grammar.specs.declared.tree.ArgTok.TheVariants as argument
use Rattle.cap_grammar.specs.declared.tree.EntryTok.{EntryTok}
use Rattle.cap_grammar.specs.declared.tree.EntryTok.TheVariants as cell
use Rattle.cap_grammar.specs.declared.tree.RowsTok.{RowsTok}
use Rattle.cap_grammar.specs.declared.tree.ObjTok.{ObjTok}
use Rattle.cap_grammar.specs.declared.tree.ObjTok.TheVariants.{Dim, Parts, Relation, Dims}
use Rattle.cap_grammar.specs.declared.tree.MorTok.{MorTok}
use Rattle.cap_grammar.specs.declared.tree.MorTok.TheVariants as matrices
use Rattle.cap_grammar.specs.declared.tree.Over.{Over}
use Rattle.cap_grammar.specs.declared.tree.Over.TheVariants as kind
use Rattle.cap_grammar.specs.declared.tree.BlockLine.{BlockLine}
use Rattle.cap_grammar.specs.declared.tree.BlockLine.TheVariants as line
use Rattle.cap_grammar.specs.declared.tree.Block.{Block}
use Rattle.cap_grammar.specs.declared.tree.Command.{Command}
use Rattle.cap_grammar.specs.declared.tree.Command.TheVariants.{Register, Finalise, Plan, Object, Src, Tgt, Let, Call}
use Rattle.cap_grammar.specs.declared.tree.Item.{Item}
use Rattle.cap_grammar.specs.declared.tree.Item.TheVariants as top
use Rattle.cap_grammar.specs.Grammar.{fixed, name, number, sign, int, ref, path, lone, multiple, combo, term, sum, entry, row, inside, rows, list, map, object, morphism, arg, command, over, table_line, quiver_line, objects, lines, head, block, part}
use Rattle.cap_spelling.specs.Spelling.{separated_symbols, sign_symbols, int_symbols, part_symbols, ref_symbols, path_symbols, term_symbols, sum_symbols, combo_symbols, entry_symbols, row_symbols, rows_symbols, list_symbols, map_symbols, maps_symbols, object_symbols, morphism_symbols, arg_symbols, weight_symbols, command_symbols, over_symbols, line_symbols, head_symbols, objects_symbols, block_symbols, part_of_script_symbols}
use Rattle.cap_spelling.proofs.Plain.{Plain, plain_fixed, plain_name, plain_operation, plain_nought, plain_number, plain_nothing, plain_none, plain_joined, plain_each, plain_some, plain_separated}

plain_sign : (minus : Bool) → Plain (sign minus) (sign_symbols minus)
plain_sign true = plain_fixed word.Minus
plain_sign false = plain_nothing

plain_int : (i : IntTok) → Plain (int i) (int_symbols i)
plain_int i = plain_joined (plain_sign i.minus) (plain_number i.digits)

plain_part : (n : Option ℕ) → Plain (maybe (λ n. fixed word.Dot · number n) n) (part_symbols n)
plain_part None = plain_nothing
plain_part (Some n) = plain_joined (plain_fixed word.Dot) (plain_number n)

plain_ref : (r : RefTok) → Plain (ref r) (ref_symbols r)
plain_ref r = plain_joined (plain_name r.name) (plain_part r.part)

plain_path : (names : List (List ℕ)) → Plain (path names) (path_symbols names)
plain_path names = plain_separated word.Star plain_name names

plain_lone : (names : List (List ℕ)) → Plain (lone names) (path_symbols names)
plain_lone [] = plain_none (path_symbols [])
plain_lone (n ∷ []) = plain_name n
plain_lone (n ∷ m ∷ others) = plain_none (path_symbols (n ∷ m ∷ others))

plain_multiple : (t : TermTok) → Plain (multiple t) (term_symbols t)
plain_multiple t = plain_joined (plain_int t.coeff) (plain_lone t.path)

plain_term : (t : TermTok) → Plain (term t) (term_symbols t)
plain_term t = plain_joined (plain_int t.coeff) (plain_path t.path)

plain_sum : (ts : List TermTok) → Plain (sum ts) (sum_symbols ts)
plain_sum ts = plain_separated word.Plus plain_term ts

plain_combo : (ts : List TermTok) → Plain (combo ts) (combo_symbols ts)
plain_combo [] = plain_nought
plain_combo (t ∷ ts) = plain_separated word.Plus plain_multiple (t ∷ ts)

plain_entry : (e : EntryTok) → Plain (entry e) (entry_symbols e)
plain_entry (cell.Int i) = plain_int i
plain_entry (cell.Coeffs is) = plain_joined (plain_fixed word.OpenRound) (plain_joined (plain_each plain_int is) (plain_fixed word.CloseRound))

plain_row : (es : List EntryTok) → Plain (row es) (row_symbols es)
plain_row es = plain_some plain_entry es

plain_inside : (rs : List (List EntryTok)) → Plain (inside rs) (separated_symbols row_symbols (symbol.Fixed word.Semicolon) rs)
plain_inside [] = plain_nothing
plain_inside (r ∷ rs) = plain_separated word.Semicolon plain_row (r ∷ rs)

plain_rows : (m : RowsTok) → Plain (rows m) (rows_symbols m)
plain_rows m = plain_joined (plain_fixed word.Open) (plain_joined (plain_inside m.rows) (plain_fixed word.Close))

plain_list : (names : List (List ℕ)) → Plain (list names) (list_symbols names)
plain_list names = plain_joined (plain_fixed word.Open) (plain_joined (plain_each plain_name names) (plain_fixed word.Close))

plain_map : (m : List (List ℕ) × RowsTok) → Plain (map m) (map_symbols m)
plain_map m = plain_joined (plain_path m.0) (plain_joined (plain_fixed word.Equals) (plain_rows m.1))

plain_maps : (ms : Option (List (List (List ℕ) × RowsTok))) → Plain (maybe (λ ms. fixed word.Maps · each map ms) ms) (maps_symbols ms)
plain_maps None = plain_nothing
plain_maps (Some ms) = plain_joined (plain_fixed word.Maps) (plain_each plain_map ms)

plain_object : (o : ObjTok) → Plain (object o) (object_symbols o)
plain_object (Dim n) = plain_number n
plain_object (Parts names) = plain_list names
plain_object (Relation src tgt rho) = plain_joined (plain_list src) (plain_joined (plain_fixed word.To) (plain_joined (plain_list tgt) (plain_rows rho)))
plain_object (Dims dims maps) = plain_joined (plain_fixed word.Dims) (plain_joined (plain_some plain_number dims) (plain_maps maps))

plain_morphism : (m : MorTok) → Plain (morphism m) (morphism_symbols m)
plain_morphism (matrices.Rows m) = plain_rows m
plain_morphism (matrices.Parts ms) = plain_joined (plain_fixed word.OpenBrace) (plain_joined (plain_each plain_rows ms) (plain_fixed word.CloseBrace))

plain_arg : (a : ArgTok) → Plain (arg a) (arg_symbols a)
plain_arg (argument.Ref r) = plain_ref r
plain_arg (argument.Int i) = plain_int i

plain_weight : (weight : Option ℕ) → Plain (maybe number weight) (weight_symbols weight)
plain_weight None = plain_nothing
plain_weight (Some n) = plain_number n

plain_line_end : Plain (fixed word.Newline) (symbol.Fixed word.Newline ∷ [])
plain_line_end = plain_fixed word.Newline

pub plain_command : (c : Command ObjTok MorTok) → Plain (command c) (command_symbols c)
plain_command (Register cat op weight) = plain_joined (plain_fixed word.Register) (plain_joined (plain_name cat) (plain_joined (plain_operation op) (plain_joined (plain_weight weight) plain_line_end)))
plain_command (Finalise cat) = plain_joined (plain_fixed word.Finalise) (plain_joined (plain_name cat) plain_line_end)
plain_command (Plan cat) = plain_joined (plain_fixed word.Plan) (plain_joined (plain_name cat) plain_line_end)
plain_command (Object cat x lit) = plain_joined (plain_fixed word.Object) (plain_joined (plain_name cat) (plain_joined (plain_name x) (plain_joined (plain_fixed word.Equals) (plain_joined (plain_object lit) plain_line_end))))
plain_command (Src x of) = plain_joined (plain_fixed word.Let) (plain_joined (plain_name x) (plain_joined (plain_fixed word.Equals) (plain_joined (plain_fixed word.Src) (plain_joined (plain_ref of) plain_line_end))))
plain_command (Tgt x of) = plain_joined (plain_fixed word.Let) (plain_joined (plain_name x) (plain_joined (plain_fixed word.Equals) (plain_joined (plain_fixed word.Tgt) (plain_joined (plain_ref of) plain_line_end))))
plain_command (Let x cat src tgt lit) =
    plain_joined (plain_fixed word.Let)
    (plain_joined (plain_name x)
    (plain_joined (plain_fixed word.Equals) (plain_joined (plain_name cat) (plain_joined (plain_ref src) (plain_joined (plain_fixed word.To) (plain_joined (plain_ref tgt) (plain_joined (plain_morphism lit) plain_line_end)))))))
plain_command (Call x cat op args) =
    plain_joined (plain_fixed word.Let) (plain_joined (plain_name x) (plain_joined (plain_fixed word.Equals) (plain_joined (plain_name cat) (plain_joined (plain_operation op) (plain_joined (plain_each plain_arg args) plain_line_end)))))

plain_over : (o : Over) → Plain (over o) (over_symbols o)
plain_over (kind.Vec prime) = plain_joined (plain_fixed word.Vec) (plain_number prime)
plain_over (kind.Add table) = plain_joined (plain_fixed word.Add) (plain_name table)
plain_over (kind.Freyd table) = plain_joined (plain_fixed word.Freyd) (plain_name table)
plain_over (kind.Rep table) = plain_joined (plain_fixed word.Rep) (plain_name table)

plain_named : (w : Fixed) (n src tgt : List ℕ) → Plain (fixed w · name n · name src · name tgt · fixed word.Newline) (symbol.Fixed w ∷ symbol.Name n ∷ symbol.Name src ∷ symbol.Name tgt ∷ symbol.Fixed word.Newline ∷ [])
plain_named w n src tgt = plain_joined (plain_fixed w) (plain_joined (plain_name n) (plain_joined (plain_name src) (plain_joined (plain_name tgt) plain_line_end)))

plain_table_line : (l : BlockLine) → Plain (table_line l) (line_symbols l)
plain_table_line (line.Basis b src tgt) = plain_named word.Basis b src tgt
plain_table_line (line.Unit x c) = plain_joined (plain_fixed word.Unit) (plain_joined (plain_name x) (plain_joined (plain_fixed word.Equals) (plain_joined (plain_combo c) plain_line_end)))
plain_table_line (line.Product left right c) =
    plain_joined (plain_fixed word.Product) (plain_joined (plain_name left) (plain_joined (plain_name right) (plain_joined (plain_fixed word.Equals) (plain_joined (plain_combo c) plain_line_end))))
plain_table_line (line.Arrow a src tgt) = plain_none (line_symbols (line.Arrow a src tgt))
plain_table_line (line.Relation s) = plain_none (line_symbols (line.Relation s))

plain_quiver_line : (l : BlockLine) → Plain (quiver_line l) (line_symbols l)
plain_quiver_line (line.Basis b src tgt) = plain_none (line_symbols (line.Basis b src tgt))
plain_quiver_line (line.Unit x c) = plain_none (line_symbols (line.Unit x c))
plain_quiver_line (line.Product left right c) = plain_none (line_symbols (line.Product left right c))
plain_quiver_line (line.Arrow a src tgt) = plain_named word.Arrow a src tgt
plain_quiver_line (line.Relation s) = plain_joined (plain_fixed word.Relation) (plain_joined (plain_sum s) plain_line_end)

plain_lines : (bound : Option ℕ) (ls : List BlockLine) → Plain (lines bound ls) (flat_map line_symbols ls)
plain_lines None ls = plain_each plain_table_line ls
plain_lines (Some bound) ls = plain_each plain_quiver_line ls

plain_head : (n : List ℕ) (prime : ℕ) (bound : Option ℕ) → Plain (head n prime bound) (head_symbols n prime bound)
plain_head n prime None = plain_joined (plain_fixed word.Table) (plain_joined (plain_name n) (plain_joined (plain_fixed word.Prime) (plain_joined (plain_number prime) plain_line_end)))
plain_head n prime (Some bound) =
    plain_joined (plain_fixed word.Quiver)
    (plain_joined (plain_name n) (plain_joined (plain_fixed word.Prime) (plain_joined (plain_number prime) (plain_joined (plain_fixed word.Bound) (plain_joined (plain_number bound) plain_line_end)))))

plain_objects : (names : List (List ℕ)) → Plain (objects names) (objects_symbols names)
plain_objects names = plain_joined (plain_fixed word.Objects) (plain_joined (plain_some plain_name names) plain_line_end)

plain_block : (b : Block) → Plain (block b) (block_symbols b)
plain_block b = plain_joined (plain_head b.name b.prime b.bound) (plain_joined (plain_objects b.objects) (plain_joined (plain_lines b.bound b.lines) (plain_joined (plain_fixed word.End) plain_line_end)))

pub plain_part_of_script : (p : Item ObjTok MorTok) → Plain (part p) (part_of_script_symbols p)
plain_part_of_script (top.Block b) = plain_block b
plain_part_of_script (top.Category n o) = plain_joined (plain_fixed word.Category) (plain_joined (plain_name n) (plain_joined (plain_over o) plain_line_end))
plain_part_of_script (top.Command c) = plain_command c
