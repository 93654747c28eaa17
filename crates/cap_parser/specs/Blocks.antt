-- Reading what stands before the sessions: blocks, categories and commands.
use Rattle.std.specs.Prelude.{ℕ, List, Bool, true, Some, None, if◌then◌else◌}
use Rattle.cap_reading.specs.Steps.{Read, mapped, skip, before, both, either, many, some}
use Rattle.cap_grammar.specs.declared.symbol.Fixed.TheVariants as word
use Rattle.cap_grammar.specs.declared.symbol.Symbol.{Symbol}
use Rattle.cap_grammar.specs.declared.tree.TermTok.{TermTok}
use Rattle.cap_grammar.specs.declared.tree.ObjTok.{ObjTok}
use Rattle.cap_grammar.specs.declared.tree.MorTok.{MorTok}
use Rattle.cap_grammar.specs.declared.tree.Over.{Over}
use Rattle.cap_grammar.specs.declared.tree.Over.TheVariants as kind
use Rattle.cap_grammar.specs.declared.tree.BlockLine.{BlockLine}
use Rattle.cap_grammar.specs.declared.tree.BlockLine.TheVariants as line
use Rattle.cap_grammar.specs.declared.tree.Block.{Block}
use Rattle.cap_grammar.specs.declared.tree.Item.{Item}
use Rattle.cap_grammar.specs.declared.tree.Item.TheVariants as top
use Rattle.cap_literals.specs.Reading.{is, is_name, name_at, number_at, combo_at, sum_at}
use Rattle.cap_parser.specs.Commands.{starts_command, command_at}

-- "vec" NUM | "add" NAME | "freyd" NAME | "rep" NAME
unfoldable pub over_at : List Symbol → Read Symbol Over
over_at ts = either (is word.Vec) (mapped kind.Vec (skip (is word.Vec) number_at)) (either (is word.Add) (mapped kind.Add (skip (is word.Add) name_at)) (either (is word.Freyd) (mapped kind.Freyd (skip (is word.Freyd) name_at)) (mapped kind.Rep (skip (is word.Rep) name_at)))) ts

-- "category" NAME over LF
abbrev pub new_category : List ℕ × Over → Item ObjTok MorTok
new_category x = top.Category x.0 x.1

unfoldable pub category_at : List Symbol → Read Symbol (Item ObjTok MorTok)
category_at ts = mapped new_category (skip (is word.Category) (both name_at (before over_at (is word.Newline)))) ts

-- NAME NAME NAME LF
unfoldable pub three_names_at : List Symbol → Read Symbol (List ℕ × (List ℕ × List ℕ))
three_names_at ts = both name_at (both name_at (before name_at (is word.Newline))) ts

-- "basis" NAME NAME NAME LF
abbrev pub new_basis : List ℕ × (List ℕ × List ℕ) → BlockLine
new_basis x = line.Basis x.0 x.1.0 x.1.1

unfoldable pub basis_at : List Symbol → Read Symbol BlockLine
basis_at ts = mapped new_basis (skip (is word.Basis) three_names_at) ts

-- "unit" NAME "=" combo LF
abbrev pub new_unit : List ℕ × List TermTok → BlockLine
new_unit x = line.Unit x.0 x.1

unfoldable pub unit_at : List Symbol → Read Symbol BlockLine
unit_at ts = mapped new_unit (skip (is word.Unit) (both name_at (skip (is word.Equals) (before combo_at (is word.Newline))))) ts

-- "product" NAME NAME "=" combo LF
abbrev pub new_product : List ℕ × (List ℕ × List TermTok) → BlockLine
new_product x = line.Product x.0 x.1.0 x.1.1

unfoldable pub product_at : List Symbol → Read Symbol BlockLine
product_at ts = mapped new_product (skip (is word.Product) (both name_at (both name_at (skip (is word.Equals) (before combo_at (is word.Newline)))))) ts

abbrev pub starts_table_line : Symbol → Bool
starts_table_line t = if is word.Basis t then true else (if is word.Unit t then true else is word.Product t)

unfoldable pub table_line_at : List Symbol → Read Symbol BlockLine
table_line_at ts = either (is word.Basis) basis_at (either (is word.Unit) unit_at product_at) ts

-- "arrow" NAME NAME NAME LF
abbrev pub new_arrow : List ℕ × (List ℕ × List ℕ) → BlockLine
new_arrow x = line.Arrow x.0 x.1.0 x.1.1

unfoldable pub arrow_at : List Symbol → Read Symbol BlockLine
arrow_at ts = mapped new_arrow (skip (is word.Arrow) three_names_at) ts

-- "relation" sum LF
unfoldable pub relation_at : List Symbol → Read Symbol BlockLine
relation_at ts = mapped line.Relation (skip (is word.Relation) (before sum_at (is word.Newline))) ts

abbrev pub starts_quiver_line : Symbol → Bool
starts_quiver_line t = if is word.Arrow t then true else is word.Relation t

unfoldable pub quiver_line_at : List Symbol → Read Symbol BlockLine
quiver_line_at ts = either (is word.Arrow) arrow_at relation_at ts

-- "objects" NAME {NAME} LF
unfoldable pub some_names_at : List Symbol → Read Symbol (List (List ℕ))
some_names_at ts = some name_at is_name name_at ts

unfoldable pub objects_at : List Symbol → Read Symbol (List (List ℕ))
objects_at ts = skip (is word.Objects) (before some_names_at (is word.Newline)) ts

-- { line } "end" LF
unfoldable pub table_lines_at : List Symbol → Read Symbol (List BlockLine)
table_lines_at ts = before (before (many starts_table_line table_line_at) (is word.End)) (is word.Newline) ts

unfoldable pub quiver_lines_at : List Symbol → Read Symbol (List BlockLine)
quiver_lines_at ts = before (before (many starts_quiver_line quiver_line_at) (is word.End)) (is word.Newline) ts

-- "table" NAME "prime" NUM LF
unfoldable pub table_head_at : List Symbol → Read Symbol (List ℕ × ℕ)
table_head_at ts = skip (is word.Table) (both name_at (skip (is word.Prime) (before number_at (is word.Newline)))) ts

abbrev pub new_table : (List ℕ × ℕ) × (List (List ℕ) × List BlockLine) → Block
new_table x = record { name = x.0.0; prime = x.0.1; bound = None; objects = x.1.0; lines = x.1.1 }

unfoldable pub table_at : List Symbol → Read Symbol Block
table_at ts = mapped new_table (both table_head_at (both objects_at table_lines_at)) ts

-- "quiver" NAME "prime" NUM "bound" NUM LF
unfoldable pub quiver_head_at : List Symbol → Read Symbol (List ℕ × (ℕ × ℕ))
quiver_head_at ts = skip (is word.Quiver) (both name_at (skip (is word.Prime) (both number_at (skip (is word.Bound) (before number_at (is word.Newline)))))) ts

abbrev pub new_quiver : (List ℕ × (ℕ × ℕ)) × (List (List ℕ) × List BlockLine) → Block
new_quiver x = record { name = x.0.0; prime = x.0.1.0; bound = Some x.0.1.1; objects = x.1.0; lines = x.1.1 }

unfoldable pub quiver_at : List Symbol → Read Symbol Block
quiver_at ts = mapped new_quiver (both quiver_head_at (both objects_at quiver_lines_at)) ts

-- block | category | command
abbrev pub starts_part : Symbol → Bool
starts_part t = if is word.Table t then true else (if is word.Quiver t then true else (if is word.Category t then true else starts_command t))

unfoldable pub part_at : List Symbol → Read Symbol (Item ObjTok MorTok)
part_at ts = either (is word.Table) (mapped top.Block table_at) (either (is word.Quiver) (mapped top.Block quiver_at) (either (is word.Category) category_at (mapped top.Command command_at))) ts
