-- The text of each node is whole lines, and none of them is empty.
use Rattle.std.proofs.Common.{◌≡◌, ℕ, List, [], ◌∷◌, Bool, true, false, Option, Some, None, refl, sym, subst, ⊎_elim}
use Rattle.std.specs.Prelude.{◌&&◌}
use Rattle.cap_names.specs.declared.identifiers.OpId.{OpId}
use Rattle.cap_reading.specs.Languages.{item, nothing, ◌·◌, each, some_of, separated, maybe}
use Rattle.cap_grammar.specs.declared.symbol.Fixed.{Fixed}
use Rattle.cap_grammar.specs.declared.symbol.Fixed.TheVariants as word
use Rattle.cap_grammar.specs.declared.symbol.Symbol.{Symbol}
use Rattle.cap_grammar.specs.declared.symbol.Symbol.TheVariants as symbol
use Rattle.cap_grammar.specs.declared.tree.IntTok.{IntTok}
use Rattle.cap_grammar.specs.declared.tree.TermTok.{TermTok}
use Rattle.cap_grammar.specs.declared.tree.RefTok.{RefTok}
use Rattle.cap_grammar.specs.declared.tree.ArgTok.{ArgTok}
use Rattle.cap_grammar.specs.declared.tree.ArgTok.TheVariants as argument
use Rattle.cap_grammar.specs.declared.tree.EntryTok.{EntryTok}
use Rattle.cap_grammar.specs.declared.tree.EntryTok.TheVariants as cell
use Rattle.cap_grammar.specs.declared.tree.RowsTok.{RowsTok}
use Rattle.cap_grammar.specs.declared.tree.ObjTok.{ObjTok}
use Rattle.cap_grammar.specs.declared.tree.ObjTok.TheVariants.{Dim, Parts, Relation, Dims}
use Rattle.cap_grammar.specs.declared.tree.MorTok.{MorTok}
use Rattle.cap_grammar.specs.declared.tree.MorTok.TheVariants as matrices
use Rattle.cap_grammar.specs.declared.tree.Over.{Over}
use Rattle.cap_grammar.specs.declared.tree.Over.TheVariants as kind
use Rattle.cap_grammar.specs.declared.tree.BlockLine.{BlockLine}
use Rattle.cap_grammar.specs.declared.tree.BlockLine.TheVariants as line
use Rattle.cap_grammar.specs.declared.tree.Block.{Block}
use Rattle.cap_grammar.specs.declared.tree.Command.{Command}
use Rattle.cap_grammar.specs.declared.tree.Command.TheVariants.{Register, Finalise, Plan, Object, Src, Tgt, Let, Call}
use Rattle.cap_grammar.specs.declared.tree.Item.{Item}
use Rattle.cap_grammar.specs.declared.tree.Item.TheVariants as top
use Rattle.cap_grammar.specs.Grammar as grammar
use Rattle.cap_grammar.specs.Grammar.{fixed}
use Rattle.cap_grammar.specs.Scripts.{is_newline}
use Rattle.cap_lines.proofs.Kept.{Runs, runs_append}

-- Each list of the language is a run.
abbrev pub Run : Bool → Bool → (List Symbol → Type 0) → Type 0
Run b c p = (l : List Symbol) → p l → Runs b l c

-- no end of a line, begun within a line
abbrev Inner : (List Symbol → Type 0) → Type 0
Inner p = Run false false p

infixr 40 ◌⊳◌
pub ◌⊳◌ : {p q : List Symbol → Type 0} {b c d : Bool} → Run b c p → Run c d q → Run b d (p · q)
◌⊳◌ {b = b} {c = c} {d = d} f g l h = subst (λ l. Runs b l d) (sym h.split) (runs_append b c d h.front h.rest (f h.front h.first) (g h.rest h.second))

and_no : (b c : Bool) → c ≡ false → (b && c) ≡ false
and_no true c h = h
and_no false c h = refl

one_run : (b : Bool) (s : Symbol) → is_newline s ≡ false → Run b false (item s)
one_run b s e l h = subst (λ l. Runs b l false) (sym h) (and_no b (is_newline s) e, e)

pub begin : (w : Fixed) → is_newline (symbol.Fixed w) ≡ false → Run true false (fixed w)
begin w e = one_run true (symbol.Fixed w) e

word_run : (w : Fixed) → is_newline (symbol.Fixed w) ≡ false → Inner (fixed w)
word_run w e = one_run false (symbol.Fixed w) e

pub end_run : Run false true (fixed word.Newline)
end_run l h = subst (λ l. Runs false l true) (sym h) (refl, refl)

pub name_run : (n : List ℕ) → Inner (grammar.name n)
name_run n = one_run false (symbol.Name n) refl

operation_run : (op : OpId) → Inner (grammar.operation op)
operation_run op = one_run false (symbol.Operation op) refl

number_run : (n : ℕ) → Inner (grammar.number n)
number_run n l h = ⊎_elim (one_run false (symbol.Number n) refl l) (λ p. one_run false symbol.Nought refl l p.1) h

none_run : (b : Bool) → Run b b nothing
none_run b l h = subst (λ l. Runs b l b) (sym h) refl

each_run : {A : Type 0} (b : Bool) (p : A → List Symbol → Type 0) → ((a : A) → Run b b (p a)) → (xs : List A) → Run b b (each p xs)
each_run b p f [] = none_run b
each_run b p f (a ∷ xs) = f a ⊳ each_run b p f xs

some_run : {A : Type 0} (p q : A → List Symbol → Type 0) → ((a : A) → Inner (p a)) → ((a : A) → Inner (q a)) → (xs : List A) → Inner (some_of p q xs)
some_run p q f g [] = λ l h. absurd h
some_run p q f g (a ∷ xs) = f a ⊳ each_run false q g xs

separated_run : {A : Type 0} (p : A → List Symbol → Type 0) (w : Fixed) → is_newline (symbol.Fixed w) ≡ false → ((a : A) → Inner (p a)) → (xs : List A) → Inner (separated p (fixed w) xs)
separated_run p w e f = some_run p (λ a. fixed w · p a) f (λ a. word_run w e ⊳ f a)

maybe_run : {A : Type 0} (p : A → List Symbol → Type 0) → ((a : A) → Inner (p a)) → (o : Option A) → Inner (maybe p o)
maybe_run p f None = none_run false
maybe_run p f (Some a) = f a

sign_run : (minus : Bool) → Inner (grammar.sign minus)
sign_run true = word_run word.Minus refl
sign_run false = none_run false

int_run : (i : IntTok) → Inner (grammar.int i)
int_run i = sign_run i.minus ⊳ number_run i.digits

ref_run : (r : RefTok) → Inner (grammar.ref r)
ref_run r = name_run r.name ⊳ maybe_run (λ n. fixed word.Dot · grammar.number n) (λ n. word_run word.Dot refl ⊳ number_run n) r.part

path_run : (names : List (List ℕ)) → Inner (grammar.path names)
path_run = separated_run grammar.name word.Star refl name_run

lone_run : (names : List (List ℕ)) → Inner (grammar.lone names)
lone_run [] = λ l h. absurd h
lone_run (n ∷ []) = name_run n
lone_run (n ∷ m ∷ others) = λ l h. absurd h

multiple_run : (t : TermTok) → Inner (grammar.multiple t)
multiple_run t = int_run t.coeff ⊳ lone_run t.path

combo_run : (ts : List TermTok) → Inner (grammar.combo ts)
combo_run [] = one_run false symbol.Nought refl
combo_run (t ∷ ts) = separated_run grammar.multiple word.Plus refl multiple_run (t ∷ ts)

term_run : (t : TermTok) → Inner (grammar.term t)
term_run t = int_run t.coeff ⊳ path_run t.path

sum_run : (ts : List TermTok) → Inner (grammar.sum ts)
sum_run = separated_run grammar.term word.Plus refl term_run

entry_run : (e : EntryTok) → Inner (grammar.entry e)
entry_run (cell.Int i) = int_run i
entry_run (cell.Coeffs is) = word_run word.OpenRound refl ⊳ each_run false grammar.int int_run is ⊳ word_run word.CloseRound refl

row_run : (es : List EntryTok) → Inner (grammar.row es)
row_run = some_run grammar.entry grammar.entry entry_run entry_run

inside_run : (rs : List (List EntryTok)) → Inner (grammar.inside rs)
inside_run [] = none_run false
inside_run (r ∷ rs) = separated_run grammar.row word.Semicolon refl row_run (r ∷ rs)

rows_run : (m : RowsTok) → Inner (grammar.rows m)
rows_run m = word_run word.Open refl ⊳ inside_run m.rows ⊳ word_run word.Close refl

list_run : (names : List (List ℕ)) → Inner (grammar.list names)
list_run names = word_run word.Open refl ⊳ each_run false grammar.name name_run names ⊳ word_run word.Close refl

map_run : (m : List (List ℕ) × RowsTok) → Inner (grammar.map m)
map_run m = path_run m.0 ⊳ word_run word.Equals refl ⊳ rows_run m.1

maps_run : (ms : List (List (List ℕ) × RowsTok)) → Inner (fixed word.Maps · each grammar.map ms)
maps_run ms = word_run word.Maps refl ⊳ each_run false grammar.map map_run ms

object_run : (o : ObjTok) → Inner (grammar.object o)
object_run (Dim n) = number_run n
object_run (Parts names) = list_run names
object_run (Relation src tgt rho) = list_run src ⊳ word_run word.To refl ⊳ list_run tgt ⊳ rows_run rho
object_run (Dims dims maps) = word_run word.Dims refl ⊳ some_run grammar.number grammar.number number_run number_run dims ⊳ maybe_run (λ ms. fixed word.Maps · each grammar.map ms) maps_run maps

morphism_run : (m : MorTok) → Inner (grammar.morphism m)
morphism_run (matrices.Rows m) = rows_run m
morphism_run (matrices.Parts ms) = word_run word.OpenBrace refl ⊳ each_run false grammar.rows rows_run ms ⊳ word_run word.CloseBrace refl

arg_run : (a : ArgTok) → Inner (grammar.arg a)
arg_run (argument.Ref r) = ref_run r
arg_run (argument.Int i) = int_run i

pub command_run : (c : Command ObjTok MorTok) → Run true true (grammar.command c)
command_run (Register cat op weight) = begin word.Register refl ⊳ name_run cat ⊳ operation_run op ⊳ maybe_run grammar.number number_run weight ⊳ end_run
command_run (Finalise cat) = begin word.Finalise refl ⊳ name_run cat ⊳ end_run
command_run (Plan cat) = begin word.Plan refl ⊳ name_run cat ⊳ end_run
command_run (Object cat x lit) = begin word.Object refl ⊳ name_run cat ⊳ name_run x ⊳ word_run word.Equals refl ⊳ object_run lit ⊳ end_run
command_run (Src x of) = begin word.Let refl ⊳ name_run x ⊳ word_run word.Equals refl ⊳ word_run word.Src refl ⊳ ref_run of ⊳ end_run
command_run (Tgt x of) = begin word.Let refl ⊳ name_run x ⊳ word_run word.Equals refl ⊳ word_run word.Tgt refl ⊳ ref_run of ⊳ end_run
command_run (Let x cat src tgt lit) = begin word.Let refl ⊳ name_run x ⊳ word_run word.Equals refl ⊳ name_run cat ⊳ ref_run src ⊳ word_run word.To refl ⊳ ref_run tgt ⊳ morphism_run lit ⊳ end_run
command_run (Call x cat op args) = begin word.Let refl ⊳ name_run x ⊳ word_run word.Equals refl ⊳ name_run cat ⊳ operation_run op ⊳ each_run false grammar.arg arg_run args ⊳ end_run

over_run : (o : Over) → Inner (grammar.over o)
over_run (kind.Vec prime) = word_run word.Vec refl ⊳ number_run prime
over_run (kind.Add table) = word_run word.Add refl ⊳ name_run table
over_run (kind.Freyd table) = word_run word.Freyd refl ⊳ name_run table
over_run (kind.Rep table) = word_run word.Rep refl ⊳ name_run table

table_line_run : (l : BlockLine) → Run true true (grammar.table_line l)
table_line_run (line.Basis b src tgt) = begin word.Basis refl ⊳ name_run b ⊳ name_run src ⊳ name_run tgt ⊳ end_run
table_line_run (line.Unit x c) = begin word.Unit refl ⊳ name_run x ⊳ word_run word.Equals refl ⊳ combo_run c ⊳ end_run
table_line_run (line.Product left right c) = begin word.Product refl ⊳ name_run left ⊳ name_run right ⊳ word_run word.Equals refl ⊳ combo_run c ⊳ end_run
table_line_run (line.Arrow a src tgt) = λ l h. absurd h
table_line_run (line.Relation s) = λ l h. absurd h

quiver_line_run : (l : BlockLine) → Run true true (grammar.quiver_line l)
quiver_line_run (line.Basis b src tgt) = λ l h. absurd h
quiver_line_run (line.Unit x c) = λ l h. absurd h
quiver_line_run (line.Product left right c) = λ l h. absurd h
quiver_line_run (line.Arrow a src tgt) = begin word.Arrow refl ⊳ name_run a ⊳ name_run src ⊳ name_run tgt ⊳ end_run
quiver_line_run (line.Relation s) = begin word.Relation refl ⊳ sum_run s ⊳ end_run

objects_run : (names : List (List ℕ)) → Run true true (grammar.objects names)
objects_run names = begin word.Objects refl ⊳ some_run grammar.name grammar.name name_run name_run names ⊳ end_run

lines_run : (bound : Option ℕ) (ls : List BlockLine) → Run true true (grammar.lines bound ls)
lines_run None ls = each_run true grammar.table_line table_line_run ls
lines_run (Some bound) ls = each_run true grammar.quiver_line quiver_line_run ls

head_run : (n : List ℕ) (prime : ℕ) (bound : Option ℕ) → Run true true (grammar.head n prime bound)
head_run n prime None = begin word.Table refl ⊳ name_run n ⊳ word_run word.Prime refl ⊳ number_run prime ⊳ end_run
head_run n prime (Some bound) = begin word.Quiver refl ⊳ name_run n ⊳ word_run word.Prime refl ⊳ number_run prime ⊳ word_run word.Bound refl ⊳ number_run bound ⊳ end_run

block_run : (b : Block) → Run true true (grammar.block b)
block_run b = head_run b.name b.prime b.bound ⊳ objects_run b.objects ⊳ lines_run b.bound b.lines ⊳ begin word.End refl ⊳ end_run

pub part_run : (i : Item ObjTok MorTok) → Run true true (grammar.part i)
part_run (top.Block b) = block_run b
part_run (top.Category n o) = begin word.Category refl ⊳ name_run n ⊳ over_run o ⊳ end_run
part_run (top.Command c) = command_run c
