-- The literals of matrices of a script without faults.
use Rattle.std.proofs.Common.{◌≡◌, ℕ, ◌≤◌, ◌^◌, ◌-◌, nat_abs, min, List, [], ◌∷◌, ◌++◌, map, Bool, true, false, Option, Some, refl, ap, sym, ◌∙◌, subst, arith}
use Rattle.std.specs.List.{All}
use Rattle.std.proofs.lemmas.List.Elements.{All-head, All-tail, All-map}
use Rattle.cap_grammar.specs.declared.tree.EntryTok.{EntryTok}
use Rattle.cap_grammar.specs.declared.tree.EntryTok.TheVariants as cell
use Rattle.cap_grammar.specs.declared.tree.RowsTok.{RowsTok}
use Rattle.cap_grammar.specs.declared.tree.ObjTok.{ObjTok}
use Rattle.cap_grammar.specs.declared.tree.ObjTok.TheVariants.{Dim, Parts, Relation, Dims}
use Rattle.cap_grammar.specs.declared.tree.MorTok.{MorTok}
use Rattle.cap_grammar.specs.declared.tree.MorTok.TheVariants as matrices
use Rattle.cap_grammar.specs.declared.tree.Over.{Over}
use Rattle.cap_grammar.specs.declared.tree.Over.TheVariants.{Vec}
use Rattle.cap_grammar.specs.declared.tree.Command.{Command}
use Rattle.cap_grammar.specs.declared.tree.Command.TheVariants.{Register, Finalise, Plan, Object, Src, Tgt, Let, Call}
use Rattle.cap_grammar.specs.declared.tree.Item.{Item}
use Rattle.cap_grammar.specs.declared.tree.Item.TheVariants as top
use Rattle.cap_grammar.specs.declared.tree.Script.{Script}
use Rattle.cap_block_faults.specs.Names.{Part, over_of}
use Rattle.cap_faults.specs.Scripts.{SessionCommand, Session}
use Rattle.cap_checked.specs.Checked.{small, short, signed, parts_behind, placed_command, node, checked_of}
use Rattle.cap_checked.specs.Checked as checked
use Rattle.cap_sound.specs.Forms.{IsEntry, HasEntries, IsMatrix, IsMatrixObject, HasObjectForm, HasMorphismForm, HasObject, HasMorphism, CommandFits, ItemFits, ScriptFits}
use Rattle.cap_sound.proofs.Fit.{all_fits}
use Rattle.cap_check.specs.Unbuilt.{CheckedPart}
use Rattle.cap_fitting.specs.Categories.{category_over}
use Rattle.cap_fitting.specs.Forms.{CheckedCommand, CheckedSession}
use Rattle.cap_fitting.specs.Literals.{IsDimension, IsInteger, IsIntegerMatrix, LiteralFits, PartLiteralFits, LiteralsFit}
use Rattle.cap_fitting.specs.Laws.{LiteralsOfFormsFit}
use Rattle.cap_fitting.proofs.Lists.{made_of}
use Rattle.cap_fitting.proofs.Checked.{part_at, same_over}

-- a number that is held to its type is no larger
lower : (n m : ℕ) → min n m ≤ n
lower n m = grind arith

dimension_of : (parts : List Part) (prime : ℕ) (lit : ObjTok) → IsMatrixObject lit → IsDimension (checked.object_lit parts (Some (Vec prime)) lit)
dimension_of parts prime (Dim n) h = let e = lower n (2 ^ 32 - 1) in omega (arith, h, e)
dimension_of parts prime (Parts names) h = absurd h
dimension_of parts prime (Relation src tgt rho) h = absurd h
dimension_of parts prime (Dims dims maps) h = absurd h

signed_size : (minus : Bool) (n : ℕ) → nat_abs (signed minus n) ≡ n
signed_size true n = grind arith
signed_size false n = refl

entry_of : (e : EntryTok) → IsEntry false e → IsInteger (checked.entry e)
entry_of (cell.Int i) h =
    let size = signed_size i.minus (short i.digits) in
    let less = lower i.digits (2 ^ 63 - 1) in
    omega (arith, h, size, less)
entry_of (cell.Coeffs is) h = absurd h

row_of : (es : List EntryTok) → All (IsEntry false) es → All IsInteger (map checked.entry es)
row_of es h = All-map IsInteger checked.entry es (λ i d lt. entry_of _ (h i d lt))

rows_of : (m : RowsTok) → HasEntries false m → IsIntegerMatrix (checked.morphism_lit (matrices.Rows m))
rows_of m h = All-map (λ row. All IsInteger row) (map checked.entry) m.rows (λ i d lt. row_of _ (h i d lt))

matrix_of : (lit : MorTok) → IsMatrix false lit → IsIntegerMatrix (checked.morphism_lit lit)
matrix_of (matrices.Rows m) h = rows_of m h
matrix_of (matrices.Parts ms) h = absurd h

-- one kind at most
one_over : (o : Option Over) (a b : Over) → o ≡ Some a → o ≡ Some b → a ≡ b
one_over o a b e f = let both : Some a ≡ Some b = sym e ∙ f in cc

object_literal : (parts : List Part) (cat : List ℕ) (lit : ObjTok) → HasObject parts cat lit → (prime : ℕ) → over_of parts cat ≡ Some (Vec prime) → IsDimension (checked.object_lit parts (over_of parts cat) lit)
object_literal parts cat lit h prime e =
    subst (λ o. IsDimension (checked.object_lit parts o lit)) (sym e)
    (dimension_of parts prime lit (subst (λ over. HasObjectForm parts over lit) (one_over (over_of parts cat) h.over (Vec prime) h.known e) h.form))

morphism_literal : (parts : List Part) (cat : List ℕ) (lit : MorTok) → HasMorphism parts cat lit → (prime : ℕ) → over_of parts cat ≡ Some (Vec prime) → IsIntegerMatrix (checked.morphism_lit lit)
morphism_literal parts cat lit h prime e =
    matrix_of lit (subst (λ over. HasMorphismForm parts over lit) (one_over (over_of parts cat) h.over (Vec prime) h.known e) h.form)

command_literal : (parts : List Part) (c : Command ObjTok MorTok) → CommandFits parts c → LiteralFits (over_of parts) (checked.command parts c)
command_literal parts (Register cat op weight) h = tt
command_literal parts (Finalise cat) h = tt
command_literal parts (Plan cat) h = tt
command_literal parts (Object cat x lit) h = object_literal parts cat lit h
command_literal parts (Src x of) h = tt
command_literal parts (Tgt x of) h = tt
command_literal parts (Let x cat src tgt lit) h = morphism_literal parts cat lit h
command_literal parts (Call x cat op args) h = tt

item_literal : (parts : List Part) (n : Item ObjTok MorTok) → ItemFits parts n → PartLiteralFits (over_of parts) (node parts n)
item_literal parts (top.Block b) h = tt
item_literal parts (top.Category n over) h = tt
item_literal parts (top.Command c) h = command_literal parts c h

-- what the categories of the checked form are over
overs : (parts : List Part) → over_of parts ≡ category_over (parts_behind [] parts)
overs parts = λ i name. sym (same_over [] parts name) i

part_literal : (s : Script) → ScriptFits s → (before behind : List CheckedPart) (p : CheckedPart) → parts_behind [] s.prelude ≡ before ++ (p ∷ behind) → PartLiteralFits (category_over before) p.node
part_literal s fits before behind p e =
    let at = part_at [] s.prelude before behind p e in
    let own : PartLiteralFits (category_over (parts_behind [] at.front)) (node at.front at.one.node) =
    subst (λ over. PartLiteralFits over (node at.front at.one.node)) (overs at.front) (item_literal at.front at.one.node (fits.prelude at.front at.rest at.one at.whole))
    in
    subst (λ before. PartLiteralFits (category_over before) p.node) (sym at.same_front) (subst (λ (q : CheckedPart). PartLiteralFits (category_over (parts_behind [] at.front)) q.node) (sym at.same) own)

-- one of all
all_there : {A : Type 0} (P : A → Type 0) (before behind : List A) (x : A) → All P (before ++ (x ∷ behind)) → P x
all_there P [] behind x h = All-head P x behind h
all_there P (y ∷ before) behind x h = all_there P before behind x (All-tail P y (before ++ (x ∷ behind)) h)

abbrev AllCommandsFit : List Part → Session → Type 0
AllCommandsFit parts x = All (λ c. CommandFits parts c.node) x.node.commands

session_literals : (s : Script) → ScriptFits s → (before behind : List CheckedSession) (x : CheckedSession) → map (checked.session s.prelude) s.sessions ≡ before ++ (x ∷ behind)
    → (earlier later : List CheckedCommand) (c : CheckedCommand) → x.node.commands ≡ earlier ++ (c ∷ later) → LiteralFits (category_over (parts_behind [] s.prelude)) c.node
session_literals s fits before behind x e earlier later c f =
    let at = made_of (checked.session s.prelude) s.sessions before behind x e in
    let there : AllCommandsFit s.prelude at.one = all_there (AllCommandsFit s.prelude) at.front at.rest at.one (subst (All (AllCommandsFit s.prelude)) at.whole fits.sessions) in
    let commands : map (placed_command s.prelude) at.one.node.commands ≡ earlier ++ (c ∷ later) = ap (λ (y : CheckedSession). y.node.commands) (sym at.same) ∙ f in
    let own = made_of (placed_command s.prelude) at.one.node.commands earlier later c commands in
    let here : CommandFits s.prelude own.one.node = all_there (λ (d : SessionCommand). CommandFits s.prelude d.node) own.front own.rest own.one (subst (All (λ (d : SessionCommand). CommandFits s.prelude d.node)) own.whole there) in
    subst (λ (d : CheckedCommand). LiteralFits (category_over (parts_behind [] s.prelude)) d.node) (sym own.same)
    (subst (λ over. LiteralFits over (checked.command s.prelude own.one.node)) (overs s.prelude) (command_literal s.prelude own.one.node here))

script_literals : (s : Script) → ScriptFits s → LiteralsFit (checked_of s)
script_literals s fits = record { parts = part_literal s fits; sessions = session_literals s fits }

pub literals_fit : LiteralsOfFormsFit
literals_fit form is = subst LiteralsFit (sym is.formed) (script_literals is.script (all_fits is.script is.given is.sound))
