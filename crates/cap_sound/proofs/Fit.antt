-- What a script of some text without faults says of its blocks, categories and literals.
use Rattle.std.proofs.Common.{◌≤◌, true, false, ◌≡◌, refl, ℕ, suc, ◌+◌, ◌-◌, List, [], ◌∷◌, ◌++◌, length, take, ap, sym, ◌∙◌, subst, arith, Option, Some, None, Bool}
use Rattle.std.specs.Prelude.{not, nat_le, ◌&&◌}
use Rattle.std.specs.List.{All}
use Rattle.std.proofs.lemmas.List.Elements.{All-nil, All-cons}
use Rattle.std.proofs.Math.Seq.{take-append_seam}
use Rattle.cap_names.specs.declared.reasons.Reason.TheVariants.{Known, Taken, Prime, Limit}
use Rattle.cap_reading.specs.Languages.{each}
use Rattle.cap_grammar.specs.declared.symbol.Symbol.{Symbol}
use Rattle.cap_grammar.specs.declared.tree.ObjTok.{ObjTok}
use Rattle.cap_grammar.specs.declared.tree.MorTok.{MorTok}
use Rattle.cap_grammar.specs.declared.tree.Over.{Over}
use Rattle.cap_grammar.specs.declared.tree.Item.{Item}
use Rattle.cap_grammar.specs.declared.tree.Item.TheVariants as top
use Rattle.cap_grammar.specs.declared.tree.Command.{Command}
use Rattle.cap_grammar.specs.declared.tree.Command.TheVariants.{Register, Finalise, Plan, Object, Src, Tgt, Let, Call}
use Rattle.cap_grammar.specs.Grammar as grammar
use Rattle.cap_grammar.specs.Grammar.{command, part}
use Rattle.cap_grammar.specs.Scripts.{symbols, placed, IsSession}
use Rattle.cap_grammar.specs.Scripts as texts
use Rattle.cap_grammar.specs.declared.tree.Over.TheVariants.{Vec, Add, Freyd, Rep}
use Rattle.cap_grammar.specs.declared.tree.Block.{Block}
use Rattle.cap_field.specs.Residue.{is_tabled}
use Rattle.cap_block_faults.specs.Marks.{Mark, free, told, each_from}
use Rattle.cap_block_faults.specs.Names.{Part, has_block, has_category, over_of}
use Rattle.cap_block_faults.specs.Blocks.{bound_marks, objects_marks, block_marks}
use Rattle.cap_faults.specs.declared.values.Value.{Value}
use Rattle.cap_faults.specs.Commands.{Scope, scope, category_mark, ref_marks, object_ref, object_literal, morphism_literal, command_marks}
use Rattle.cap_faults.specs.Scripts.{over_mark, item_marks, values_behind, bound_by_part, bound_by_command, SessionCommand, Session, session_marks, commands_left}
use Rattle.cap_sound.specs.Marked.{marks_of_part, marks_of_command, marks_of_session}
use Rattle.cap_sound.specs.Forms.{IsKnown, OverFits, IsBound, BlockFits, HasObject, HasMorphism, CommandFits, ItemFits}
use Rattle.cap_sound.specs.Laws.{AllFits}
use Rattle.cap_sound.proofs.Sizes.{lines_of_block, head_of_block, block_small}
use Rattle.cap_sound.proofs.Symbols.{AllShort, short_front, short_rest, marks_front, marks_rest, lined}
use Rattle.cap_sound.proofs.Faults.{AllFree, free_front, free_rest, untold}
use Rattle.cap_sound.proofs.Dimensions.{over_known, known}
use Rattle.cap_sound.proofs.Forms.{object_form, morphism_form}
use Rattle.cap_sound.proofs.Sound.{marks_free}

object_fits : (parts : List Part) (cat : List ℕ) (lit : ObjTok) (l : List Symbol) → grammar.object lit l → AllShort l → (o : Option Over) → o ≡ over_of parts cat → (o ≡ None → ⊥) → AllFree (object_literal parts o lit) → HasObject parts cat lit
object_fits parts cat lit l t h None e there f = absurd (there refl)
object_fits parts cat lit l t h (Some over) e there f = record { over = over; known = sym e; form = object_form parts over lit l t h f }

morphism_fits : (parts : List Part) (cat : List ℕ) (lit : MorTok) (l : List Symbol) → grammar.morphism lit l → AllShort l → (o : Option Over) → o ≡ over_of parts cat → (o ≡ None → ⊥) → AllFree (morphism_literal parts o lit) → HasMorphism parts cat lit
morphism_fits parts cat lit l t h None e there f = absurd (there refl)
morphism_fits parts cat lit l t h (Some over) e there f = record { over = over; known = sym e; form = morphism_form parts over lit l t h f }

some_over : (parts : List Part) (cat : List ℕ) (o : Option Over) → o ≡ over_of parts cat → (o ≡ None → ⊥) → IsKnown parts cat
some_over parts cat None e there = absurd (there refl)
some_over parts cat (Some over) e there = (over, sym e)

is_known : (parts : List Part) (cat : List ℕ) → category_mark parts cat ≡ None → IsKnown parts cat
is_known parts cat f = some_over parts cat (over_of parts cat) refl (over_known parts cat (known (has_category parts cat) (untold (not (has_category parts cat)) Known f)))

command_fits : (s : Scope) (c : Command ObjTok MorTok) (l : List Symbol) → command c l → AllShort l → AllFree (command_marks s c) → CommandFits s.parts c
command_fits s (Register cat op weight) l t h f = is_known s.parts cat f.1.0
command_fits s (Finalise cat) l t h f = is_known s.parts cat f.1.0
command_fits s (Plan cat) l t h f = is_known s.parts cat f.1.0
command_fits s (Object cat x lit) l t h f =
    let t4 = t.second.second.second in
    let o = t4.second in
    let r = short_rest t.second.second.rest t4 (short_rest t.second.rest t.second.second (short_rest t.rest t.second (short_rest l t h))) in
    object_fits s.parts cat lit o.front o.first (short_front t4.rest o r) (over_of s.parts cat) refl (over_known s.parts cat (known (has_category s.parts cat) (untold (not (has_category s.parts cat)) Known f.1.0))) f.1.1.1.1
command_fits s (Src x of) l t h f = tt
command_fits s (Tgt x of) l t h f = tt
command_fits s (Let x cat src tgt lit) l t h f =
    let own = f.1.1.1 in
    let behind = (free_rest (ref_marks s.values (object_ref cat) src) (free ∷ (ref_marks s.values (object_ref cat) tgt ++ morphism_literal s.parts (over_of s.parts cat) lit)) own.1).1 in
    let t4 = t.second.second.second in
    let t7 = t4.second.second.second in
    let r4 = short_rest t.second.second.rest t4 (short_rest t.second.rest t.second.second (short_rest t.rest t.second (short_rest l t h))) in
    let r7 = short_rest t4.second.second.rest t7 (short_rest t4.second.rest t4.second.second (short_rest t4.rest t4.second r4)) in
    morphism_fits s.parts cat lit t7.second.front t7.second.first (short_front t7.rest t7.second r7) (over_of s.parts cat) refl (over_known s.parts cat (known (has_category s.parts cat) (untold (not (has_category s.parts cat)) Known own.0)))
    (free_rest (ref_marks s.values (object_ref cat) tgt) (morphism_literal s.parts (over_of s.parts cat) lit) behind)
command_fits s (Call x cat op args) l t h f = is_known s.parts cat f.1.1.1.0

tabled : (prime : ℕ) → told (not (is_tabled prime)) Prime ≡ None → is_tabled prime ≡ true
tabled prime e = known (is_tabled prime) (untold (not (is_tabled prime)) Prime e)

block_there : (parts : List Part) (block : List ℕ) → told (not (has_block parts block)) Known ≡ None → has_block parts block ≡ true
block_there parts block e = known (has_block parts block) (untold (not (has_block parts block)) Known e)

over_fits : (parts : List Part) (o : Over) → over_mark parts o ≡ None → OverFits parts o
over_fits parts (Vec prime) e = tabled prime e
over_fits parts (Add block) e = block_there parts block e
over_fits parts (Freyd block) e = block_there parts block e
over_fits parts (Rep block) e = block_there parts block e

bound_range : (n : ℕ) → not (nat_le 1 n && nat_le n 16) ≡ false → (1 ≤ n) × (n ≤ 16)
bound_range n e = grind (arith, e)

bound_fits : (bound : Option ℕ) → AllFree (bound_marks bound) → IsBound bound
bound_fits None f = tt
bound_fits (Some n) f = bound_range n (untold (not (nat_le 1 n && nat_le n 16)) Limit f.1.0)

block_fits : (full : Bool) (before : List Part) (b : Block) → AllFree (block_marks full before b) → BlockFits before b
block_fits full before b f =
    let few = lines_of_block full before b f in
    let small = block_small full before b f in
    let heads = head_of_block full before b f in
    let bounds = free_front (bound_marks b.bound) (free ∷ free ∷ objects_marks b.objects) (free_front (bound_marks b.bound ++ (free ∷ free ∷ objects_marks b.objects)) (free ∷ []) heads.1.1.1.1) in
    record {
      new = untold (has_block before b.name) Taken heads.1.0;
      prime = tabled b.prime heads.1.1.1.0;
      bound = bound_fits b.bound bounds;
      objects = small.objects;
      elements = few.0;
      arrows = few.1;
    }

item_fits : (full : Bool) (before : List Part) (values : List Value) (n : Item ObjTok MorTok) (l : List Symbol) → part n l → AllShort l → AllFree (item_marks full before values n) → ItemFits before n
item_fits full before values (top.Block b) l t h f = block_fits _ before b f
item_fits full before values (top.Category n o) l t h f = record { new = untold (has_category before n) Taken f.1.0; fits = over_fits before o f.1.1.1.0 }
item_fits full before values (top.Command c) l t h f = command_fits (scope full before (length values) values) c l t h f

-- one part among all
free_there : {A : Type 0} (has : ℕ → A → List Mark) (i : ℕ) (before behind : List A) (x : A) → AllFree (each_from has i (before ++ (x ∷ behind))) → AllFree (has (i + length before) x)
free_there has i [] behind x f = let n : i ≡ i + 0 = omega arith in subst (λ k. AllFree (has k x)) n (free_front (has i x) (each_from has (suc i) behind) f)
free_there has i (y ∷ before) behind x f =
    let n : suc i + length before ≡ i + length (y ∷ before) = omega arith in
    subst (λ k. AllFree (has k x)) n (free_there has (suc i) before behind x (free_rest (has i y) (each_from has (suc i) (before ++ (x ∷ behind))) f))

text_there : (before behind : List Part) (p : Part) (text : List texts.Mark) → each (placed part) (before ++ (p ∷ behind)) text → AllShort (symbols text) → (l : List Symbol) × part p.node l × AllShort l
text_there [] behind p text t h = (symbols t.front, t.first.0, marks_front text t.front t.rest t.split h)
text_there (q ∷ before) behind p text t h = text_there before behind p t.rest t.second (marks_rest text t.front t.rest t.split h)

part_fits : (all before behind : List Part) (p : Part) (text : List texts.Mark) → each (placed part) all text → AllShort (symbols text) → AllFree (each_from (marks_of_part all) 0 all) → all ≡ before ++ (p ∷ behind) → ItemFits before p.node
part_fits all before behind p text t h f e =
    let n : 0 + length before ≡ length before = omega arith in
    let front : take (length before) all ≡ before = ap (take (length before)) e ∙ take-append_seam before (p ∷ behind) in
    let own = subst (λ k. AllFree (marks_of_part all k p)) n (free_there (marks_of_part all) 0 before behind p (subst (λ xs. AllFree (each_from (marks_of_part all) 0 xs)) e f)) in
    let here = text_there before behind p text (subst (λ xs. each (placed part) xs text) e t) h in
    item_fits (nat_le 4096 (length before)) before (values_behind bound_by_part [] (take (length before) all)) p.node here.0 here.1 here.2
    (subst (λ xs. AllFree (item_marks (nat_le 4096 (length before)) xs (values_behind bound_by_part [] (take (length before) all)) p.node)) front own)

-- the commands of sessions
session_fits : (left : ℕ) (parts : List Part) (outer : List Value) (all : List SessionCommand) (i : ℕ) (xs : List SessionCommand) (text : List texts.Mark) → each (placed command) xs text → AllShort (symbols text) → AllFree (each_from (marks_of_command left parts outer all) i xs) → All (λ c. CommandFits parts c.node) xs
session_fits left parts outer all i [] text t h f = All-nil (λ c. CommandFits parts c.node)
session_fits left parts outer all i (x ∷ xs) text t h f =
    let marks = marks_of_command left parts outer all i x in
    let values = values_behind bound_by_command outer (take i all) in
    All-cons (λ c. CommandFits parts c.node) x xs
    (command_fits (scope (nat_le left i) parts (length values - length outer) values) x.node (symbols t.front) t.first.0 (marks_front text t.front t.rest t.split h) (free_front marks (each_from (marks_of_command left parts outer all) (suc i) xs) f))
    (session_fits left parts outer all (suc i) xs t.rest t.second (marks_rest text t.front t.rest t.split h) (free_rest marks (each_from (marks_of_command left parts outer all) (suc i) xs) f))

sessions_fit : (parts : List Part) (outer : List Value) (all : List Session) (i : ℕ) (xs : List Session) (text : List texts.Mark) → each IsSession xs text → AllShort (symbols text) → AllFree (each_from (marks_of_session parts outer all) i xs) → All (λ x. All (λ c. CommandFits parts c.node) x.node.commands) xs
sessions_fit parts outer all i [] text t h f = All-nil (λ x. All (λ c. CommandFits parts c.node) x.node.commands)
sessions_fit parts outer all i (x ∷ xs) text t h f =
    let left = commands_left parts (take i all) in
    let here = free_front (marks_of_session parts outer all i x) (each_from (marks_of_session parts outer all) (suc i) xs) f in
    let own = free_rest (session_marks (take i all) i x.node.name) (each_from (marks_of_command left parts outer x.node.commands) 0 x.node.commands) here in
    let s = t.first in
    let short = marks_rest (s.first ++ s.inner) s.first s.inner refl (marks_front t.front (s.first ++ s.inner) s.last s.whole (marks_front text t.front t.rest t.split h)) in
    All-cons (λ x. All (λ c. CommandFits parts c.node) x.node.commands) x xs (session_fits left parts outer x.node.commands 0 x.node.commands s.inner s.commands short own)
    (sessions_fit parts outer all (suc i) xs t.rest t.second (marks_rest text t.front t.rest t.split h) (free_rest (marks_of_session parts outer all i x) (each_from (marks_of_session parts outer all) (suc i) xs) f))

pub all_fits : AllFits
all_fits s given sound =
    let text = lined s given in
    let j = text.is in
    let outer = values_behind bound_by_part [] s.prelude in
    let parts = each_from (marks_of_part s.prelude) 0 s.prelude in
    let sessions = each_from (marks_of_session s.prelude outer s.sessions) 0 s.sessions in
    let free = marks_free s given sound in
    record {
      prelude = λ before behind p e. part_fits s.prelude before behind p j.front j.first (marks_front text.text j.front j.rest j.split text.short) (free_front parts sessions free) e;
      sessions = sessions_fit s.prelude outer s.sessions 0 s.sessions j.rest j.second (marks_rest text.text j.front j.rest j.split text.short) (free_rest parts sessions free);
    }
