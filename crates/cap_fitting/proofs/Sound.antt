-- A script of some text whose checked form fits has no fault, where its blocks and literals have none.
use Rattle.std.proofs.Common.{◌≡◌, ℕ, suc, ◌+◌, ◌-◌, ◌<◌, ◌≤◌, List, [], ◌∷◌, ◌++◌, length, take, map, Bool, true, false, ◌||◌, cond, None, refl, ap, sym, ◌∙◌, subst, append_assoc, length-append, arith}
use Rattle.std.specs.Prelude.{nat_le, count_by, sum_by}
use Rattle.std.specs.List.{All, list_any}
use Rattle.std.specs.Cmp.Lexicographic.{bytes_decides}
use Rattle.std.proofs.Math.Seq.{take-append_seam}
use Rattle.std.proofs.lemmas.List.{length-map, map-append}
use Rattle.std.proofs.lemmas.List.Elements.{All-head, All-tail}
use Rattle.std.proofs.lemmas.List.Sums.{sum_by-append, sum_by-cons}
use Rattle.cap_names.specs.declared.reasons.Reason.TheVariants.{Known, Taken, Prime, Limit}
use Rattle.cap_field.specs.Residue.{is_tabled}
use Rattle.cap_grammar.specs.declared.tree.ObjTok.{ObjTok}
use Rattle.cap_grammar.specs.declared.tree.MorTok.{MorTok}
use Rattle.cap_grammar.specs.declared.tree.Over.{Over}
use Rattle.cap_grammar.specs.declared.tree.Over.TheVariants.{Vec, Add, Freyd, Rep}
use Rattle.cap_grammar.specs.declared.tree.Item.{Item}
use Rattle.cap_grammar.specs.declared.tree.Item.TheVariants as top
use Rattle.cap_grammar.specs.declared.tree.Script.{Script}
use Rattle.cap_block_faults.specs.Marks.{Mark, each_from}
use Rattle.cap_block_faults.specs.Names.{Part, same, has_block, has_category}
use Rattle.cap_block_faults.specs.Blocks.{block_marks}
use Rattle.cap_faults.specs.declared.values.Value.{Value}
use Rattle.cap_faults.specs.Commands.{scope, command_marks}
use Rattle.cap_faults.specs.Scripts.{over_mark, is_block, is_category_item, is_category, item_marks, values_behind, bound_by_part, bound_by_command, SessionCommand, Session, is_session, session_marks, commands_left, IsSound}
use Rattle.cap_checked.specs.Checked.{parts_behind, placed_command, node, checked_of}
use Rattle.cap_checked.specs.Checked as checked
use Rattle.cap_sound.specs.Given.{IsGiven}
use Rattle.cap_sound.specs.Marked.{marks_of_part, marks_of_command, marks_of_session, script_marks}
use Rattle.cap_sound.proofs.Faults.{AllFree}
use Rattle.cap_sound.proofs.Dimensions.{over_known}
use Rattle.cap_sound.proofs.Told.{sound_where_free}
use Rattle.cap_fitting.specs.Commands.{CommandFits}
use Rattle.cap_fitting.specs.Forms.{CheckedSession, OverFits, PartFits, SessionFits, FormFits}
use Rattle.cap_fitting.specs.Given.{scope_of, literal_marks, other_marks, OthersAreFree}
use Rattle.cap_fitting.specs.Laws.{SoundWhereFits}
use Rattle.cap_fitting.proofs.Checked.{same_over, same_number, same_length, same_blocks, given_fits, parts_append}
use Rattle.cap_fitting.proofs.Free.{session_scope, part_free, session_free}
use Rattle.cap_fitting.proofs.Limits.{item_not_full, commands_of, same_commands}
use Rattle.cap_fitting.proofs.Fit.{prelude_scope, sessions_scope, script_fits}
use Rattle.cap_fitting.proofs.Faultless.{all_free, free_all, both_free, not_told, passes, below_free, free_command, literal_free}

-- blocks and literals of a script without faults
others_of : (full : Bool) (before : List Part) (values : List Value) (n : Item ObjTok MorTok) → full ≡ false → AllFree (item_marks full before values n) → AllFree (other_marks before n)
others_of full before values (top.Block b) e f = subst (λ full. AllFree (block_marks (full || nat_le 16 (count_by is_block before)) before b)) e f
others_of full before values (top.Category n over) e f = tt
others_of full before values (top.Command c) e f = literal_free (scope full before (length values) values) c f

others_free : (s : Script) → IsGiven s → IsSound s → OthersAreFree s
others_free s given sound = record {
  prelude = λ before behind p e.
      let values = values_behind bound_by_part [] before in
      let full = nat_le 4096 (length before) in
      let f = part_free s given sound before behind p e in
      free_all (other_marks before p.node) (others_of full before values p.node (item_not_full full before values p.node f) f);
  sessions = λ before behind x e earlier later c k.
      let left = commands_left s.prelude before in
      free_all (literal_marks s.prelude c.node) (literal_free (session_scope left s.prelude earlier) c.node ((session_free s given sound before behind x e).commands earlier later c k));
}

-- the marks of all are free where each one's are
each_free_from : {A : Type 0} (has : ℕ → A → List Mark) (all front rest : List A) (i : ℕ) → i ≡ length front → all ≡ front ++ rest
    → ((before behind : List A) (x : A) → all ≡ before ++ (x ∷ behind) → AllFree (has (length before) x)) → AllFree (each_from has i rest)
each_free_from has all front [] i at e f = tt
each_free_from has all front (x ∷ rest) i at e f =
    both_free (has i x) (each_from has (suc i) rest) (subst (λ k. AllFree (has k x)) (sym at) (f front rest x e))
    (each_free_from has all (front ++ x ∷ []) rest (suc i) (let n = length-append front (x ∷ []) in omega (arith, at, n)) (e ∙ sym (append_assoc front (x ∷ []) rest)) f)

each_free : {A : Type 0} (has : ℕ → A → List Mark) (all : List A) → ((before behind : List A) (x : A) → all ≡ before ++ (x ∷ behind) → AllFree (has (length before) x)) → AllFree (each_from has 0 all)
each_free has all f = each_free_from has all [] all 0 refl refl f

front_is : {A : Type 0} (all before behind : List A) (x : A) → all ≡ before ++ (x ∷ behind) → before ≡ take (length before) all
front_is all before behind x e = sym (ap (take (length before)) e ∙ take-append_seam before (x ∷ behind))

shorter : {A : Type 0} (all before behind : List A) (x : A) → all ≡ before ++ (x ∷ behind) → length before < length all
shorter all before behind x e = let n = ap length e in let m = length-append before (x ∷ behind) in omega (arith, n, m)

-- parts
not_there : (b : Bool) → (b ≡ true → ⊥) → b ≡ false
not_there true h = absurd (h refl)
not_there false h = refl

over_free : (before : List Part) (over : Over) → OverFits (parts_behind [] before) over → over_mark before over ≡ None
over_free before (Vec prime) h = passes (is_tabled prime) Prime h
over_free before (Add block) h = passes (has_block before block) Known (sym (same_blocks [] before block) ∙ h)
over_free before (Freyd block) h = passes (has_block before block) Known (sym (same_blocks [] before block) ∙ h)
over_free before (Rep block) h = passes (has_block before block) Known (sym (same_blocks [] before block) ∙ h)

neither_is : (a b : Bool) → a ≡ false → b ≡ false → (a || b) ≡ false
neither_is true b e f = absurd (cc)
neither_is false b e f = f

item_free : (full : Bool) (before : List Part) (n : Item ObjTok MorTok) → full ≡ false → count_by is_category before + cond (is_category_item n) 1 0 ≤ 16
    → PartFits (parts_behind [] before) (node before n) → AllFree (other_marks before n) → AllFree (item_marks full before (values_behind bound_by_part [] before) n)
item_free full before (top.Block b) e few h f = subst (λ full. AllFree (block_marks (full || nat_le 16 (count_by is_block before)) before b)) (sym e) f
item_free full before (top.Category n over) e few h f =
    let many = nat_le 16 (count_by is_category before) in
    let room = not_told (full || many) Limit (neither_is full many e (below_free 16 (count_by is_category before) (omega (arith, few)))) in
    let new = not_told (has_category before n) Taken (not_there (has_category before n) (λ is. over_known before n is (sym (same_over [] before n) ∙ h.new))) in
    (room, (new, (refl, (over_free before over h.fits, tt))))
item_free full before (top.Command c) e few h f =
    let values = values_behind bound_by_part [] before in
    let sc = scope full before (length values) values in
    free_command sc c e (given_fits (scope_of sc) before c (subst (λ t. CommandFits t (checked.command before c)) (prelude_scope full before) h)) f

count_up : (all before behind : List Part) (p : Part) → all ≡ before ++ (p ∷ behind) → count_by is_category before + cond (is_category p) 1 0 ≤ count_by is_category all
count_up all before behind p e =
    let test = λ (q : Part). cond (is_category q) 1 0 in
    let n = ap (sum_by test) e in
    let m = sum_by-append test before (p ∷ behind) in
    let k = sum_by-cons test p behind in
    omega (arith, n, m, k)

prelude_free : (s : Script) → FormFits (checked_of s) → OthersAreFree s → (before behind : List Part) (p : Part) → s.prelude ≡ before ++ (p ∷ behind) → AllFree (marks_of_part s.prelude (length before) p)
prelude_free s fits others before behind p e =
    let whole : parts_behind [] s.prelude ≡ parts_behind [] before ++ (checked.part before p ∷ parts_behind (before ++ p ∷ []) behind) = ap (parts_behind []) e ∙ parts_append [] before (p ∷ behind) in
    let here = fits.parts (parts_behind [] before) (parts_behind (before ++ p ∷ []) behind) (checked.part before p) whole in
    let less = shorter s.prelude before behind p e in
    let long = same_length [] s.prelude in
    let room : length before < 4096 = omega (arith, less, long, fits.few_commands) in
    let count = count_up s.prelude before behind p e in
    let many = same_number [] s.prelude in
    subst (λ xs. AllFree (item_marks (nat_le 4096 (length before)) xs (values_behind bound_by_part [] xs) p.node)) (front_is s.prelude before behind p e)
    (item_free (nat_le 4096 (length before)) before p.node (below_free 4096 (length before) room) (omega (arith, count, many, fits.few_categories)) here (all_free (other_marks before p.node) (others.prelude before behind p e)))

-- sessions
same_name : (a b : List ℕ) → (a ≡ b → ⊥) → same a b ≡ false
same_name a b h = not_there (same a b) (λ is. h ((bytes_decides a b).0 is))

new_session : (parts : List Part) (before : List Session) (name : List ℕ) → All (λ (x : CheckedSession). x.node.name ≡ name → ⊥) (map (checked.session parts) before) → list_any (is_session name) before ≡ false
new_session parts [] name h = refl
new_session parts (x ∷ before) name h =
    let P = λ (y : CheckedSession). y.node.name ≡ name → ⊥ in
    neither_is (is_session name x) (list_any (is_session name) before) (same_name x.node.name name (All-head P (checked.session parts x) (map (checked.session parts) before) h))
    (new_session parts before name (All-tail P (checked.session parts x) (map (checked.session parts) before) h))

commands_up : (all before behind : List Session) (x : Session) → all ≡ before ++ (x ∷ behind) → sum_by commands_of before + commands_of x ≤ sum_by commands_of all
commands_up all before behind x e =
    let n = ap (sum_by commands_of) e in
    let m = sum_by-append commands_of before (x ∷ behind) in
    let k = sum_by-cons commands_of x behind in
    omega (arith, n, m, k)

left_over : (a b c k n : ℕ) → c < k → b + k ≤ n → a + n ≤ 4096 → c < 4096 - a - b
left_over a b c k n less up few = omega (arith, less, up, few)

command_free_where : (s : Script) (left : ℕ) (before : List CheckedSession) (x : Session) (earlier later : List SessionCommand) (c : SessionCommand) → x.node.commands ≡ earlier ++ (c ∷ later)
    → SessionFits (parts_behind [] s.prelude) before (checked.session s.prelude x).node → length earlier < left → All (λ m. m ≡ None) (literal_marks s.prelude c.node)
    → AllFree (marks_of_command left s.prelude (values_behind bound_by_part [] s.prelude) x.node.commands (length earlier) c)
command_free_where s left before x earlier later c e fits room literal =
    let outer = values_behind bound_by_part [] s.prelude in
    let make = placed_command s.prelude in
    let sc = session_scope left s.prelude earlier in
    let whole : map make x.node.commands ≡ map make earlier ++ (make c ∷ map make later) = ap (map make) e ∙ map-append make earlier (c ∷ later) in
    let here = fits.commands (map make earlier) (map make later) (make c) whole in
    subst (λ xs. AllFree (command_marks (scope (nat_le left (length earlier)) s.prelude (length (values_behind bound_by_command outer xs) - length outer) (values_behind bound_by_command outer xs)) c.node))
    (front_is x.node.commands earlier later c e)
    (free_command sc c.node (below_free left (length earlier) room) (given_fits (scope_of sc) s.prelude c.node (subst (λ t. CommandFits t (checked.command s.prelude c.node)) (sessions_scope left s.prelude earlier) here))
    (all_free (literal_marks s.prelude c.node) literal))

session_free_where : (s : Script) → FormFits (checked_of s) → OthersAreFree s → (before behind : List Session) (x : Session) → s.sessions ≡ before ++ (x ∷ behind)
    → AllFree (session_marks before (length before) x.node.name ++ each_from (marks_of_command (commands_left s.prelude before) s.prelude (values_behind bound_by_part [] s.prelude) x.node.commands) 0 x.node.commands)
session_free_where s fits others before behind x e =
    let left = commands_left s.prelude before in
    let outer = values_behind bound_by_part [] s.prelude in
    let make = checked.session s.prelude in
    let whole : map make s.sessions ≡ map make before ++ (make x ∷ map make behind) = ap (map make) e ∙ map-append make before (x ∷ behind) in
    let here = fits.sessions (map make before) (map make behind) (make x) whole in
    let less = shorter s.sessions before behind x e in
    let long = length-map s.sessions make in
    let room : length before < 16 = omega (arith, less, long, fits.few_sessions) in
    let parts = same_length [] s.prelude in
    let same = same_commands s.prelude s.sessions in
    let few : length s.prelude + sum_by commands_of s.sessions ≤ 4096 = omega (arith, parts, same, fits.few_commands) in
    let up = commands_up s.sessions before behind x e in
    both_free (session_marks before (length before) x.node.name) (each_from (marks_of_command left s.prelude outer x.node.commands) 0 x.node.commands)
    (not_told (nat_le 16 (length before)) Limit (below_free 16 (length before) room), (not_told (list_any (is_session x.node.name) before) Taken (new_session s.prelude before x.node.name here.new), tt))
    (each_free (marks_of_command left s.prelude outer x.node.commands) x.node.commands
    (λ earlier later c f. command_free_where s left (map make before) x earlier later c f here (left_over (length s.prelude) (sum_by commands_of before) (length earlier) (commands_of x) (sum_by commands_of s.sessions) (shorter x.node.commands earlier later c f) up few)
    (others.sessions before behind x e earlier later c f)))

script_free : (s : Script) → FormFits (checked_of s) → OthersAreFree s → AllFree (script_marks s)
script_free s fits others =
    let outer = values_behind bound_by_part [] s.prelude in
    both_free (each_from (marks_of_part s.prelude) 0 s.prelude) (each_from (marks_of_session s.prelude outer s.sessions) 0 s.sessions)
    (each_free (marks_of_part s.prelude) s.prelude (prelude_free s fits others))
    (each_free (marks_of_session s.prelude outer s.sessions) s.sessions
    (λ before behind x e.
    subst (λ xs. AllFree (session_marks xs (length before) x.node.name ++ each_from (marks_of_command (commands_left s.prelude xs) s.prelude outer x.node.commands) 0 x.node.commands))
    (front_is s.sessions before behind x e) (session_free_where s fits others before behind x e)))

pub sound_where_fits : SoundWhereFits
sound_where_fits s given = (
  λ sound. (script_fits s given sound, others_free s given sound),
  λ h. (sound_where_free s given).1 (free_all (script_marks s) (script_free s h.0 h.1)),
)
