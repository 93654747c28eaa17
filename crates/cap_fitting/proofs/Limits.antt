-- A script without faults has at most 4,096 parts and commands, 16 sessions and 16 categories.
use Rattle.std.proofs.Common.{◌≡◌, ℕ, ◌+◌, ◌-◌, ◌<◌, ◌≤◌, List, [], ◌∷◌, length, map, Bool, false, ◌||◌, cond, refl, ap, sym, ◌∙◌, subst, arith}
use Rattle.std.specs.Prelude.{nat_le, count_by, sum_by}
use Rattle.std.proofs.lemmas.List.{length-map}
use Rattle.std.proofs.lemmas.List.Sums.{sum_by_push, sum_by-cons}
use Rattle.cap_names.specs.declared.reasons.Reason.TheVariants.{Limit}
use Rattle.cap_grammar.specs.declared.tree.ObjTok.{ObjTok}
use Rattle.cap_grammar.specs.declared.tree.MorTok.{MorTok}
use Rattle.cap_grammar.specs.declared.tree.Item.{Item}
use Rattle.cap_grammar.specs.declared.tree.Item.TheVariants as top
use Rattle.cap_grammar.specs.declared.tree.Script.{Script}
use Rattle.cap_block_faults.specs.Names.{Part}
use Rattle.cap_faults.specs.declared.values.Value.{Value}
use Rattle.cap_faults.specs.Commands.{scope}
use Rattle.cap_faults.specs.Scripts.{is_block, is_category_item, is_category, item_marks, values_behind, bound_by_part, SessionCommand, Session, commands_left, IsSound}
use Rattle.cap_checked.specs.Checked.{session, placed_command}
use Rattle.cap_sound.specs.Given.{IsGiven}
use Rattle.cap_sound.proofs.Faults.{AllFree, untold, below}
use Rattle.cap_sound.proofs.Sizes.{head_of_block}
use Rattle.cap_fitting.specs.Forms.{CheckedSession}
use Rattle.cap_fitting.proofs.Lists.{by_fronts, longer, either_front, either_rest}
use Rattle.cap_fitting.proofs.Marks.{not_full}
use Rattle.cap_fitting.proofs.Free.{session_scope, part_free, SessionFree, session_free}

not_reached : (n m : ℕ) → nat_le n m ≡ false → m < n
not_reached n m e = grind (arith, e)

pub item_not_full : (full : Bool) (before : List Part) (values : List Value) (n : Item ObjTok MorTok) → AllFree (item_marks full before values n) → full ≡ false
item_not_full full before values (top.Block b) f =
    let many = nat_le 16 (count_by is_block before) in
    either_front full many (untold (full || many) Limit (head_of_block (full || many) before b f).0)
item_not_full full before values (top.Category n over) f =
    let many = nat_le 16 (count_by is_category before) in
    either_front full many (untold (full || many) Limit f.0)
item_not_full full before values (top.Command c) f = not_full (scope full before (length values) values) c f

pub prelude_short : (s : Script) → IsGiven s → IsSound s → length s.prelude ≤ 4096
prelude_short s given sound =
    by_fronts (λ xs. length xs ≤ 4096) s.prelude (omega arith)
    (λ before behind p e h.
    let room = not_reached 4096 (length before) (item_not_full (nat_le 4096 (length before)) before (values_behind bound_by_part [] before) p.node (part_free s given sound before behind p e)) in
    let n = longer before p in
    omega (arith, room, n))

-- so many categories up to a part
abbrev up_to : List Part → Item ObjTok MorTok → ℕ
up_to before n = count_by is_category before + cond (is_category_item n) 1 0

item_few : (n : Item ObjTok MorTok) (full : Bool) (before : List Part) (values : List Value) → AllFree (item_marks full before values n) → count_by is_category before ≤ 16 → up_to before n ≤ 16
item_few (top.Block b) full before values f few = omega (arith, few)
item_few (top.Category n over) full before values f few =
    let many = nat_le 16 (count_by is_category before) in
    let less = not_reached 16 (count_by is_category before) (either_rest full many (untold (full || many) Limit f.0)) in
    omega (arith, less)
item_few (top.Command c) full before values f few = omega (arith, few)

pub categories_few : (s : Script) → IsGiven s → IsSound s → count_by is_category s.prelude ≤ 16
categories_few s given sound =
    by_fronts (λ xs. count_by is_category xs ≤ 16) s.prelude (omega arith)
    (λ before behind p e h.
    subst (λ n. n ≤ 16) (sym (sum_by_push (λ q. cond (is_category q) 1 0) before p))
    (item_few p.node (nat_le 4096 (length before)) before (values_behind bound_by_part [] before) (part_free s given sound before behind p e) h))

-- the commands of sessions
abbrev pub commands_of : Session → ℕ
commands_of x = length x.node.commands

room_for : (a b c : ℕ) → c < 4096 - a - b → a + b + (c + 1) ≤ 4096
room_for a b c h = omega (arith, h)

session_short : (s : Script) (before : List Session) (x : Session) → SessionFree s before x → length s.prelude + sum_by commands_of before ≤ 4096 → length s.prelude + sum_by commands_of before + commands_of x ≤ 4096
session_short s before x free h =
    by_fronts (λ (cs : List SessionCommand). length s.prelude + sum_by commands_of before + length cs ≤ 4096) x.node.commands (omega (arith, h))
    (λ earlier behind c e few.
    let left = commands_left s.prelude before in
    let less = not_reached left (length earlier) (not_full (session_scope left s.prelude earlier) c.node (free.commands earlier behind c e)) in
    let room = room_for (length s.prelude) (sum_by commands_of before) (length earlier) less in
    let n = longer earlier c in
    omega (arith, room, n))

pub record AreFew (s : Script) (xs : List Session) : Type 0 where
  pub sessions : length xs ≤ 16
  pub commands : length s.prelude + sum_by commands_of xs ≤ 4096

pub sessions_few : (s : Script) → IsGiven s → IsSound s → AreFew s s.sessions
sessions_few s given sound =
    let few = prelude_short s given sound in
    by_fronts (AreFew s) s.sessions (record { sessions = omega arith; commands = omega (arith, few) })
    (λ before behind x e h.
    let free = session_free s given sound before behind x e in
    let less = below 16 (length before) Limit free.first.0 in
    let n = longer before x in
    let more = session_short s before x free h.commands in
    let sums = sum_by_push commands_of before x in
    record { sessions = omega (arith, less, n); commands = omega (arith, more, sums) })

-- the checked form has as many
abbrev checked_commands : CheckedSession → ℕ
checked_commands x = length x.node.commands

pub same_commands : (parts : List Part) (xs : List Session) → sum_by (λ (x : CheckedSession). length x.node.commands) (map (session parts) xs) ≡ sum_by commands_of xs
same_commands parts [] = refl
same_commands parts (x ∷ xs) =
    sum_by-cons checked_commands (session parts x) (map (session parts) xs)
    ∙ ap (λ n. n + sum_by checked_commands (map (session parts) xs)) (length-map x.node.commands (placed_command parts))
    ∙ ap (λ n. commands_of x + n) (same_commands parts xs)
    ∙ sym (sum_by-cons commands_of x xs)
