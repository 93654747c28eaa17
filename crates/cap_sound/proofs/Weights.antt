-- The weights of a script without faults.
use Rattle.std.proofs.Common.{◌≡◌, ℕ, suc, ◌≤◌, List, [], ◌∷◌, ◌++◌, length, take, ap, arith, Some, None, Bool, false}
use Rattle.std.specs.Prelude.{unwrap_or, not, nat_le, ◌&&◌}
use Rattle.std.proofs.lemmas.List.Elements.{All-nil, All-cons}
use Rattle.cap_names.specs.declared.reasons.Reason.TheVariants.{Limit}
use Rattle.cap_grammar.specs.declared.tree.Placed.{Placed}
use Rattle.cap_grammar.specs.declared.tree.ObjTok.{ObjTok}
use Rattle.cap_grammar.specs.declared.tree.MorTok.{MorTok}
use Rattle.cap_grammar.specs.declared.tree.Item.{Item}
use Rattle.cap_grammar.specs.declared.tree.Item.TheVariants as top
use Rattle.cap_grammar.specs.declared.tree.Command.{Command}
use Rattle.cap_grammar.specs.declared.tree.Command.TheVariants.{Register, Finalise, Plan, Object, Src, Tgt, Let, Call}
use Rattle.cap_ops.specs.Derivations.{IsWeight}
use Rattle.cap_block_faults.specs.Marks.{each_from}
use Rattle.cap_block_faults.specs.Names.{Part}
use Rattle.cap_faults.specs.declared.values.Value.{Value}
use Rattle.cap_faults.specs.Commands.{Scope, scope, command_marks}
use Rattle.cap_faults.specs.Scripts.{item_marks, values_behind, bound_by_part}
use Rattle.cap_checked.specs.Checked.{parts_behind}
use Rattle.cap_checked.specs.Checked as checked
use Rattle.cap_sound.specs.Weights.{written, written_weight, AreRanged}
use Rattle.cap_sound.specs.Marked.{marks_of_part, marks_of_session}
use Rattle.cap_sound.specs.Laws.{WeightsAreRanged}
use Rattle.cap_sound.proofs.Faults.{AllFree, free_front, free_rest, untold}
use Rattle.cap_sound.proofs.Sound.{marks_free}

passed : (w : ℕ) → not (nat_le 1 w && nat_le w 1000000) ≡ false → (1 ≤ w) × (w ≤ 1000000)
passed w e = grind (arith, e)

no_weight : IsWeight None
no_weight = record { from = λ n e. absurd (cc); to = λ n e. absurd (cc) }

a_weight : (w : ℕ) → (1 ≤ w) × (w ≤ 1000000) → IsWeight (Some w)
a_weight w h = record { from = λ n e. let same = ap (λ o. unwrap_or o 0) e in omega (arith, h.0, same); to = λ n e. let same = ap (λ o. unwrap_or o 0) e in omega (arith, h.1, same) }

command_ranged : (s : Scope) (c : Command ObjTok MorTok) → AllFree (command_marks s c) → IsWeight (written c)
command_ranged s (Register cat op None) f = no_weight
command_ranged s (Register cat op (Some w)) f = a_weight w (passed w (untold (not (nat_le 1 w && nat_le w 1000000)) Limit f.1.1.1.0))
command_ranged s (Finalise cat) f = no_weight
command_ranged s (Plan cat) f = no_weight
command_ranged s (Object cat x lit) f = no_weight
command_ranged s (Src x of) f = no_weight
command_ranged s (Tgt x of) f = no_weight
command_ranged s (Let x cat src tgt lit) f = no_weight
command_ranged s (Call x cat op args) f = no_weight

item_ranged : (full : Bool) (parts : List Part) (values : List Value) (n : Item ObjTok MorTok) → AllFree (item_marks full parts values n) → IsWeight (written_weight n)
item_ranged full parts values (top.Block b) f = no_weight
item_ranged full parts values (top.Category n over) f = no_weight
item_ranged full parts values (top.Command c) f = command_ranged (scope full parts (length values) values) c f

abbrev ranged : {O M : Type 0} → Placed (Item O M) → Type 0
ranged p = IsWeight (written_weight p.node)

-- of all parts those behind the first i
parts_ranged : (all : List Part) (i : ℕ) (xs : List Part) → AllFree (each_from (marks_of_part all) i xs) → AreRanged xs
parts_ranged all i [] f = All-nil ranged
parts_ranged all i (x ∷ xs) f =
    All-cons ranged x xs (item_ranged (nat_le 4096 i) (take i all) (values_behind bound_by_part [] (take i all)) x.node (free_front (marks_of_part all i x) (each_from (marks_of_part all) (suc i) xs) f))
    (parts_ranged all (suc i) xs (free_rest (marks_of_part all i x) (each_from (marks_of_part all) (suc i) xs) f))

-- the checked form has the same weights
same_command : (before : List Part) (c : Command ObjTok MorTok) → IsWeight (written c) → IsWeight (written (checked.command before c))
same_command before (Register cat op weight) h = h
same_command before (Finalise cat) h = h
same_command before (Plan cat) h = h
same_command before (Object cat x lit) h = h
same_command before (Src x of) h = h
same_command before (Tgt x of) h = h
same_command before (Let x cat src tgt lit) h = h
same_command before (Call x cat op args) h = h

same_node : (before : List Part) (n : Item ObjTok MorTok) → IsWeight (written_weight n) → IsWeight (written_weight (checked.node before n))
same_node before (top.Block b) h = h
same_node before (top.Category n over) h = h
same_node before (top.Command c) h = same_command before c h

same_parts : (before xs : List Part) → AreRanged xs → AreRanged (parts_behind before xs)
same_parts before [] h = All-nil ranged
same_parts before (x ∷ xs) h =
    All-cons ranged (checked.part before x) (parts_behind (before ++ x ∷ []) xs) (same_node before x.node (h 0 x (omega arith))) (same_parts (before ++ x ∷ []) xs (λ k d b. h (suc k) d (omega (arith, b))))

pub weights : WeightsAreRanged
weights s given sound =
    let outer = values_behind bound_by_part [] s.prelude in
    let r = parts_ranged s.prelude 0 s.prelude (free_front (each_from (marks_of_part s.prelude) 0 s.prelude) (each_from (marks_of_session s.prelude outer s.sessions) 0 s.sessions) (marks_free s given sound)) in
    (r, same_parts [] s.prelude r)
