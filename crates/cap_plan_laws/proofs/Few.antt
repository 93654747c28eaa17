-- A script without faults has at most 16 categories.
use Rattle.std.proofs.Common.{◌≡◌, ℕ, suc, ◌+◌, ◌<◌, ◌≤◌, List, [], ◌∷◌, ◌++◌, length, take, Bool, true, false, cond, refl, sym, ◌∙◌, subst, append_assoc, append-nil, length-append, arith}
use Rattle.std.specs.Prelude.{count_by, nat_le, ◌||◌}
use Rattle.std.proofs.lemmas.Bool.Decides.{nat_tests}
use Rattle.std.proofs.lemmas.List.Sums.{sum_by_push}
use Rattle.std.proofs.Math.Seq.{take-append_seam}
use Rattle.cap_names.specs.declared.reasons.Reason.TheVariants.{Limit}
use Rattle.cap_grammar.specs.declared.tree.ObjTok.{ObjTok}
use Rattle.cap_grammar.specs.declared.tree.MorTok.{MorTok}
use Rattle.cap_grammar.specs.declared.tree.Item.{Item}
use Rattle.cap_grammar.specs.declared.tree.Item.TheVariants as top
use Rattle.cap_grammar.specs.declared.tree.Script.{Script}
use Rattle.cap_block_faults.specs.Marks.{each_from}
use Rattle.cap_block_faults.specs.Names.{Part}
use Rattle.cap_faults.specs.declared.values.Value.{Value}
use Rattle.cap_faults.specs.Scripts.{item_marks, is_category_item, is_category, values_behind, bound_by_part, IsSound}
use Rattle.cap_sound.specs.Given.{IsGiven}
use Rattle.cap_sound.specs.Marked.{marks_of_part, marks_of_session}
use Rattle.cap_sound.proofs.Faults.{AllFree, free_front, free_rest, untold}
use Rattle.cap_sound.proofs.Sound.{marks_free}

below : (full : Bool) (n : ℕ) → (full || nat_le 16 n) ≡ false → n < 16
below true n e = absurd (cc (e))
below false n e = grind (arith, nat_tests, e)

-- so many categories up to this part
abbrev up_to : List Part → Item ObjTok MorTok → ℕ
up_to before n = count_by is_category before + cond (is_category_item n) 1 0

item_few : (n : Item ObjTok MorTok) (full : Bool) (before : List Part) (values : List Value) → AllFree (item_marks full before values n) → count_by is_category before ≤ 16 → up_to before n ≤ 16
item_few (top.Block b) full before values free few = omega (arith, few)
item_few (top.Category n o) full before values free few =
    let less = below full (count_by is_category before) (untold (full || nat_le 16 (count_by is_category before)) Limit free.0) in
    omega (arith, less)
item_few (top.Command c) full before values free few = omega (arith, few)

count_push : (before : List Part) (x : Part) → count_by is_category (before ++ x ∷ []) ≡ up_to before x.node
count_push before x = sum_by_push (λ p. cond (is_category p) 1 0) before x

-- behind the first parts, which are so many
parts_few : (all before xs : List Part) (i : ℕ) → all ≡ before ++ xs → i ≡ length before → AllFree (each_from (marks_of_part all) i xs) → count_by is_category before ≤ 16 → count_by is_category all ≤ 16
parts_few all before [] i e at free few = subst (λ l. count_by is_category l ≤ 16) (sym (e ∙ append-nil before)) few
parts_few all before (x ∷ xs) i e at free few =
    let front : take i all ≡ before = (λ k. take (at k) (e k)) ∙ take-append_seam before (x ∷ xs) in
    let here : up_to (take i all) x.node ≤ 16 = item_few x.node (nat_le 4096 i) (take i all) (values_behind bound_by_part [] (take i all))
    (free_front (marks_of_part all i x) (each_from (marks_of_part all) (suc i) xs) free) (subst (λ l. count_by is_category l ≤ 16) (sym front) few) in
    let now : up_to before x.node ≤ 16 = subst (λ l. up_to l x.node ≤ 16) front here in
    parts_few all (before ++ x ∷ []) xs (suc i) (e ∙ sym (append_assoc before (x ∷ []) xs))
    (let long = length-append before (x ∷ []) in omega (arith, at, long))
    (free_rest (marks_of_part all i x) (each_from (marks_of_part all) (suc i) xs) free)
    (subst (λ n. n ≤ 16) (sym (count_push before x)) now)

pub script_few : (s : Script) → IsGiven s → IsSound s → count_by is_category s.prelude ≤ 16
script_few s given sound =
    let outer = values_behind bound_by_part [] s.prelude in
    parts_few s.prelude [] s.prelude 0 refl refl
    (free_front (each_from (marks_of_part s.prelude) 0 s.prelude) (each_from (marks_of_session s.prelude outer s.sessions) 0 s.sessions) (marks_free s given sound))
    (omega arith)
