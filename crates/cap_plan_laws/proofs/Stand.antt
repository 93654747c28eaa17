-- The categories of a checked script are at most 16, and can stand in certificates.
use Rattle.std.proofs.Common.{◌≡◌, ℕ, ◌+◌, ◌≤◌, List, [], ◌∷◌, ◌++◌, length, cond, refl, sym, ◌∙◌, subst, arith}
use Rattle.std.specs.Prelude.{count_by}
use Rattle.std.specs.List.{All, cons_option}
use Rattle.std.proofs.lemmas.List.Elements.{All-nil, All-cons, All-head, All-tail}
use Rattle.std.proofs.lemmas.List.Sums.{sum_by-cons}
use Rattle.cap_grammar.specs.declared.tree.ObjTok.{ObjTok}
use Rattle.cap_grammar.specs.declared.tree.MorTok.{MorTok}
use Rattle.cap_grammar.specs.declared.tree.Item.{Item}
use Rattle.cap_grammar.specs.declared.tree.Item.TheVariants as top
use Rattle.cap_block_faults.specs.Names.{Part}
use Rattle.cap_faults.specs.Scripts.{is_category_item, is_category}
use Rattle.cap_checked.specs.declared.tree.Checked.{Checked}
use Rattle.cap_checked.specs.Checked.{node, parts_behind}
use Rattle.cap_sound.specs.Weights.{AreRanged}
use Rattle.cap_check.specs.Unbuilt.{CheckedPart}
use Rattle.cap_check.specs.Forms.{IsOfSound}
use Rattle.cap_check.proofs.Forms.{forms_ranged}
use Rattle.cap_registered.specs.Registrations.{Registered, kind_of, registered, category, categories_among, categories}
use Rattle.cap_plan_laws.specs.Laws.{Stands}
use Rattle.cap_plan_laws.proofs.SymbolTexts.{IsNamed, script_named}
use Rattle.cap_plan_laws.proofs.Few.{script_few}
use Rattle.cap_plan_laws.proofs.Weights.{weights_long, weights_ranged}

-- the checked form has as many categories
one_counted : (parts : List CheckedPart) (before : List Part) (n : Item ObjTok MorTok) (rs : List Registered) (count : ℕ) → length rs ≡ count → length (cons_option (category parts (node before n)) rs) ≡ cond (is_category_item n) 1 0 + count
one_counted parts before (top.Block b) rs count e = omega (arith, e)
one_counted parts before (top.Category n o) rs count e = omega (arith, e)
one_counted parts before (top.Command c) rs count e = omega (arith, e)

counted : (parts : List CheckedPart) (before xs : List Part) → length (categories_among parts (parts_behind before xs)) ≡ count_by is_category xs
counted parts before [] = refl
counted parts before (x ∷ xs) =
    one_counted parts before x.node (categories_among parts (parts_behind (before ++ x ∷ []) xs)) (count_by is_category xs) (counted parts (before ++ x ∷ []) xs)
    ∙ sym (sum_by-cons (λ p. cond (is_category p) 1 0) x xs)

pub categories_few : (form : Checked) → IsOfSound form → length (categories form.prelude) ≤ 16
categories_few form is =
    let same = counted form.prelude [] is.script.prelude in
    let few = script_few is.script is.given is.sound in
    let all : length (categories_among form.prelude (parts_behind [] is.script.prelude)) ≤ 16 = omega (arith, same, few) in
    subst (λ (f : Checked). length (categories_among form.prelude f.prelude) ≤ 16) (sym is.formed) all

-- each of them can stand in a certificate
one_stands : (parts : List CheckedPart) → AreRanged parts → (before : List Part) (n : Item ObjTok MorTok) (rs : List Registered) → IsNamed n → All Stands rs → All Stands (cons_option (category parts (node before n)) rs)
one_stands parts ranged before (top.Block b) rs named h = h
one_stands parts ranged before (top.Category n o) rs named h =
    All-cons Stands (registered parts n (kind_of o)) rs
    (λ plan. record { name = named; all_weights = weights_long (kind_of o) n parts; weights = weights_ranged (kind_of o) n parts ranged })
    h
one_stands parts ranged before (top.Command c) rs named h = h

abbrev IsNamedPart : Part → Type 0
IsNamedPart p = IsNamed p.node

parts_stand : (parts : List CheckedPart) → AreRanged parts → (before xs : List Part) → All IsNamedPart xs → All Stands (categories_among parts (parts_behind before xs))
parts_stand parts ranged before [] h = All-nil Stands
parts_stand parts ranged before (x ∷ xs) h =
    one_stands parts ranged before x.node (categories_among parts (parts_behind (before ++ x ∷ []) xs)) (All-head IsNamedPart x xs h)
    (parts_stand parts ranged (before ++ x ∷ []) xs (All-tail IsNamedPart x xs h))

pub categories_stand : (form : Checked) → IsOfSound form → All Stands (categories form.prelude)
categories_stand form is =
    let named : All IsNamedPart is.script.prelude = script_named is.given.0 is.script is.given.1 in
    subst (λ (f : Checked). All Stands (categories_among form.prelude f.prelude)) (sym is.formed) (parts_stand form.prelude (forms_ranged form is) [] is.script.prelude named)
