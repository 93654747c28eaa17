-- Categories behind more parts of a prelude.
use Rattle.std.proofs.Common.{◌≡◌, ℕ, List, [], ◌∷◌, ◌++◌, Bool, true, false, cond, Option, None, Some, find, refl, ap, ◌∙◌}
use Rattle.std.specs.Prelude.{option_and_then}
use Rattle.std.specs.Cmp.Lexicographic.{bytes_decides}
use Rattle.cap_grammar.specs.declared.tree.Placed.{Placed}
use Rattle.cap_grammar.specs.declared.tree.Over.{Over}
use Rattle.cap_grammar.specs.declared.tree.Item.{Item}
use Rattle.cap_grammar.specs.declared.tree.Item.TheVariants as top
use Rattle.cap_fitting.specs.Categories.{over_in, is_category_named, category_over}

abbrev first_over : {O M : Type 0} → Bool → Placed (Item O M) → List (Placed (Item O M)) → List ℕ → Option Over
first_over b p parts name = option_and_then (λ q. over_in q.node) (cond b (Some p) (find (λ q. is_category_named name q.node) parts))

-- a part that is a category has something that it is over
over_none : {O M : Type 0} (n : Item O M) (name : List ℕ) → is_category_named name n ≡ true → over_in n ≡ None → ⊥
over_none (top.Block b) name h e = cc
over_none (top.Category n over) name h e = cc
over_none (top.Command c) name h e = cc

stays : {O M : Type 0} (p : Placed (Item O M)) (parts more : List (Placed (Item O M))) (name : List ℕ) (over : Over) (b : Bool)
    → (category_over parts name ≡ Some over → category_over (parts ++ more) name ≡ Some over) → first_over b p parts name ≡ Some over → first_over b p (parts ++ more) name ≡ Some over
stays p parts more name over true rest e = e
stays p parts more name over false rest e = rest e

-- what a category is over stays the same
pub category_stays : {O M : Type 0} (parts more : List (Placed (Item O M))) (name : List ℕ) (over : Over) → category_over parts name ≡ Some over → category_over (parts ++ more) name ≡ Some over
category_stays [] more name over e = absurd (cc)
category_stays (p ∷ parts) more name over e = stays p parts more name over (is_category_named name p.node) (category_stays parts more name over) e

later : {O M : Type 0} (p : Placed (Item O M)) (parts more : List (Placed (Item O M))) (name : List ℕ) (b : Bool) → is_category_named name p.node ≡ b
    → (category_over parts name ≡ None → category_over (parts ++ more) name ≡ category_over more name) → first_over b p parts name ≡ None → first_over b p (parts ++ more) name ≡ category_over more name
later p parts more name true is rest e = absurd (over_none p.node name is e)
later p parts more name false is rest e = rest e

-- where no category has the name, it is found among those that come then
pub category_later : {O M : Type 0} (parts more : List (Placed (Item O M))) (name : List ℕ) → category_over parts name ≡ None → category_over (parts ++ more) name ≡ category_over more name
category_later [] more name e = refl
category_later (p ∷ parts) more name e = later p parts more name (is_category_named name p.node) refl (category_later parts more name) e

-- a category alone
pub category_alone : {O M : Type 0} (p : Placed (Item O M)) (name : List ℕ) (over : Over) → p.node ≡ top.Category name over → category_over (p ∷ []) name ≡ Some over
category_alone p name over e =
    let named : is_category_named name p.node ≡ true = ap (is_category_named name) e ∙ (bytes_decides name name).1 refl in
    ap (λ b. first_over b p [] name) named ∙ ap over_in e
