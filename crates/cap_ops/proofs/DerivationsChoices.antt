-- The first way of a weight, from the place i on.
use Rattle.std.proofs.Common.{◌≡◌, ℕ, ◌+◌, ◌<◌, ◌≤◌, List, ◌∷◌, length, drop, refl, suc, drop-cons, add-one, Bool, true, false, cond, ◌&&◌}
use Rattle.std.specs.Prelude.{nat_eq}
use Rattle.std.specs.List.{slice_index_or}
use Rattle.std.proofs.lemmas.List.{drop_all}
use Rattle.cap_ops.specs.Derivations.{leads_to, weight_by, ways_by_rule, first_at}
use Rattle.cap_ops.specs.declared.plans.RuleCost.{RuleCost}
use Rattle.cap_ops.specs.declared.plans.Kind.{Kind}
use Rattle.cap_ops.specs.declared.plans.Choice.{Choice}
use Rattle.cap_ops.specs.declared.plans.Choice.TheVariants.{Rule, Missing}

-- one rule and the rest, by the rule's two tests
at_one : (a : Bool) (w n : ℕ) (choice : Choice) (more : List (ℕ × Choice)) → first_at n (cond a ((w, choice) ∷ more) more) ≡ cond (a && nat_eq w n) choice (first_at n more)
at_one true w n choice more = refl
at_one false w n choice more = refl

pub first_at_place : (n : ℕ) (kind : Kind) (bounds : List ℕ) (op : ℕ) (rules : List RuleCost) (i : ℕ) (d : RuleCost) → i < length rules
    → first_at n (ways_by_rule kind bounds op (drop i rules)) ≡ cond (leads_to kind op (slice_index_or rules i d) && nat_eq (weight_by bounds (slice_index_or rules i d)) n) (Rule (slice_index_or rules i d).no) (first_at n (ways_by_rule kind bounds op (drop (i + 1) rules)))
first_at_place n kind bounds op rules i d h =
    rw (drop-cons rules i d h, add-one)
    (at_one (leads_to kind op (slice_index_or rules i d)) (weight_by bounds (slice_index_or rules i d)) n (Rule (slice_index_or rules i d).no) (ways_by_rule kind bounds op (drop (suc i) rules)))

pub first_at_end : (n : ℕ) (kind : Kind) (bounds : List ℕ) (op : ℕ) (rules : List RuleCost) (i : ℕ) → length rules ≤ i → first_at n (ways_by_rule kind bounds op (drop i rules)) ≡ Missing
first_at_end n kind bounds op rules i h = rw (drop_all i rules h) refl
