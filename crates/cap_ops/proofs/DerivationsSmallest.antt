-- The lightest way, from the place i on.
use Rattle.std.proofs.Common.{◌≡◌, ℕ, ◌+◌, ◌<◌, ◌≤◌, List, ◌∷◌, length, drop, refl, arith, suc, drop-cons, add-one, Bool, true, false, cond}
use Rattle.std.specs.List.{slice_index_or}
use Rattle.std.proofs.lemmas.List.{drop_all}
use Rattle.std.proofs.lemmas.Bool.Decides.{nat_tests}
use Rattle.cap_ops.specs.Derivations.{leads_to, weight_by, ways_by_rule, lightest, lesser}
use Rattle.cap_ops.specs.declared.plans.RuleCost.{RuleCost}
use Rattle.cap_ops.specs.declared.plans.Kind.{Kind}
use Rattle.cap_ops.specs.declared.plans.Choice.{Choice}
use Rattle.cap_ops.specs.declared.plans.Choice.TheVariants.{Rule}
use Rattle.cap_ops.specs.declared.plans.TheConstants.{NO_PLAN}

at_one : (a : Bool) (w : ℕ) (choice : Choice) (more : List (ℕ × Choice)) → lightest (cond a ((w, choice) ∷ more) more) ≡ cond a (lesser w (lightest more)) (lightest more)
at_one true w choice more = refl
at_one false w choice more = refl

pub lightest_at_place : (kind : Kind) (bounds : List ℕ) (op : ℕ) (rules : List RuleCost) (i : ℕ) (d : RuleCost) → i < length rules
    → lightest (ways_by_rule kind bounds op (drop i rules)) ≡ cond (leads_to kind op (slice_index_or rules i d)) (lesser (weight_by bounds (slice_index_or rules i d)) (lightest (ways_by_rule kind bounds op (drop (i + 1) rules)))) (lightest (ways_by_rule kind bounds op (drop (i + 1) rules)))
lightest_at_place kind bounds op rules i d h =
    rw (drop-cons rules i d h, add-one)
    (at_one (leads_to kind op (slice_index_or rules i d)) (weight_by bounds (slice_index_or rules i d)) (Rule (slice_index_or rules i d).no) (ways_by_rule kind bounds op (drop (suc i) rules)))

pub lightest_at_end : (kind : Kind) (bounds : List ℕ) (op : ℕ) (rules : List RuleCost) (i : ℕ) → length rules ≤ i → lightest (ways_by_rule kind bounds op (drop i rules)) ≡ NO_PLAN
lightest_at_end kind bounds op rules i h = rw (drop_all i rules h) refl

pub lesser-lesser : (a b c : ℕ) → lesser (lesser a b) c ≡ lesser a (lesser b c)
lesser-lesser a b c = grind (arith, nat_tests)
