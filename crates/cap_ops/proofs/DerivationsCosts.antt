-- A table of costs is shown fit by a test that computes.
use Rattle.std.proofs.Common.{◌≡◌, ℕ, ◌<◌, List, [], ◌∷◌, length, slice_index, arith, refl, add-one, Bool, true, false, ◌&&◌, suc, zero}
use Rattle.std.specs.Prelude.{nat_eq, nat_lt, sum, map}
use Rattle.std.specs.List.{list_all}
use Rattle.std.specs.List.Sorted.{IsStrictlyIncreasing}
use Rattle.std.proofs.lemmas.List.Elements.{All-weaker}
use Rattle.std.proofs.lemmas.List.Sums.{AllPass-from_list_all}
use Rattle.std.proofs.lemmas.Bool.Decides.{nat_tests}
use Rattle.cap_ops.specs.Derivations.{IsCost, AreCosts}
use Rattle.cap_ops.specs.declared.plans.RuleCost.{RuleCost}

-- the test of one rule
abbrev pub is_cost : RuleCost → Bool
is_cost rule = (nat_lt 0 rule.head.0 && nat_lt rule.head.0 45) && ((nat_lt 0 rule.own && nat_lt rule.own 1000001) && (nat_eq (length rule.calls) 44 && nat_lt 0 (sum rule.calls)))

-- each number is above the one before, and the first above n
abbrev pub rise_from : ℕ → List RuleCost → Bool
rise_from n [] = true
rise_from n (rule ∷ rules) = nat_lt n rule.no.0 && rise_from rule.no.0 rules

both : (a b : Bool) → (a && b) ≡ true → (a ≡ true) × (b ≡ true)
both true b h = (refl, h)
both false b h = absurd (cc (h))

is_cost-is : (rule : RuleCost) → is_cost rule ≡ true → IsCost rule
is_cost-is rule h =
    let head_and_more = both (nat_lt 0 rule.head.0 && nat_lt rule.head.0 45) ((nat_lt 0 rule.own && nat_lt rule.own 1000001) && (nat_eq (length rule.calls) 44 && nat_lt 0 (sum rule.calls))) h in
    let own_and_calls = both (nat_lt 0 rule.own && nat_lt rule.own 1000001) (nat_eq (length rule.calls) 44 && nat_lt 0 (sum rule.calls)) head_and_more.1 in
    let head = both (nat_lt 0 rule.head.0) (nat_lt rule.head.0 45) head_and_more.0 in
    let own = both (nat_lt 0 rule.own) (nat_lt rule.own 1000001) own_and_calls.0 in
    let calls = both (nat_eq (length rule.calls) 44) (nat_lt 0 (sum rule.calls)) own_and_calls.1 in
    record {
      head_from = grind (arith, nat_tests, head.0);
      head_to = grind (arith, nat_tests, head.1);
      own_from = grind (arith, nat_tests, own.0);
      own_to = grind (arith, nat_tests, own.1);
      operations = grind (arith, nat_tests, calls.0);
      calls = grind (arith, nat_tests, calls.1);
    }

-- the numbers of the rules
abbrev numbers : List RuleCost → List ℕ
numbers rules = map (λ rule. rule.no.0) rules

above : (a b : ℕ) → nat_lt a b ≡ true → a < b
above a b h = grind (arith, nat_tests, h)

rises-at : (rules : List RuleCost) (n : ℕ) → rise_from n rules ≡ true → (k : ℕ) → suc k < length (numbers rules) → slice_index (numbers rules) k < slice_index (numbers rules) (suc k)
rises-at [] n h k inside = absurd (omega (arith, inside))
rises-at (rule ∷ []) n h k inside = absurd (omega (arith, inside))
rises-at (rule ∷ next ∷ rules) n h zero inside =
    let rest = both (nat_lt n rule.no.0) (rise_from rule.no.0 (next ∷ rules)) h in
    above rule.no.0 next.no.0 (both (nat_lt rule.no.0 next.no.0) (rise_from next.no.0 rules) rest.1).0
rises-at (rule ∷ next ∷ rules) n h (suc k) inside =
    rises-at (next ∷ rules) rule.no.0 (both (nat_lt n rule.no.0) (rise_from rule.no.0 (next ∷ rules)) h).1 k (omega (arith, inside))

rises : (rules : List RuleCost) → rise_from 0 rules ≡ true → IsStrictlyIncreasing (map (λ rule. rule.no.0) rules)
rises rules h k inside = rw add-one (rises-at rules 0 h k (omega (arith, inside)))

-- costs that pass both tests are costs
pub costs_pass : (rules : List RuleCost) → list_all is_cost rules ≡ true → rise_from 0 rules ≡ true → AreCosts rules
costs_pass rules h rise = record { each = All-weaker (λ r. is_cost r ≡ true) IsCost is_cost-is rules (AllPass-from_list_all is_cost rules h); rising = rises rules rise }
