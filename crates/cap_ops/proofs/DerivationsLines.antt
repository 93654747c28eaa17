-- Where no line is false the bounds are least.
use Rattle.std.proofs.Common.{◌≡◌, ℕ, ◌<◌, ◌≤◌, List, length, true, slice_index, refl, subst, arith, ◌⊎◌, inl, inr, suc, zero}
use Rattle.std.specs.List.{All}
use Rattle.std.proofs.lemmas.List.Elements.{All-contains}
use Rattle.std.proofs.Math.ListN.{get_or-eq_default}
use Rattle.cap_ops.specs.Derivations.{Means, One, primitive, IsRegistered, IsCost, is_allowed, head_of, weight_by, lightest, ways, LineHolds, IsPlan}
use Rattle.cap_ops.proofs.DerivationsBounds.{AreBelow, lower, lt_or_le}
use Rattle.cap_ops.proofs.DerivationsTrees.{Weighs, rule_tree}
use Rattle.cap_ops.proofs.DerivationsWays.{lightest_way, lightest-capped, ByRule, no_lighter_primitive, no_lighter_way, leads-is}
use Rattle.cap_ops.specs.declared.plans.Plan.{Plan}
use Rattle.cap_ops.specs.declared.plans.TheConstants.{OPERATIONS, NO_PLAN}

-- each bound is the weight of its lightest way
pub record AreFixed (m : Means) (bounds : List ℕ) : Type 0 where
  pub long : length bounds ≡ OPERATIONS
  pub each : (op : ℕ) → op < OPERATIONS → slice_index bounds op ≡ lightest (ways m bounds op)

pub fixed_below : (m : Means) (bounds : List ℕ) → All IsCost m.rules → AreFixed m bounds → AreBelow m bounds
fixed_below m bounds costs fixed =
    record {
      primitives = λ op n is. elim (lt_or_le op OPERATIONS) [
        | inl h ↦ rw (fixed.each op h) (no_lighter_primitive m bounds op n is)
        | inr h ↦ rw (get_or-eq_default bounds 0 {n = op} (omega (arith, h, fixed.long))) (omega arith)
      ];
      rules = λ rule is.
          let cost : IsCost rule = All-contains IsCost m.rules rule costs is.listed in
          rw (fixed.each (head_of rule) (omega (arith, cost.head_from, cost.head_to))) (no_lighter_way m bounds rule is);
    }

pub tree_of_way : (m : Means) (bounds : List ℕ) → All IsCost m.rules → length bounds ≡ OPERATIONS → (op b : ℕ) → ((at : ℕ) → at < length bounds → slice_index bounds at < b → Weighs m (One at) (slice_index bounds at)) → IsRegistered m op b ⊎ ByRule m.kind bounds op m.rules b → Weighs m (One op) b
tree_of_way m bounds costs long op b have (inl is) = (primitive op b is, refl)
tree_of_way m bounds costs long op b have (inr way) =
    let rule = way.0 in
    let cost : IsCost rule = All-contains IsCost m.rules rule costs way.1.0 in
    let two : (head_of rule ≡ op) × (is_allowed m.kind rule ≡ true) = leads-is m.kind op rule way.1.1 in
    let t : Weighs m (One (head_of rule)) (weight_by bounds rule) = rule_tree m bounds b have rule (record { listed = way.1.0; allowed = two.1 }) (omega (arith, cost.operations, long)) (omega (arith, cost.own_from, way.1.2)) in
    subst (λ o. Weighs m (One o) b) two.0 (subst (Weighs m (One (head_of rule))) way.1.2 t)

-- a bound of at most n is the weight of a tree: the operations that its way calls have lesser bounds
pub fixed_tree : (m : Means) (bounds : List ℕ) → All IsCost m.rules → AreFixed m bounds → (n op : ℕ) → op < length bounds → slice_index bounds op < NO_PLAN → slice_index bounds op ≤ n → Weighs m (One op) (slice_index bounds op)
fixed_tree m bounds costs fixed zero op inside small most =
    let e : slice_index bounds op ≡ lightest (ways m bounds op) = fixed.each op (omega (arith, fixed.long)) in
    rw e (tree_of_way m bounds costs fixed.long op (lightest (ways m bounds op)) (λ at h less. absurd (omega (arith, less, e, most))) (lightest_way m bounds op (omega (arith, e, small))))
fixed_tree m bounds costs fixed (suc n) op inside small most =
    let e : slice_index bounds op ≡ lightest (ways m bounds op) = fixed.each op (omega (arith, fixed.long)) in
    rw e (tree_of_way m bounds costs fixed.long op (lightest (ways m bounds op)) (λ at h less. fixed_tree m bounds costs fixed n at h (omega (arith, less, e, small)) (omega (arith, less, e, most))) (lightest_way m bounds op (omega (arith, e, small))))

pub plan_where_lines_hold : (m : Means) (plan : Plan) → All IsCost m.rules → length plan.bounds ≡ OPERATIONS → length plan.choices ≡ OPERATIONS → ((op : ℕ) → op < OPERATIONS → LineHolds m plan op) → IsPlan m plan
plan_where_lines_hold m plan costs long choices hold =
    let fixed : AreFixed m plan.bounds = record { long = long; each = λ op h. (hold op h).bound } in
    record {
      all_bounds = long;
      all_choices = choices;
      bounds = λ op h. record {
        capped = rw (fixed.each op h) (lightest-capped (ways m plan.bounds op));
        below = lower m plan.bounds (fixed_below m plan.bounds costs fixed);
        real = λ small. fixed_tree m plan.bounds costs fixed (slice_index plan.bounds op) op (omega (arith, long, h)) small (omega arith);
      };
      choices = λ op h. (hold op h).choice;
    }
