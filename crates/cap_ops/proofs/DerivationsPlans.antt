-- The lines of a plan hold.
use Rattle.std.proofs.Common.{◌≡◌, ℕ, ◌<◌, ◌≤◌, List, length, slice_index, sym, ◌∙◌, ap, arith, inl, inr, Option, Some, None}
use Rattle.std.specs.List.{All, slice_index_or}
use Rattle.std.proofs.lemmas.Bool.Decides.{nat_tests}
use Rattle.std.proofs.lemmas.List.{ext_get_or}
use Rattle.std.proofs.lemmas.List.Elements.{All-contains}
use Rattle.std.proofs.Math.ListN.{get_or-eq_default}
use Rattle.cap_ops.specs.Derivations.{Means, One, Each, Derivation, primitive, by_rule, none, with, weight, IsCost, head_of, weight_by, IsLeast, IsWeight, AreLowerBounds, lesser, choice_for, lightest, ways, LineHolds, IsPlan}
use Rattle.cap_ops.proofs.DerivationsBounds.{lt_or_le, same_least, AreBelow, prices, prices-occurrences}
use Rattle.cap_ops.proofs.DerivationsTrees.{Weighs}
use Rattle.cap_ops.proofs.DerivationsWays.{lightest_way, lightest-capped, no_lighter_primitive, no_lighter_way}
use Rattle.cap_ops.proofs.DerivationsLines.{AreFixed, fixed_below, tree_of_way}
use Rattle.cap_ops.specs.declared.plans.Plan.{Plan}
use Rattle.cap_ops.specs.declared.plans.Choice.{Choice}
use Rattle.cap_ops.specs.declared.plans.Choice.TheVariants.{Missing}
use Rattle.cap_ops.specs.declared.plans.TheConstants.{OPERATIONS, NO_PLAN}

-- where no tree weighs less than its bound, no trees do
below_each : (m : Means) (bounds : List ℕ) → ((op : ℕ) (tree : Derivation m (One op)) → slice_index bounds op ≤ weight tree) → {ops : List ℕ} (trees : Derivation m (Each ops)) → prices bounds ops ≤ weight trees
below_each m bounds below none = omega arith
below_each m bounds below (with {op} tree trees) = omega (arith, below op tree, below_each m bounds below trees)

-- the root of a tree is a way
root_way : (m : Means) (bounds : List ℕ) → ((op : ℕ) (tree : Derivation m (One op)) → slice_index bounds op ≤ weight tree) → {op : ℕ} (tree : Derivation m (One op)) → lightest (ways m bounds op) ≤ weight tree
root_way m bounds below (primitive op n is) = no_lighter_primitive m bounds op n is
root_way m bounds below (by_rule rule is trees) = omega (arith, no_lighter_way m bounds rule is, below_each m bounds below trees, prices-occurrences bounds rule.calls 0)

least_is_lightest : (m : Means) (bounds : List ℕ) → All IsCost m.rules → length bounds ≡ OPERATIONS → ((op : ℕ) → op < OPERATIONS → IsLeast m op (slice_index bounds op)) → (op : ℕ) → op < OPERATIONS → slice_index bounds op ≡ lightest (ways m bounds op)
least_is_lightest m bounds costs long least op h =
    let l = lightest (ways m bounds op) in
    let up : slice_index bounds op ≤ l = elim (lt_or_le l NO_PLAN) [
      | inl k ↦ (let t : Weighs m (One op) l = tree_of_way m bounds costs long op l (λ at i s. (least at (omega (arith, i, long))).real (omega (arith, s, k))) (lightest_way m bounds op k) in omega (arith, (least op h).below t.0, t.1))
      | inr k ↦ omega (arith, k, (least op h).capped)
    ] in
    let below : (o : ℕ) (tree : Derivation m (One o)) → slice_index bounds o ≤ weight tree = λ o tree. elim (lt_or_le o OPERATIONS) [
      | inl k ↦ (least o k).below tree
      | inr k ↦ rw (get_or-eq_default bounds 0 {n = o} (omega (arith, k, long))) (omega arith)
    ] in
    let down : l ≤ slice_index bounds op = elim (lt_or_le (slice_index bounds op) NO_PLAN) [
      | inl k ↦ (let t = (least op h).real k in omega (arith, root_way m bounds below t.0, t.1))
      | inr k ↦ omega (arith, k, lightest-capped (ways m bounds op))
    ] in
    omega (arith, up, down)

pub plan_lines : (m : Means) (plan : Plan) → All IsCost m.rules → IsPlan m plan → (op : ℕ) → op < OPERATIONS → LineHolds m plan op
plan_lines m plan costs is op h = record { bound = least_is_lightest m plan.bounds costs is.all_bounds is.bounds op h; choice = is.choices op h }

-- a registered weight is at least 1
registered_above : (weights : List (Option ℕ)) → All IsWeight weights → (op n : ℕ) → slice_index_or weights op None ≡ Some n → 1 ≤ n
registered_above weights all op n is = elim (lt_or_le op (length weights)) [
  | inl h ↦ (all op None h).from n is
  | inr h ↦ absurd (let e : slice_index_or weights op None ≡ None = get_or-eq_default weights None {n = op} h in cc)
]

-- every derivation weighs something
weighs_something : (m : Means) → All IsWeight m.weights → All IsCost m.rules → {op : ℕ} (tree : Derivation m (One op)) → 1 ≤ weight tree
weighs_something m weights costs (primitive op n is) = registered_above m.weights weights op n is.is
weighs_something m weights costs (by_rule rule is trees) = let cost : IsCost rule = All-contains IsCost m.rules rule costs is.listed in omega (arith, cost.own_from)

least_from : (m : Means) → All IsWeight m.weights → All IsCost m.rules → (op b : ℕ) → IsLeast m op b → 1 ≤ b
least_from m weights costs op b least = elim (lt_or_le b NO_PLAN) [
  | inl h ↦ (let t = least.real h in omega (arith, t.1, weighs_something m weights costs t.0))
  | inr h ↦ omega (arith, h)
]

above_both : (a b c : ℕ) → a ≤ b → a ≤ c → a ≤ lesser b c
above_both a b c h k = grind (arith, nat_tests, h, k)

pub plan_below : (m : Means) (plan : Plan) → All IsWeight m.weights → All IsCost m.rules → IsPlan m plan → AreLowerBounds m plan.bounds
plan_below m plan weights costs is =
    let fixed : AreFixed m plan.bounds = record { long = is.all_bounds; each = least_is_lightest m plan.bounds costs is.all_bounds is.bounds } in
    let below : AreBelow m plan.bounds = fixed_below m plan.bounds costs fixed in
    let capped : (op : ℕ) → op < OPERATIONS → slice_index plan.bounds op ≤ NO_PLAN = λ op h. (is.bounds op h).capped in
    record {
      from = λ op h. least_from m weights costs op (slice_index plan.bounds op) (is.bounds op h);
      to = capped;
      primitives = below.primitives;
      rules = λ rule is_rule.
          let cost : IsCost rule = All-contains IsCost m.rules rule costs is_rule.listed in
          above_both (slice_index plan.bounds (head_of rule)) NO_PLAN (weight_by plan.bounds rule) (capped (head_of rule) (omega (arith, cost.head_from, cost.head_to))) (below.rules rule is_rule);
    }

same_choices : (m : Means) (bounds : List ℕ) (a b : List Choice) → length a ≡ OPERATIONS → length b ≡ OPERATIONS
    → ((op : ℕ) → op < OPERATIONS → slice_index_or a op Missing ≡ choice_for m bounds op) → ((op : ℕ) → op < OPERATIONS → slice_index_or b op Missing ≡ choice_for m bounds op) → a ≡ b
same_choices m bounds a b long_a long_b is_a is_b = ext_get_or Missing a b (long_a ∙ sym long_b) (λ op h. is_a op (omega (arith, h, long_a)) ∙ sym (is_b op (omega (arith, h, long_a))))

abbrev plan_of : List Choice → List ℕ → Plan
plan_of choices bounds = record { choices = choices; bounds = bounds }

same_fields : (choices choices' : List Choice) (bounds bounds' : List ℕ) → choices ≡ choices' → bounds ≡ bounds' → plan_of choices bounds ≡ plan_of choices' bounds'
same_fields choices choices' bounds bounds' e f = ap (λ (c : List Choice). plan_of c bounds) e ∙ ap (λ (b : List ℕ). plan_of choices' b) f

pub same_plan : (m : Means) (a b : Plan) → IsPlan m a → IsPlan m b → a ≡ b
same_plan m a b is_a is_b =
    let bounds : b.bounds ≡ a.bounds = ext_get_or 0 b.bounds a.bounds (is_b.all_bounds ∙ sym is_a.all_bounds) (λ op h. same_least m op (slice_index b.bounds op) (slice_index a.bounds op) (is_b.bounds op (omega (arith, h, is_b.all_bounds))) (is_a.bounds op (omega (arith, h, is_b.all_bounds)))) in
    let choices : a.choices ≡ b.choices = same_choices m a.bounds a.choices b.choices is_a.all_choices is_b.all_choices is_a.choices (λ op h. is_b.choices op h ∙ ap (λ bounds. choice_for m bounds op) bounds) in
    same_fields a.choices b.choices a.bounds b.bounds choices (sym bounds)
