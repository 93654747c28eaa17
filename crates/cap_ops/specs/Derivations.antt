-- Derivations of operations as trees, their weights, least weights, plans and the lines of certificates: this project's own notions.
-- In all lists by operation, the operation with number n stands at place n - 1, and places count from 0.
use Rattle.std.specs.Prelude.{◌≡◌, ℕ, ◌+◌, ◌-◌, ◌*◌, ◌<◌, ◌≤◌, Bool, true, if◌then◌else◌, ◌==◌, ◌&&◌, not, List, [], ◌∷◌, length, map, sum, slice_index, Option, Some, None, nat_lt, zero, suc}
use Rattle.std.specs.List.{All, Contains, slice_index_or}
use Rattle.std.specs.List.Sorted.{IsStrictlyIncreasing}
use Rattle.cap_ops.specs.declared.plans.RuleCost.{RuleCost}
use Rattle.cap_ops.specs.declared.plans.Kind.{Kind}
use Rattle.cap_ops.specs.declared.plans.Kind.TheVariants.{Mat, Add, Freyd, Rep}
use Rattle.cap_ops.specs.declared.plans.Choice.{Choice}
use Rattle.cap_ops.specs.declared.plans.Choice.TheVariants.{Prim, Rule, Missing}
use Rattle.cap_ops.specs.declared.plans.Plan.{Plan}
use Rattle.cap_ops.specs.declared.plans.Regs.{Regs}
use Rattle.cap_ops.specs.declared.plans.TheConstants.{OPERATIONS, NO_PLAN, MOST_WEIGHT}

-- what a derivation is of: one operation, or several in order
pub data Wanted : Type 0 where
  One : (op : ℕ) → Wanted
  Each : (ops : List ℕ) → Wanted

-- the place of a rule's head
abbrev pub head_of : RuleCost → ℕ
head_of rule = rule.head.0 - 1

-- the operation, this many times, and then the others
abbrev pub repeated : ℕ → ℕ → List ℕ → List ℕ
repeated zero op ops = ops
repeated (suc n) op ops = op ∷ repeated n op ops

-- the operations from op on, each as often as its count says
abbrev pub occurrences : ℕ → List ℕ → List ℕ
occurrences op [] = []
occurrences op (count ∷ counts) = repeated count op (occurrences (suc op) counts)

-- the calls in the body of a rule
abbrev pub called : RuleCost → List ℕ
called rule = occurrences 0 rule.calls

-- a rule that holds in abelian categories alone is for every kind but additive closures
abbrev pub is_allowed : Kind → RuleCost → Bool
is_allowed Mat rule = true
is_allowed Add rule = not rule.abelian
is_allowed Freyd rule = true
is_allowed Rep rule = true

-- what a derivation may use: the registered weights, the rules, and the kind of category
pub record Means : Type 0 where
  pub weights : List (Option ℕ)
  pub rules : List RuleCost
  pub kind : Kind

-- the operation is registered with this weight
pub record IsRegistered (m : Means) (op weight : ℕ) : Type 0 where
  pub is : slice_index_or m.weights op None ≡ Some weight

-- the rule is listed, and allowed for the kind
pub record IsRule (m : Means) (rule : RuleCost) : Type 0 where
  pub listed : Contains m.rules rule
  pub allowed : is_allowed m.kind rule ≡ true

-- a derivation: the primitive, where it is registered, or an allowed rule with a derivation for each call of its body
pub data Derivation (m : Means) : Wanted → Type 0 where
  primitive : (op weight : ℕ) → IsRegistered m op weight → Derivation m (One op)
  by_rule : (rule : RuleCost) → IsRule m rule → Derivation m (Each (called rule)) → Derivation m (One (head_of rule))
  none : Derivation m (Each [])
  with : {op : ℕ} {ops : List ℕ} → Derivation m (One op) → Derivation m (Each ops) → Derivation m (Each (op ∷ ops))

-- the registered weight, or the rule's own weight and those of all the derivations below it
abbrev pub weight : {m : Means} {wanted : Wanted} → Derivation m wanted → ℕ
weight (primitive op n is) = n
weight (by_rule rule is trees) = rule.own + weight trees
weight none = 0
weight (with tree trees) = weight tree + weight trees

-- the bound is the least weight of a derivation, or NO_PLAN where each weighs that much or more, or there is none
pub record IsLeast (m : Means) (op bound : ℕ) : Type 0 where
  pub capped : bound ≤ NO_PLAN
  pub below : (tree : Derivation m (One op)) → bound ≤ weight tree
  pub real : bound < NO_PLAN → (tree : Derivation m (One op)) × (weight tree ≡ bound)

-- the sum over operations of the count times the bound
abbrev pub charge : List ℕ → List ℕ → ℕ
charge [] bounds = 0
charge (count ∷ counts) [] = 0
charge (count ∷ counts) (bound ∷ bounds) = count * bound + charge counts bounds

-- what a rule weighs where each operation that it calls weighs its bound
abbrev pub weight_by : List ℕ → RuleCost → ℕ
weight_by bounds rule = rule.own + charge rule.calls bounds

-- the lesser of two weights
abbrev pub lesser : ℕ → ℕ → ℕ
lesser a b = if nat_lt a b then a else b

-- lower bounds: from 1 to NO_PLAN, none above a registered weight or above what an allowed rule weighs by them
pub record AreLowerBounds (m : Means) (bounds : List ℕ) : Type 0 where
  pub from : (op : ℕ) → op < OPERATIONS → 1 ≤ slice_index bounds op
  pub to : (op : ℕ) → op < OPERATIONS → slice_index bounds op ≤ NO_PLAN
  pub primitives : (op n : ℕ) → IsRegistered m op n → slice_index bounds op ≤ n
  pub rules : (rule : RuleCost) → IsRule m rule → slice_index bounds (head_of rule) ≤ lesser NO_PLAN (weight_by bounds rule)

-- the rule has this head and is allowed
abbrev pub leads_to : Kind → ℕ → RuleCost → Bool
leads_to kind op rule = head_of rule == op && is_allowed kind rule

-- the ways to an operation by rules, in their order, each with its weight by the bounds
abbrev pub ways_by_rule : Kind → List ℕ → ℕ → List RuleCost → List (ℕ × Choice)
ways_by_rule kind bounds op [] = []
ways_by_rule kind bounds op (rule ∷ rules) =
    if leads_to kind op rule then (weight_by bounds rule, Rule rule.no) ∷ ways_by_rule kind bounds op rules else ways_by_rule kind bounds op rules

-- the primitive's way, where it is registered, and then the others
abbrev pub first_way : Option ℕ → List (ℕ × Choice) → List (ℕ × Choice)
first_way None ways = ways
first_way (Some n) ways = (n, Prim) ∷ ways

-- all ways to an operation in the order of ties: the primitive, then the allowed rules with this head
abbrev pub ways : Means → List ℕ → ℕ → List (ℕ × Choice)
ways m bounds op = first_way (slice_index_or m.weights op None) (ways_by_rule m.kind bounds op m.rules)

-- the weight of the lightest way, or NO_PLAN where that is less
abbrev pub lightest : List (ℕ × Choice) → ℕ
lightest [] = NO_PLAN
lightest (way ∷ more) = lesser way.0 (lightest more)

-- the first way of this weight
abbrev pub first_at : ℕ → List (ℕ × Choice) → Choice
first_at n [] = Missing
first_at n (way ∷ more) = if way.0 == n then way.1 else first_at n more

-- the first way that weighs the operation's bound; missing where the bound is NO_PLAN
abbrev pub choice_for : Means → List ℕ → ℕ → Choice
choice_for m bounds op = if nat_lt (slice_index bounds op) NO_PLAN then first_at (slice_index bounds op) (ways m bounds op) else Missing

-- the plan: a bound and a choice for each operation; each bound is least, and each choice is the first way of that weight by the least weights
pub record IsPlan (m : Means) (plan : Plan) : Type 0 where
  pub all_bounds : length plan.bounds ≡ OPERATIONS
  pub all_choices : length plan.choices ≡ OPERATIONS
  pub bounds : (op : ℕ) → op < OPERATIONS → IsLeast m op (slice_index plan.bounds op)
  pub choices : (op : ℕ) → op < OPERATIONS → slice_index_or plan.choices op Missing ≡ choice_for m plan.bounds op

-- what a plan does an operation by, and its bound; the operation with number n stands at place n - 1
abbrev pub choice : Plan → ℕ → Choice
choice p op = slice_index_or p.choices (op - 1) Missing

abbrev pub bound : Plan → ℕ → ℕ
bound p op = slice_index p.bounds (op - 1)

-- the operation's line in a certificate holds: its bound and choice are what the printed bounds make them
pub record LineHolds (m : Means) (plan : Plan) (op : ℕ) : Type 0 where
  pub bound : slice_index plan.bounds op ≡ lightest (ways m plan.bounds op)
  pub choice : slice_index_or plan.choices op Missing ≡ choice_for m plan.bounds op

-- these registrations, rules and kind
abbrev pub means : Regs → List RuleCost → Kind → Means
means regs rules kind = record { weights = regs.weights; rules = rules; kind = kind }

-- what the cost of a rule has to be: the head is an operation, the own weight is in range, there is a count for each operation, and a call
pub record IsCost (rule : RuleCost) : Type 0 where
  pub head_from : 1 ≤ rule.head.0
  pub head_to : rule.head.0 ≤ OPERATIONS
  pub own_from : 1 ≤ rule.own
  pub own_to : rule.own ≤ MOST_WEIGHT
  pub operations : length rule.calls ≡ OPERATIONS
  pub calls : 1 ≤ sum rule.calls

-- the costs of a list of rules, in rising order of number
pub record AreCosts (rules : List RuleCost) : Type 0 where
  pub each : All IsCost rules
  pub rising : IsStrictlyIncreasing (map (λ rule. rule.no.0) rules)

-- a registered weight is in range
pub record IsWeight (weight : Option ℕ) : Type 0 where
  pub from : (n : ℕ) → weight ≡ Some n → 1 ≤ n
  pub to : (n : ℕ) → weight ≡ Some n → n ≤ MOST_WEIGHT

-- what a planner is handed: registered weights and costs
pub record ArePlannable (weights : List (Option ℕ)) (rules : List RuleCost) : Type 0 where
  pub registered : All IsWeight weights
  pub costs : AreCosts rules
