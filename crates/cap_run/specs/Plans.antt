-- What evaluation reads of a plan, and what a plan over rules must be for evaluation to end.
use Rattle.std.specs.Prelude.{◌≡◌, ℕ, ◌-◌, ◌+◌, ◌<◌, ◌≤◌, true, List, [], ◌∷◌, Option, Some, map, slice_index, IsSome}
use Rattle.std.specs.List.{All, slice_index_or}
use Rattle.cap_names.specs.declared.identifiers.RuleNo.{RuleNo}
use Rattle.cap_ops.specs.Ends.{IsOperation}
use Rattle.cap_ops.specs.Primitives.{OfferData, AreOffered}
use Rattle.cap_ops.specs.Derivations.{means, is_allowed, IsCost, IsPlan}
pub use Rattle.cap_ops.specs.Derivations.{choice, bound}
use Rattle.cap_ops.specs.declared.plans.Kind.{Kind}
use Rattle.cap_ops.specs.declared.plans.Regs.{Regs}
use Rattle.cap_ops.specs.declared.plans.RuleCost.{RuleCost}
use Rattle.cap_ops.specs.declared.plans.Choice.{Choice}
use Rattle.cap_ops.specs.declared.plans.Choice.TheVariants.{Prim, Missing}
use Rattle.cap_ops.specs.declared.plans.Choice.TheVariants.{Rule as ByRule}
use Rattle.cap_ops.specs.declared.plans.Plan.{Plan}
use Rattle.cap_ops.specs.declared.plans.TheConstants.{NO_PLAN}
use Rattle.cap_terms.specs.declared.body.Rule.{Rule}
use Rattle.cap_terms.specs.declared.body.Step.{Step}
use Rattle.cap_terms.specs.declared.body.Step.TheVariants.{Call}
use Rattle.cap_terms.specs.Rules.{AreNumbered, all_occurrences}
use Rattle.cap_terms.specs.Run.{nth_from_one}
use Rattle.cap_terms.specs.Typing.{Typed}

-- the rule with a number
abbrev pub rule_at : List Rule → RuleNo → Option Rule
rule_at rules rule_no = nth_from_one rules rule_no.0

abbrev pub costs_of : List Rule → List RuleCost
costs_of rules = map (λ r. r.cost) rules

-- rules that evaluation can run: numbered, typed, and costing each operation as often as their bodies call it
pub record AreRules (rules : List Rule) : Type 0 where
  pub numbered : AreNumbered rules
  pub typed : All (λ r. Typed r.cost.head.0 r.body) rules
  pub counted : All (λ r. r.cost.calls ≡ all_occurrences r.body.steps) rules
  pub costs : All IsCost (costs_of rules)

-- each operation that a step calls has a smaller bound
abbrev pub StepBelow : Plan → ℕ → Step → Type 0
StepBelow p b (Call op xs) = bound p op.0 < b
StepBelow p b _ = Unit {0}

abbrev pub StepsBelow : Plan → ℕ → List Step → Type 0
StepsBelow p b [] = Unit {0}
StepsBelow p b (s ∷ ss) = StepBelow p b s × StepsBelow p b ss

-- the rule is the one with this number, is for the operation and the kind, and calls operations of smaller bounds
pub record IsChosen (rules : List Rule) (kind : Kind) (p : Plan) (op : ℕ) (rule_no : RuleNo) (r : Rule) : Type 0 where
  pub listed : rule_at rules rule_no ≡ Some r
  pub head : r.cost.head.0 ≡ op
  pub allowed : is_allowed kind r.cost ≡ true
  pub below : StepsBelow p (bound p op) r.body.steps

-- a plan by which evaluation ends: chosen primitives are offered, chosen rules call operations of smaller bounds, and an operation has a choice exactly where its bound is one of a plan
pub record IsTruePlan {O M : Type 0} (D : OfferData O M) (rules : List Rule) (p : Plan) : Type 0 where
  pub capped : (op : ℕ) → IsOperation op → bound p op ≤ NO_PLAN
  pub offered : (op : ℕ) → IsOperation op → choice p op ≡ Prim → IsSome (D.weight op)
  pub rule : (op : ℕ) → IsOperation op → (rule_no : RuleNo) → choice p op ≡ ByRule rule_no → (r : Rule) × IsChosen rules D.kind p op rule_no r
  pub missing : (op : ℕ) → IsOperation op → choice p op ≡ Missing → bound p op ≡ NO_PLAN

-- the plan of some registrations of offered primitives, over the costs of the rules
pub record IsPlanOf {O M : Type 0} (D : OfferData O M) (rules : List Rule) (p : Plan) : Type 0 where
  pub regs : Regs
  pub is_plan : IsPlan (means regs (costs_of rules) D.kind) p
  pub offered : AreOffered D regs.weights

-- such a plan is one by which evaluation ends
pub record PlansAreTrue {O M : Type 0} (D : OfferData O M) : Type 0 where
  pub law : (rules : List Rule) (p : Plan) → AreRules rules → IsPlanOf D rules p → IsTruePlan D rules p
