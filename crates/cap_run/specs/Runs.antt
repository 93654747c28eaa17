-- Plain evaluation: the value of an operation on data by a plan. No cache, no handles, no history.
use Rattle.std.specs.Prelude.{ℕ, zero, suc, List, Option, Some, None}
use Rattle.cap_ops.specs.Arrows.{Between, ValueOver, over}
use Rattle.cap_ops.specs.Primitives.{OfferData, prime_of, IsWithin}
use Rattle.cap_ops.specs.declared.plans.Choice.{Choice}
use Rattle.cap_ops.specs.declared.plans.Choice.TheVariants.{Prim, Missing}
use Rattle.cap_ops.specs.declared.plans.Choice.TheVariants.{Rule as ByRule}
use Rattle.cap_ops.specs.declared.plans.Plan.{Plan}
use Rattle.cap_terms.specs.declared.body.Rule.{Rule}
use Rattle.cap_terms.specs.Run.{Outcome, done, large, Calls, BodyGives}
use Rattle.cap_run.specs.Plans.{choice, bound, rule_at}

module _ {O M : Type 0} where
  -- what the primitive of an operation gives: its answer where no size past the limits is met, else one that is met
  abbrev pub PrimitiveGives : OfferData O M → Calls O (Between O M)
  PrimitiveGives D op args (done v) = D.answer op args v × IsWithin D op args
  PrimitiveGives D op args (large rows columns) = D.large op args rows columns

  -- what a rule's body gives, where R says what calls give
  abbrev pub RuleGives : OfferData O M → Calls O (Between O M) → Option Rule → List (ValueOver O M) → Outcome O (Between O M) → Type 0
  RuleGives D R None args out = ⊥
  RuleGives D R (Some r) args out = BodyGives (over (prime_of D)) R r.body args out

  -- what a choice gives: the primitive, or the rule's body
  abbrev pub ChoiceGives : OfferData O M → List Rule → Calls O (Between O M) → Choice → Calls O (Between O M)
  ChoiceGives D rules R Prim op args out = PrimitiveGives D op args out
  ChoiceGives D rules R (ByRule rule_no) op args out = RuleGives D R (rule_at rules rule_no) args out
  ChoiceGives D rules R Missing op args out = ⊥

  -- what an operation gives by the plan, where calls are nested less than n deep
  abbrev pub RunWithin : OfferData O M → List Rule → Plan → ℕ → Calls O (Between O M)
  RunWithin D rules p zero op args out = ⊥
  RunWithin D rules p (suc n) op args out = ChoiceGives D rules (RunWithin D rules p n) (choice p op) op args out

  -- plain evaluation: each operation that a chosen body calls has a smaller bound, so calls are nested less deep than the bound
  abbrev pub Run : OfferData O M → List Rule → Plan → Calls O (Between O M)
  Run D rules p op args out = RunWithin D rules p (suc (bound p op)) op args out
