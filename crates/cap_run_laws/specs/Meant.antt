-- The value of plain evaluation has the operation's meaning.
use Rattle.std.specs.Prelude.{◌≡◌, ℕ, true, List}
use Rattle.std.specs.List.{All}
use Rattle.cap_ops.specs.Ends.{IsOperation}
use Rattle.cap_ops.specs.Arrows.{ValueOver}
use Rattle.cap_ops.specs.Primitives.{OfferData}
use Rattle.cap_ops.specs.Derivations.{is_allowed}
use Rattle.cap_ops.specs.Meaning.{Meaning}
use Rattle.cap_ops.specs.declared.plans.Plan.{Plan}
use Rattle.cap_terms.specs.declared.body.Rule.{Rule}
use Rattle.cap_terms.specs.Run.{done}
use Rattle.cap_rule_laws.specs.Soundness.{Sound}
use Rattle.cap_run.specs.Plans.{AreRules, IsTruePlan}
use Rattle.cap_run.specs.Runs.{Run}

-- the rules that are allowed for the kind are sound
abbrev pub AllAllowedSound : {O M : Type 0} → OfferData O M → List Rule → Type 0
AllAllowedSound D rules = All (λ r. is_allowed D.kind r.cost ≡ true → Sound D.category r) rules

-- by a true plan of sound rules, what an operation gives on data has its meaning
pub record RunMeans {O M : Type 0} (D : OfferData O M) : Type 0 where
  pub means : (rules : List Rule) (p : Plan) → AreRules rules → AllAllowedSound D rules → IsTruePlan D rules p → (op : ℕ) → IsOperation op → (args : List (ValueOver O M)) (v : ValueOver O M) → Run D rules p op args (done v) → Meaning D.category op args v
