-- Plain evaluation has one value, but for the size that is named where one past the limits is met.
use Rattle.std.specs.Prelude.{◌≡◌, ℕ, List}
use Rattle.cap_ops.specs.Arrows.{ValueOver}
use Rattle.cap_ops.specs.Primitives.{OfferData}
use Rattle.cap_ops.specs.declared.plans.Plan.{Plan}
use Rattle.cap_terms.specs.declared.body.Rule.{Rule}
use Rattle.cap_terms.specs.Run.{done, large}
use Rattle.cap_run.specs.Runs.{Run}

-- an operation on data has one value by a plan, or sizes past the limits are met, never both
pub record RunIsOne {O M : Type 0} (D : OfferData O M) : Type 0 where
  pub one : (rules : List Rule) (p : Plan) (op : ℕ) (args : List (ValueOver O M)) (v w : ValueOver O M) → Run D rules p op args (done v) → Run D rules p op args (done w) → v ≡ w
  pub never_both : (rules : List Rule) (p : Plan) (op : ℕ) (args : List (ValueOver O M)) (v : ValueOver O M) (rows columns : ℕ) → Run D rules p op args (done v) → Run D rules p op args (large rows columns) → ⊥
