-- What the walks over the rules keep, for the private functions of the planner.
use Rattle.std.specs.Prelude.{◌≡◌, ℕ, ◌<◌, ◌≤◌, List, length, slice_index, Option, Some, None, sum, Bool, true, false, nat_lt, ◌&&◌, slice_set}
use Rattle.std.specs.List.{All, slice_index_or}
use Rattle.cap_ops.specs.Derivations.{Means, Derivation, One, weight, IsRegistered, is_allowed, head_of, weight_by}
use Rattle.cap_ops.specs.declared.plans.RuleCost.{RuleCost}
use Rattle.cap_ops.specs.declared.plans.Kind.{Kind}
use Rattle.cap_ops.specs.declared.plans.TheConstants.{OPERATIONS, NO_PLAN}

-- the weight, or NO_PLAN where there is none
abbrev pub weight_or_none : Option ℕ → ℕ
weight_or_none None = NO_PLAN
weight_or_none (Some n) = n

-- the bounds are the registered weights, and NO_PLAN elsewhere
pub record IsFirst (weights : List (Option ℕ)) (bounds : List ℕ) : Type 0 where
  pub each : (op : ℕ) → op < OPERATIONS → slice_index bounds op ≡ weight_or_none (slice_index_or weights op None)

-- each bound below NO_PLAN is the weight of a tree, and no bound is above a registered weight
pub record AreReal (m : Means) (bounds : List ℕ) : Type 0 where
  pub capped : All (λ b. b ≤ NO_PLAN) bounds
  pub trees : (op : ℕ) → op < length bounds → slice_index bounds op < NO_PLAN → (tree : Derivation m (One op)) × (weight tree ≡ slice_index bounds op)
  pub primitives : (op n : ℕ) → IsRegistered m op n → slice_index bounds op ≤ n

-- no rule among these lowers a bound
pub record AreStill (kind : Kind) (rules : List RuleCost) (bounds : List ℕ) : Type 0 where
  pub still : All (λ rule. is_allowed kind rule ≡ true → slice_index bounds (head_of rule) ≤ weight_by bounds rule) rules

-- what one walk over the rules does
pub record IsRound (kind : Kind) (rules : List RuleCost) (old new : List ℕ) (changed : Bool) : Type 0 where
  pub kept : (m : Means) → m.rules ≡ rules → m.kind ≡ kind → AreReal m old → AreReal m new
  pub less : changed ≡ true → sum new < sum old
  pub same : changed ≡ false → (new ≡ old) × AreStill kind rules old

-- the rule weighs less than the bound of its head
abbrev pub lowers : Kind → List ℕ → RuleCost → Bool
lowers kind bounds rule = is_allowed kind rule && nat_lt (weight_by bounds rule) (slice_index bounds (head_of rule))

-- the bounds, where the rule's weight has become that of its head
abbrev pub lowered : List ℕ → RuleCost → List ℕ
lowered bounds rule = slice_set bounds (head_of rule) (weight_by bounds rule)
