-- What one more command changes (this project's own script language).
use Rattle.std.specs.Prelude.{◌≡◌, ℕ, ◌++◌, List, [], ◌∷◌, Bool, true, false, ◌==◌, if◌then◌else◌, Option, Some, None}
use Rattle.std.specs.List.{list_any}
use Rattle.cap_names.specs.declared.identifiers.OpId.{OpId}
use Rattle.cap_check.specs.Unbuilt.{CheckedPart}
use Rattle.cap_ops.specs.declared.plans.Kind.{Kind}
use Rattle.cap_ops.specs.Offered.{offered_weight}
use Rattle.cap_registered.specs.Kept.{kept}
use Rattle.cap_registered.specs.Registrations.{finalises, registration, registered_weight}

-- the category of this name is final behind these parts
abbrev pub is_final : List ℕ → List CheckedPart → Bool
is_final name parts = list_any (λ p. finalises name p.node) parts

-- an operation's weight behind a part: what it was before, unless the category is not final and the part asks for this operation
abbrev pub weight_behind : Bool → Option (OpId × Option ℕ) → ℕ → Option ℕ → Option ℕ → Option ℕ
weight_behind final None op default before = before
weight_behind true (Some ask) op default before = before
weight_behind false (Some ask) op default before = if ask.0.0 == op then kept before default ask.1 else before

-- nothing is registered before the first part; each part then registers what it asks for, where the category is not final, the kind offers the operation and it is not registered
pub record GoesPartByPart (kind : Kind) (name : List ℕ) (op : ℕ) : Type 0 where
  pub first : registered_weight kind name [] op ≡ None
  pub next : (parts : List CheckedPart) (p : CheckedPart) → registered_weight kind name (parts ++ p ∷ []) op ≡ weight_behind (is_final name parts) (registration name p.node) op (offered_weight kind op) (registered_weight kind name parts op)
