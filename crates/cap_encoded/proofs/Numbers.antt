-- The weight at the place of an operation.
use Rattle.std.proofs.Common.{◌≡◌, ◌<◌, ◌≤◌, ◌-◌, ℕ, Option, get_or, arith}
use Rattle.std.proofs.lemmas.List.FromFn.{get_or-map-range_with_len}
use Rattle.cap_ops.specs.declared.plans.Kind.{Kind}
use Rattle.cap_ops.specs.Offered.{offered_weight, offered_weights}

pub weight-at : (kind : Kind) (op : ℕ) (d : Option ℕ) → 0 < op → op ≤ 44 → get_or (offered_weights kind) (op - 1) d ≡ offered_weight kind op
weight-at kind op d low high = get_or-map-range_with_len (offered_weight kind) 1 44 (op - 1) op d (omega arith) (omega arith)
