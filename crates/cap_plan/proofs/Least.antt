-- Real bounds that no rule lowers are least.
use Rattle.std.proofs.Common.{◌≡◌, ℕ, ◌<◌, ◌≤◌, List, length, slice_index, refl, arith, inl, inr, true, Option, Some, None}
use Rattle.std.specs.List.{All, slice_index_or}
use Rattle.std.proofs.lemmas.List.Elements.{All-contains}
use Rattle.cap_ops.specs.Derivations.{Means, Derivation, One, primitive, weight, IsWeight, is_allowed, head_of, weight_by, IsLeast}
use Rattle.cap_ops.proofs.DerivationsBounds.{lower, lt_or_le}
use Rattle.std.proofs.lemmas.List.{get_or_default}
use Rattle.std.proofs.Math.ListN.{get_or-eq_default}
use Rattle.cap_ops.specs.declared.plans.TheConstants.{OPERATIONS, NO_PLAN}
use Rattle.cap_plan.specs.Rounds.{AreReal, AreStill, IsFirst, weight_or_none}

pub least_where_still : (m : Means) (bounds : List ℕ) → AreReal m bounds → AreStill m.kind m.rules bounds → length bounds ≡ OPERATIONS → (op : ℕ) → op < OPERATIONS → IsLeast m op (slice_index bounds op)
least_where_still m bounds real still long op inside =
    record {
      capped = real.capped op 0 (omega arith);
      below = λ tree. lower m bounds (record {
        primitives = real.primitives;
        rules = λ rule is. All-contains (λ r. is_allowed m.kind r ≡ true → slice_index bounds (head_of r) ≤ weight_by bounds r) m.rules rule still.still is.listed is.allowed;
      }) tree;
      real = real.trees op (omega arith);
    }

first_capped : (weight : Option ℕ) → IsWeight weight → weight_or_none weight ≤ NO_PLAN
first_capped None is = omega arith
first_capped (Some n) is = omega (arith, is.to n refl)

all_capped : (weights : List (Option ℕ)) → All IsWeight weights → (op : ℕ) → weight_or_none (slice_index_or weights op None) ≤ NO_PLAN
all_capped weights all op = elim (lt_or_le op (length weights)) [
  | inl h ↦ first_capped (slice_index_or weights op None) (all op None h)
  | inr h ↦ rw (get_or-eq_default weights None {n = op} h) (omega arith)
]

first_tree : (m : Means) (op : ℕ) (w : Option ℕ) → slice_index_or m.weights op None ≡ w → weight_or_none w < NO_PLAN → (tree : Derivation m (One op)) × (weight tree ≡ weight_or_none w)
first_tree m op None is small = absurd (omega (arith, small))
first_tree m op (Some n) is small = (primitive op n (record { is = is }), refl)

pub real_first : (m : Means) (bounds : List ℕ) → All IsWeight m.weights → length bounds ≡ OPERATIONS → IsFirst m.weights bounds → AreReal m bounds
real_first m bounds weights long first =
    record {
      capped = λ op d h. rw (get_or_default bounds op d 0 h) (rw (first.each op (omega (arith, h))) (all_capped m.weights weights op));
      trees = λ op h small. rw (first.each op (omega (arith, h))) (first_tree m op (slice_index_or m.weights op None) refl (rw (first.each op (omega (arith, h))) at small));
      primitives = λ op n is. elim (lt_or_le op OPERATIONS) [
        | inl h ↦ rw (first.each op h) (rw (is.is) (omega arith))
        | inr h ↦ rw (get_or-eq_default bounds 0 {n = op} (omega (arith, h))) (omega arith)
      ];
    }
