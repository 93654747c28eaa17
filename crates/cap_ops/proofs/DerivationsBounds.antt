-- Lower bounds are below every tree.
use Rattle.std.proofs.Common.{◌≡◌, ℕ, ◌+◌, ◌*◌, ◌<◌, ◌≤◌, List, [], ◌∷◌, length, drop, slice_index, refl, sym, ◌∙◌, ap, arith, suc, zero, drop-cons, ◌⊎◌, inl, inr}
use Rattle.std.proofs.lemmas.List.{drop_all}
use Rattle.std.proofs.Math.ListN.{get_or-eq_default}
use Rattle.cap_ops.specs.Derivations.{Wanted, One, Each, repeated, occurrences, Means, Derivation, primitive, by_rule, none, with, weight, IsRegistered, IsRule, head_of, weight_by, charge, AreLowerBounds, IsLeast}
use Rattle.cap_ops.proofs.DerivationsWays.{lesser-right}
use Rattle.cap_ops.specs.declared.plans.RuleCost.{RuleCost}
use Rattle.cap_ops.specs.declared.plans.TheConstants.{NO_PLAN}

-- what is wanted, at its bounds
abbrev pub prices : List ℕ → List ℕ → ℕ
prices bounds [] = 0
prices bounds (op ∷ ops) = slice_index bounds op + prices bounds ops

abbrev pub price : List ℕ → Wanted → ℕ
price bounds (One op) = slice_index bounds op
price bounds (Each ops) = prices bounds ops

pub prices-repeated : (bounds : List ℕ) (n op : ℕ) (ops : List ℕ) → prices bounds (repeated n op ops) ≡ n * slice_index bounds op + prices bounds ops
prices-repeated bounds zero op ops = omega arith
prices-repeated bounds (suc n) op ops = omega (arith, prices-repeated bounds n op ops)

pub lt_or_le : (a b : ℕ) → (a < b) ⊎ (b ≤ a)
lt_or_le a zero = inr (omega arith)
lt_or_le zero (suc b) = inl (omega arith)
lt_or_le (suc a) (suc b) = elim (lt_or_le a b) [ inl h ↦ inl (omega (arith, h)) | inr h ↦ inr (omega (arith, h)) ]

nothing-left : (op : ℕ) (bounds : List ℕ) → length bounds ≤ op → slice_index bounds op ≡ 0
nothing-left op bounds h = get_or-eq_default bounds 0 h

charge-none : (counts : List ℕ) → charge counts [] ≡ 0
charge-none [] = refl
charge-none (count ∷ counts) = refl

-- the first count and the others
first : (count : ℕ) (counts bounds : List ℕ) (op : ℕ) → count * slice_index bounds op + charge counts (drop (suc op) bounds) ≡ charge (count ∷ counts) (drop op bounds)
first count counts bounds op =
    elim (lt_or_le op (length bounds)) [
      | inl h ↦ ap (charge (count ∷ counts)) (sym (drop-cons bounds op 0 h))
      | inr h ↦ rw (nothing-left op bounds h, drop_all op bounds h, drop_all (suc op) bounds (omega (arith, h))) (omega (arith, charge-none counts))
    ]

pub prices-occurrences : (bounds : List ℕ) (counts : List ℕ) (op : ℕ) → prices bounds (occurrences op counts) ≡ charge counts (drop op bounds)
prices-occurrences bounds [] op = refl
prices-occurrences bounds (count ∷ counts) op =
    prices-repeated bounds count op (occurrences (suc op) counts)
    ∙ (ap (λ n. count * slice_index bounds op + n) (prices-occurrences bounds counts (suc op))
    ∙ first count counts bounds op)

-- the inequalities of lower bounds, for bounds of any size
pub record AreBelow (m : Means) (bounds : List ℕ) : Type 0 where
  pub primitives : (op n : ℕ) → IsRegistered m op n → slice_index bounds op ≤ n
  pub rules : (rule : RuleCost) → IsRule m rule → slice_index bounds (head_of rule) ≤ weight_by bounds rule

-- no tree weighs less than such bounds say
pub lower : (m : Means) (bounds : List ℕ) → AreBelow m bounds → {w : Wanted} (tree : Derivation m w) → price bounds w ≤ weight tree
lower m bounds are (primitive op n is) = are.primitives op n is
lower m bounds are (by_rule rule is trees) =
    omega (arith, are.rules rule is, lower m bounds are trees, prices-occurrences bounds rule.calls 0)
lower m bounds are none = omega arith
lower m bounds are (with tree trees) = omega (arith, lower m bounds are tree, lower m bounds are trees)

pub below_of_lower : (m : Means) (bounds : List ℕ) → AreLowerBounds m bounds → AreBelow m bounds
below_of_lower m bounds are = record { primitives = are.primitives; rules = λ rule is. omega (arith, are.rules rule is, lesser-right NO_PLAN (weight_by bounds rule)) }

least-le : (m : Means) (op a b : ℕ) → IsLeast m op a → IsLeast m op b → a ≤ b
least-le m op a b x y = elim (lt_or_le b NO_PLAN) [
  | inl h ↦ (let t = y.real h in omega (arith, x.below t.0, t.1))
  | inr h ↦ omega (arith, h, x.capped)
]

pub same_least : (m : Means) (op a b : ℕ) → IsLeast m op a → IsLeast m op b → a ≡ b
same_least m op a b x y = omega (arith, least-le m op a b x y, least-le m op b a y x)
