-- A tree for each call makes a tree of the rule.
use Rattle.std.proofs.Common.{◌≡◌, ℕ, ◌+◌, ◌*◌, ◌<◌, ◌≤◌, List, [], ◌∷◌, length, drop, slice_index, refl, sym, subst, ap, arith, suc, zero, drop-cons}
use Rattle.cap_ops.specs.Derivations.{Wanted, One, Each, head_of, repeated, occurrences, called, Means, IsRule, Derivation, by_rule, none, with, weight, charge, weight_by}
use Rattle.cap_ops.specs.declared.plans.RuleCost.{RuleCost}

-- a tree that weighs n
abbrev pub Weighs : (m : Means) → Wanted → ℕ → Type 0
Weighs m w n = (tree : Derivation m w) × (weight tree ≡ n)

pub again : (m : Means) (n op x : ℕ) (ops : List ℕ) (total : ℕ) → Weighs m (One op) x → Weighs m (Each ops) total → Weighs m (Each (repeated n op ops)) (n * x + total)
again m zero op x ops total t f = (f.0, omega (arith, f.1))
again m (suc n) op x ops total t f =
    let r : Weighs m (Each (repeated n op ops)) (n * x + total) = again m n op x ops total t f in
    (with t.0 r.0, omega (arith, t.1, r.1))

pub again_where_any : (m : Means) (limit n op x : ℕ) (ops : List ℕ) (total : ℕ) → (x < limit → Weighs m (One op) x) → Weighs m (Each ops) total → n * x + total < limit → Weighs m (Each (repeated n op ops)) (n * x + total)
again_where_any m limit zero op x ops total t f small = (f.0, omega (arith, f.1))
again_where_any m limit (suc n) op x ops total t f small = again m (suc n) op x ops total (t (omega arith)) f

pub forest : (m : Means) (bounds : List ℕ) (limit : ℕ) → ((op : ℕ) → op < length bounds → slice_index bounds op < limit → Weighs m (One op) (slice_index bounds op)) → (counts : List ℕ) (op : ℕ) → op + length counts ≤ length bounds → charge counts (drop op bounds) < limit → Weighs m (Each (occurrences op counts)) (charge counts (drop op bounds))
forest m bounds limit have [] op fits small = (none, refl)
forest m bounds limit have (count ∷ counts) op fits small =
    let e : charge (count ∷ counts) (drop op bounds) ≡ count * slice_index bounds op + charge counts (drop (suc op) bounds) = ap (charge (count ∷ counts)) (drop-cons bounds op 0 (omega arith)) in
    subst (Weighs m (Each (occurrences op (count ∷ counts)))) (sym e)
    (again_where_any m limit count op (slice_index bounds op) (occurrences (suc op) counts) (charge counts (drop (suc op) bounds))
    (have op (omega arith))
    (forest m bounds limit have counts (suc op) (omega arith) (omega (arith, small, e)))
    (omega (arith, small, e)))

pub rule_tree : (m : Means) (bounds : List ℕ) (limit : ℕ) → ((op : ℕ) → op < length bounds → slice_index bounds op < limit → Weighs m (One op) (slice_index bounds op)) → (rule : RuleCost) → IsRule m rule → length rule.calls ≤ length bounds → charge rule.calls bounds < limit → Weighs m (One (head_of rule)) (weight_by bounds rule)
rule_tree m bounds limit have rule is fits small =
    let f : Weighs m (Each (called rule)) (charge rule.calls bounds) = forest m bounds limit have rule.calls 0 (omega arith) small in
    (by_rule rule is f.0, omega (arith, f.1))
