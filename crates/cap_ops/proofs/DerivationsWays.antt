-- The lightest way is a way, and no way is lighter.
use Rattle.std.proofs.Common.{◌≡◌, ℕ, ◌<◌, ◌≤◌, List, [], ◌∷◌, refl, sym, subst, arith, ◌⊎◌, inl, inr, Bool, true, false, cond, ◌&&◌, Option, Some, None}
use Rattle.std.specs.Prelude.{nat_eq, nat_lt}
use Rattle.std.specs.List.{All, Contains, slice_index_or}
use Rattle.std.proofs.lemmas.List.Elements.{All-nil, All-cons, All-weaker, All-contains, Contains-append_right}
use Rattle.std.proofs.lemmas.Bool.Decides.{nat_tests}
use Rattle.cap_ops.specs.Derivations.{head_of, Means, IsRegistered, IsRule, is_allowed, weight_by, leads_to, ways_by_rule, first_way, ways, lesser, lightest}
use Rattle.cap_ops.specs.declared.plans.RuleCost.{RuleCost}
use Rattle.cap_ops.specs.declared.plans.Kind.{Kind}
use Rattle.cap_ops.specs.declared.plans.Choice.{Choice}
use Rattle.cap_ops.specs.declared.plans.Choice.TheVariants.{Prim, Rule}
use Rattle.cap_ops.specs.declared.plans.TheConstants.{NO_PLAN}

pub lesser-left : (a b : ℕ) → lesser a b ≤ a
lesser-left a b = grind (arith, nat_tests)

pub lesser-right : (a b : ℕ) → lesser a b ≤ b
lesser-right a b = grind (arith, nat_tests)

pub lesser-is : (a b : ℕ) → (lesser a b ≡ a) ⊎ (lesser a b ≡ b)
lesser-is a b = elim (nat_lt a b) as (λ v. (cond v a b ≡ a) ⊎ (cond v a b ≡ b)) [ true ↦ inl refl | false ↦ inr refl ]

pub lightest-capped : (ws : List (ℕ × Choice)) → lightest ws ≤ NO_PLAN
lightest-capped [] = omega arith
lightest-capped (w ∷ ws) = omega (arith, lesser-right w.0 (lightest ws), lightest-capped ws)

longer : (b : Bool) (w : ℕ × Choice) (ws : List (ℕ × Choice)) → lightest (cond b (w ∷ ws) ws) ≤ lightest ws
longer true w ws = lesser-right w.0 (lightest ws)
longer false w ws = omega arith

no_lighter_rule : (kind : Kind) (bounds : List ℕ) (op : ℕ) (rules : List RuleCost) → All (λ r. leads_to kind op r ≡ true → lightest (ways_by_rule kind bounds op rules) ≤ weight_by bounds r) rules
no_lighter_rule kind bounds op [] = All-nil (λ r. leads_to kind op r ≡ true → lightest [] ≤ weight_by bounds r)
no_lighter_rule kind bounds op (rule ∷ rules) =
    All-cons (λ r. leads_to kind op r ≡ true → lightest (ways_by_rule kind bounds op (rule ∷ rules)) ≤ weight_by bounds r) rule rules
    (λ h. rw h (lesser-left (weight_by bounds rule) (lightest (ways_by_rule kind bounds op rules))))
    (All-weaker (λ r. leads_to kind op r ≡ true → lightest (ways_by_rule kind bounds op rules) ≤ weight_by bounds r) (λ r. leads_to kind op r ≡ true → lightest (ways_by_rule kind bounds op (rule ∷ rules)) ≤ weight_by bounds r)
    (λ r k h. omega (arith, k h, longer (leads_to kind op rule) (weight_by bounds rule, Rule rule.no) (ways_by_rule kind bounds op rules))) rules (no_lighter_rule kind bounds op rules))

-- a rule by which op weighs n
abbrev pub ByRule : Kind → List ℕ → ℕ → List RuleCost → ℕ → Type 0
ByRule kind bounds op rules n = (rule : RuleCost) × (Contains rules rule × (leads_to kind op rule ≡ true) × (weight_by bounds rule ≡ n))

later : (kind : Kind) (bounds : List ℕ) (op : ℕ) (rule : RuleCost) (rules : List RuleCost) (n : ℕ) → ByRule kind bounds op rules n → ByRule kind bounds op (rule ∷ rules) n
later kind bounds op rule rules n h = (h.0, (Contains-append_right (rule ∷ []) rules h.0 h.1.0, h.1.1, h.1.2))

-- the first rule is a way or isn't
first_rule : (kind : Kind) (bounds : List ℕ) (op : ℕ) (rule : RuleCost) (rules : List RuleCost) (b : Bool) → leads_to kind op rule ≡ b
    → (lightest (ways_by_rule kind bounds op rules) < NO_PLAN → ByRule kind bounds op rules (lightest (ways_by_rule kind bounds op rules)))
    → lightest (cond b ((weight_by bounds rule, Rule rule.no) ∷ ways_by_rule kind bounds op rules) (ways_by_rule kind bounds op rules)) < NO_PLAN
    → ByRule kind bounds op (rule ∷ rules) (lightest (cond b ((weight_by bounds rule, Rule rule.no) ∷ ways_by_rule kind bounds op rules) (ways_by_rule kind bounds op rules)))
first_rule kind bounds op rule rules false is more small = later kind bounds op rule rules (lightest (ways_by_rule kind bounds op rules)) (more small)
first_rule kind bounds op rule rules true is more small =
    let a = weight_by bounds rule in
    let b = lightest (ways_by_rule kind bounds op rules) in
    elim (lesser-is a b) [
      | inl e ↦ (rule, ((0, omega arith, refl), is, sym e))
      | inr e ↦ subst (ByRule kind bounds op (rule ∷ rules)) (sym e) (later kind bounds op rule rules b (more (omega (arith, small, e))))
    ]

pub lightest_rule : (kind : Kind) (bounds : List ℕ) (op : ℕ) (rules : List RuleCost) → lightest (ways_by_rule kind bounds op rules) < NO_PLAN → ByRule kind bounds op rules (lightest (ways_by_rule kind bounds op rules))
lightest_rule kind bounds op [] small = absurd (omega (arith, small))
lightest_rule kind bounds op (rule ∷ rules) small = first_rule kind bounds op rule rules (leads_to kind op rule) refl (lightest_rule kind bounds op rules) small

-- the primitive is the lightest way, or a rule is
first_way-is : (m : Means) (bounds : List ℕ) (op : ℕ) (w : Option ℕ) → slice_index_or m.weights op None ≡ w
    → lightest (first_way w (ways_by_rule m.kind bounds op m.rules)) < NO_PLAN
    → IsRegistered m op (lightest (first_way w (ways_by_rule m.kind bounds op m.rules))) ⊎ ByRule m.kind bounds op m.rules (lightest (first_way w (ways_by_rule m.kind bounds op m.rules)))
first_way-is m bounds op None is small = inr (lightest_rule m.kind bounds op m.rules small)
first_way-is m bounds op (Some n) is small =
    let b = lightest (ways_by_rule m.kind bounds op m.rules) in
    elim (lesser-is n b) [
      | inl e ↦ inl (subst (IsRegistered m op) (sym e) (record { is = is }))
      | inr e ↦ inr (subst (ByRule m.kind bounds op m.rules) (sym e) (lightest_rule m.kind bounds op m.rules (omega (arith, small, e))))
    ]

pub lightest_way : (m : Means) (bounds : List ℕ) (op : ℕ) → lightest (ways m bounds op) < NO_PLAN → IsRegistered m op (lightest (ways m bounds op)) ⊎ ByRule m.kind bounds op m.rules (lightest (ways m bounds op))
lightest_way m bounds op small = first_way-is m bounds op (slice_index_or m.weights op None) refl small

longer_first : (w : Option ℕ) (ws : List (ℕ × Choice)) → lightest (first_way w ws) ≤ lightest ws
longer_first None ws = omega arith
longer_first (Some n) ws = lesser-right n (lightest ws)

-- no way is lighter than the lightest
pub no_lighter_primitive : (m : Means) (bounds : List ℕ) (op n : ℕ) → IsRegistered m op n → lightest (ways m bounds op) ≤ n
no_lighter_primitive m bounds op n is = rw is.is (lesser-left n (lightest (ways_by_rule m.kind bounds op m.rules)))

not_both : (b : Bool) → (b && false) ≡ true → ⊥
not_both true h = cc (h)
not_both false h = cc (h)

self : (n : ℕ) → (nat_eq n n && true) ≡ true
self n = grind (arith, nat_tests)

two : (a b : ℕ) (c : Bool) → (nat_eq a b && c) ≡ true → (a ≡ b) × (c ≡ true)
two a b true h = (grind (arith, nat_tests, h), refl)
two a b false h = absurd (not_both (nat_eq a b) h)

allowed_leads : (kind : Kind) (rule : RuleCost) → is_allowed kind rule ≡ true → leads_to kind (head_of rule) rule ≡ true
allowed_leads kind rule ok = rw (ok) (self (head_of rule))

pub no_lighter_way : (m : Means) (bounds : List ℕ) (rule : RuleCost) → IsRule m rule → lightest (ways m bounds (head_of rule)) ≤ weight_by bounds rule
no_lighter_way m bounds rule is =
    let op = head_of rule in
    let k : lightest (ways_by_rule m.kind bounds op m.rules) ≤ weight_by bounds rule = All-contains (λ r. leads_to m.kind op r ≡ true → lightest (ways_by_rule m.kind bounds op m.rules) ≤ weight_by bounds r) m.rules rule (no_lighter_rule m.kind bounds op m.rules) is.listed (allowed_leads m.kind rule is.allowed) in
    omega (arith, k, longer_first (slice_index_or m.weights op None) (ways_by_rule m.kind bounds op m.rules))

pub leads-is : (kind : Kind) (op : ℕ) (rule : RuleCost) → leads_to kind op rule ≡ true → (head_of rule ≡ op) × (is_allowed kind rule ≡ true)
leads-is kind op rule h = two (head_of rule) op (is_allowed kind rule) h

above_lesser : (n m : ℕ) → m ≤ n → lesser n m ≡ m
above_lesser n m h = grind (arith, nat_tests, h)

-- with no primitive
pub none_lesser : (ws : List (ℕ × Choice)) → lesser NO_PLAN (lightest ws) ≡ lightest ws
none_lesser ws = above_lesser NO_PLAN (lightest ws) (lightest-capped ws)
