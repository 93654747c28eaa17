-- A rule that lowers a bound keeps the bounds real, and makes their sum less.
use Rattle.std.proofs.Common.{◌≡◌, ◌≢◌, ℕ, ◌+◌, ◌<◌, ◌≤◌, List, length, slice_index, refl, sym, subst, ap, arith, get_or-set_same, get_or-set_other, ◌⊎◌, inl, inr, Bool, true, false, cond, ◌&&◌, length-set, take}
use Rattle.std.specs.Prelude.{nat_lt, sum}
use Rattle.std.specs.List.{All, Contains, slice_index_or}
use Rattle.std.proofs.lemmas.List.Elements.{All-set, All-more}
use Rattle.std.proofs.lemmas.List.Sums.{sum_by-set}
use Rattle.std.proofs.lemmas.List.{get_or_default}
use Rattle.std.proofs.lemmas.Bool.Decides.{nat_tests}
use Rattle.cap_ops.specs.Derivations.{Means, IsRule, IsCost, is_allowed, head_of, weight_by}
use Rattle.cap_ops.proofs.DerivationsTrees.{rule_tree}
use Rattle.cap_ops.specs.declared.plans.RuleCost.{RuleCost}
use Rattle.cap_ops.specs.declared.plans.Kind.{Kind}
use Rattle.cap_ops.specs.declared.plans.TheConstants.{OPERATIONS, NO_PLAN}
use Rattle.cap_plan.specs.Rounds.{AreReal, AreStill, lowers, lowered}

-- what a walk over the first i rules does
pub record WalkedSoFar (kind : Kind) (rules : List RuleCost) (i : ℕ) (old new : List ℕ) (changed : Bool) : Type 0 where
  pub kept : (m : Means) → m.rules ≡ rules → m.kind ≡ kind → AreReal m old → AreReal m new
  pub less : changed ≡ true → sum new < sum old
  pub same : changed ≡ false → (new ≡ old) × AreStill kind (take i rules) old

same_or_not : (a b : ℕ) → (a ≡ b) ⊎ (a ≢ b)
same_or_not a b = elim (nat_lt a b) as (λ v. nat_lt a b ≡ v → (a ≡ b) ⊎ (a ≢ b)) [ true ↦ λ h. inr (grind (arith, nat_tests, h)) | false ↦ λ h. elim (nat_lt b a) as (λ v. nat_lt b a ≡ v → (a ≡ b) ⊎ (a ≢ b)) [ true ↦ λ k. inr (grind (arith, nat_tests, k)) | false ↦ λ k. inl (grind (arith, nat_tests, h, k)) ] refl ] refl

pub real_after : (m : Means) (bounds : List ℕ) (rule : RuleCost) → AreReal m bounds → IsRule m rule → length bounds ≡ OPERATIONS → head_of rule < OPERATIONS → length rule.calls ≡ OPERATIONS → weight_by bounds rule < slice_index bounds (head_of rule) → AreReal m (lowered bounds rule)
real_after m bounds rule are is long head calls less =
    let head' : head_of rule < length bounds = omega arith in
    let cap : slice_index bounds (head_of rule) ≤ NO_PLAN = are.capped (head_of rule) 0 head' in
    record {
      capped = All-set (λ b. b ≤ NO_PLAN) bounds (head_of rule) (weight_by bounds rule) (omega arith) are.capped;
      trees = λ op h small. elim (same_or_not op (head_of rule)) [
        | inl e ↦ rw e (rw (get_or-set_same bounds (head_of rule) (weight_by bounds rule) 0 head') (rule_tree m bounds NO_PLAN are.trees rule is (omega arith) (omega arith)))
        | inr n ↦ rw (get_or-set_other bounds (head_of rule) op (weight_by bounds rule) 0 n) (are.trees op (omega (arith, h, length-set {A = ℕ})) (rw get_or-set_other at small))
      ];
      primitives = λ op n h. elim (same_or_not op (head_of rule)) [
        | inl e ↦ rw e (rw get_or-set_same (omega (arith, are.primitives (head_of rule) n (rw e at h), less)))
        | inr d ↦ rw get_or-set_other (are.primitives op n h)
      ];
    }

pub sum_after : (bounds : List ℕ) (rule : RuleCost) → head_of rule < length bounds → weight_by bounds rule < slice_index bounds (head_of rule) → sum (lowered bounds rule) < sum bounds
sum_after bounds rule head less = omega (arith, sum_by-set (λ x. x) bounds (head_of rule) (weight_by bounds rule) 0 head)

both : (b : Bool) (x y : ℕ) → (b && nat_lt x y) ≡ true → (b ≡ true) × (x < y)
both true x y h = (refl, grind (arith, nat_tests, h))
both false x y h = absurd (cc (h))

neither : (b : Bool) (x y : ℕ) → b ≡ true → (b && nat_lt x y) ≡ false → y ≤ x
neither true x y ok h = grind (arith, nat_tests, h)
neither false x y ok h = absurd (cc (ok))

not_lower : (kind : Kind) (bounds : List ℕ) (rule : RuleCost) → is_allowed kind rule ≡ true → lowers kind bounds rule ≡ false → slice_index bounds (head_of rule) ≤ weight_by bounds rule
not_lower kind bounds rule ok h = neither (is_allowed kind rule) (weight_by bounds rule) (slice_index bounds (head_of rule)) ok h

-- what the tests of a rule say
lowers-true : (kind : Kind) (bounds : List ℕ) (rule : RuleCost) → lowers kind bounds rule ≡ true → (is_allowed kind rule ≡ true) × (weight_by bounds rule < slice_index bounds (head_of rule))
lowers-true kind bounds rule h = both (is_allowed kind rule) (weight_by bounds rule) (slice_index bounds (head_of rule)) h

-- one rule more, at the place i
pub walked_more : (kind : Kind) (rules : List RuleCost) (i : ℕ) (old bounds : List ℕ) (changed : Bool) (d : RuleCost) → i < length rules → length bounds ≡ OPERATIONS → All IsCost rules → WalkedSoFar kind rules i old bounds changed
    → (b : Bool) → lowers kind bounds (slice_index_or rules i d) ≡ b → WalkedSoFar kind rules (i + 1) old (cond b (lowered bounds (slice_index_or rules i d)) bounds) (cond b true changed)
walked_more kind rules i old bounds changed d inside long costs walked true h =
    let rule = slice_index_or rules i d in
    let t : (is_allowed kind rule ≡ true) × (weight_by bounds rule < slice_index bounds (head_of rule)) = lowers-true kind bounds rule h in
    let cost : IsCost rule = costs i d inside in
    let before : sum bounds ≤ sum old = elim changed as (λ v. WalkedSoFar kind rules i old bounds v → sum bounds ≤ sum old) [ true ↦ λ w. omega (arith, w.less refl) | false ↦ λ w. omega (arith, ap sum (w.same refl).0) ] walked in
    record {
      kept = λ m r k are. real_after m bounds rule (walked.kept m r k are) (record { listed = subst (λ rs. Contains rs rule) (sym r) (i, inside, get_or_default rules i rule d inside); allowed = rw k t.0 }) long (omega (arith, cost.head_from, cost.head_to)) cost.operations t.1;
      less = λ _. omega (arith, sum_after bounds rule (omega (arith, cost.head_from, cost.head_to)) t.1, before);
      same = λ e. absurd (cc (e));
    }
walked_more kind rules i old bounds changed d inside long costs walked false h =
    record {
      kept = walked.kept;
      less = walked.less;
      same = λ e. let w = walked.same e in (w.0, record { still = All-more (λ rule. is_allowed kind rule ≡ true → slice_index old (head_of rule) ≤ weight_by old rule) rules i d inside w.1.still (λ ok. not_lower kind old (slice_index_or rules i d) ok (rw (w.0) at h)) });
    }

-- the same, with the names of the code's values
pub walked_step : (kind : Kind) (rules : List RuleCost) (i : ℕ) (old bounds new : List ℕ) (changed after : Bool) (d : RuleCost) → i < length rules → length bounds ≡ OPERATIONS → All IsCost rules → WalkedSoFar kind rules i old bounds changed
    → (b : Bool) → b ≡ lowers kind bounds (slice_index_or rules i d) → new ≡ cond b (lowered bounds (slice_index_or rules i d)) bounds → after ≡ cond b true changed → WalkedSoFar kind rules (i + 1) old new after
walked_step kind rules i old bounds new changed after d inside long costs walked b h e k = rw (e, k) (walked_more kind rules i old bounds changed d inside long costs walked b (sym h))

pub capped_step : (kind : Kind) (bounds new : List ℕ) (rule : RuleCost) (b : Bool) → b ≡ lowers kind bounds rule → new ≡ cond b (lowered bounds rule) bounds → length bounds ≡ OPERATIONS → IsCost rule → All (λ x. x ≤ NO_PLAN) bounds → All (λ x. x ≤ NO_PLAN) new
capped_step kind bounds new rule true h e long cost capped =
    let t : (is_allowed kind rule ≡ true) × (weight_by bounds rule < slice_index bounds (head_of rule)) = lowers-true kind bounds rule (sym h) in
    let c : slice_index bounds (head_of rule) ≤ NO_PLAN = capped (head_of rule) 0 (omega (arith, cost.head_from, cost.head_to)) in
    rw e (All-set (λ x. x ≤ NO_PLAN) bounds (head_of rule) (weight_by bounds rule) (omega arith) capped)
capped_step kind bounds new rule false h e long cost capped = rw e capped
