-- In a plan a chosen rule weighs its operation's bound, so what it calls has smaller bounds.
use Rattle.std.proofs.Common.{◌≡◌, ℕ, zero, suc, ◌+◌, ◌-◌, ◌*◌, ◌<◌, ◌≤◌, Bool, true, false, List, [], ◌∷◌, length, refl, sym, ap, subst, ◌∙◌, arith, ◌⊎◌, inl, inr}
use Rattle.std.specs.Prelude.{◌==◌, if◌then◌else◌, nat_lt, Option, Some, None, map, slice_get, slice_index, IsSome}
use Rattle.std.specs.List.{All, slice_index_or, range_with_len}
use Rattle.std.proofs.lemmas.Bool.{eqb-true, eqb-false, eq-eqb, ltb-true, ltb-false}
use Rattle.std.proofs.lemmas.List.Elements.{All-head, All-tail}
use Rattle.std.proofs.lemmas.List.Sums.{sum_by-cons}
use Rattle.cap_names.specs.declared.identifiers.RuleNo.{RuleNo}
use Rattle.cap_names.specs.declared.identifiers.OpId.{OpId}
use Rattle.cap_ops.specs.Ends.{IsOperation}
use Rattle.cap_ops.specs.Primitives.{OfferData}
use Rattle.cap_ops.specs.Derivations.{Means, means, head_of, is_allowed, leads_to, charge, weight_by, ways, ways_by_rule, first_way, first_at, lightest, lesser, choice_for, IsCost, IsLeast, LineHolds}
use Rattle.cap_ops.specs.declared.plans.Kind.{Kind}
use Rattle.cap_ops.specs.declared.plans.RuleCost.{RuleCost}
use Rattle.cap_ops.specs.declared.plans.Choice.{Choice}
use Rattle.cap_ops.specs.declared.plans.Choice.TheVariants.{Prim, Missing}
use Rattle.cap_ops.specs.declared.plans.Choice.TheVariants.{Rule as ByRule}
use Rattle.cap_ops.specs.declared.plans.Plan.{Plan}
use Rattle.cap_ops.specs.declared.plans.TheConstants.{NO_PLAN, OPERATIONS}
use Rattle.cap_ops.proofs.DerivationsPlans.{plan_lines}
use Rattle.cap_ops.proofs.DerivationsWays.{lesser-is, leads-is}
use Rattle.cap_ops.proofs.Places.{none≢some, some_inner}
use Rattle.cap_terms.specs.declared.body.Rule.{Rule}
use Rattle.cap_terms.specs.declared.body.Var.{Var}
use Rattle.cap_terms.specs.declared.body.Step.{Step}
use Rattle.cap_terms.specs.declared.body.Step.TheVariants.{Call, Src, Tgt, Part, MinusOne, Exists, Both, When, Tuple}
use Rattle.cap_terms.specs.Rules.{is_call, occurrences, all_occurrences}
use Rattle.cap_terms.specs.Run.{nth_from_one}
use Rattle.cap_terms.specs.Typing.{Typed, StepTyped}
use Rattle.cap_run.specs.Plans.{choice, bound, costs_of, AreRules, StepBelow, StepsBelow, IsChosen, IsPlanOf, PlansAreTrue}

abbrev way : ℕ → Choice → ℕ × Choice
way n c = (n, c)

-- a way by a rule is one of the rules with this head
pub record ChosenRule (kind : Kind) (bounds : List ℕ) (op n : ℕ) (rules : List RuleCost) (rule_no : RuleNo) : Type 0 where
  pub place : ℕ
  pub rule : RuleCost
  pub listed : slice_get rules place ≡ Some rule
  pub number : rule.no ≡ rule_no
  pub leads : leads_to kind op rule ≡ true
  pub weighs : weight_by bounds rule ≡ n

missing≢rule : {rule_no : RuleNo} → Missing ≡ ByRule rule_no → ⊥
missing≢rule e = cc

missing≢prim : Missing ≡ Prim → ⊥
missing≢prim e = cc

prim≢rule : {rule_no : RuleNo} → Prim ≡ ByRule rule_no → ⊥
prim≢rule e = cc

rule-inner : {a b : RuleNo} → ByRule a ≡ ByRule b → a ≡ b
rule-inner e = cc

module _ (kind : Kind) (bounds : List ℕ) (op n : ℕ) where
  more : (rule : RuleCost) (rules : List RuleCost) (rule_no : RuleNo) → ChosenRule kind bounds op n rules rule_no → ChosenRule kind bounds op n (rule ∷ rules) rule_no
  more rule rules rule_no c = record { place = suc c.place; rule = c.rule; listed = c.listed; number = c.number; leads = c.leads; weighs = c.weighs }

  rule-chosen : (rules : List RuleCost) (rule_no : RuleNo) → first_at n (ways_by_rule kind bounds op rules) ≡ ByRule rule_no → ChosenRule kind bounds op n rules rule_no
  rule-chosen [] rule_no e = absurd (missing≢rule e)
  rule-chosen (rule ∷ rules) rule_no e = go (leads_to kind op rule) refl e (λ k. rule-chosen rules rule_no k)
    where
      go : (b : Bool) → leads_to kind op rule ≡ b → first_at n (if b then way (weight_by bounds rule) (ByRule rule.no) ∷ ways_by_rule kind bounds op rules else ways_by_rule kind bounds op rules) ≡ ByRule rule_no
          → (first_at n (ways_by_rule kind bounds op rules) ≡ ByRule rule_no → ChosenRule kind bounds op n rules rule_no) → ChosenRule kind bounds op n (rule ∷ rules) rule_no
      go false leads h rest = more rule rules rule_no (rest h)
      go true leads h rest = next (weight_by bounds rule == n) refl h
        where
          next : (b : Bool) → (weight_by bounds rule == n) ≡ b → (if b then ByRule rule.no else first_at n (ways_by_rule kind bounds op rules)) ≡ ByRule rule_no → ChosenRule kind bounds op n (rule ∷ rules) rule_no
          next true same k = record { place = 0; rule = rule; listed = refl; number = rule-inner k; leads = leads; weighs = eqb-true (weight_by bounds rule) n same }
          next false other k = more rule rules rule_no (rest k)

  not-prim : (rules : List RuleCost) → first_at n (ways_by_rule kind bounds op rules) ≡ Prim → ⊥
  not-prim [] e = missing≢prim e
  not-prim (rule ∷ rules) e = go (leads_to kind op rule) e (λ k. not-prim rules k)
    where
      go : (b : Bool) → first_at n (if b then way (weight_by bounds rule) (ByRule rule.no) ∷ ways_by_rule kind bounds op rules else ways_by_rule kind bounds op rules) ≡ Prim → (first_at n (ways_by_rule kind bounds op rules) ≡ Prim → ⊥) → ⊥
      go false h rest = rest h
      go true h rest = next (weight_by bounds rule == n) h
        where
          next : (b : Bool) → (if b then ByRule rule.no else first_at n (ways_by_rule kind bounds op rules)) ≡ Prim → ⊥
          next true k = prim≢rule (sym k)
          next false k = rest k

  way-chosen : (w : Option ℕ) (rules : List RuleCost) (rule_no : RuleNo) → first_at n (first_way w (ways_by_rule kind bounds op rules)) ≡ ByRule rule_no → ChosenRule kind bounds op n rules rule_no
  way-chosen None rules rule_no e = rule-chosen rules rule_no e
  way-chosen (Some weight) rules rule_no e = go (weight == n) e
    where
      go : (b : Bool) → (if b then Prim else first_at n (ways_by_rule kind bounds op rules)) ≡ ByRule rule_no → ChosenRule kind bounds op n rules rule_no
      go true k = absurd (prim≢rule k)
      go false k = rule-chosen rules rule_no k

  way-prim : (w : Option ℕ) (rules : List RuleCost) → first_at n (first_way w (ways_by_rule kind bounds op rules)) ≡ Prim → (weight : ℕ) × (w ≡ Some weight)
  way-prim None rules e = absurd (not-prim rules e)
  way-prim (Some weight) rules e = (weight, refl)

-- a list of ways that are no gaps
abbrev NoGaps : List (ℕ × Choice) → Type 0
NoGaps [] = Unit {0}
NoGaps (w ∷ ws) = (w.1 ≡ Missing → ⊥) × NoGaps ws

no-gaps : (kind : Kind) (bounds : List ℕ) (op : ℕ) (rules : List RuleCost) → NoGaps (ways_by_rule kind bounds op rules)
no-gaps kind bounds op [] = tt
no-gaps kind bounds op (rule ∷ rules) = go (leads_to kind op rule) (no-gaps kind bounds op rules)
  where
    go : (b : Bool) → NoGaps (ways_by_rule kind bounds op rules) → NoGaps (if b then way (weight_by bounds rule) (ByRule rule.no) ∷ ways_by_rule kind bounds op rules else ways_by_rule kind bounds op rules)
    go true h = ((λ e. missing≢rule (sym e)), h)
    go false h = h

no-gaps-first : (w : Option ℕ) (ws : List (ℕ × Choice)) → NoGaps ws → NoGaps (first_way w ws)
no-gaps-first None ws h = h
no-gaps-first (Some n) ws h = ((λ e. missing≢prim (sym e)), h)

-- the lightest way is found
lightest-found : (ws : List (ℕ × Choice)) → NoGaps ws → lightest ws < NO_PLAN → first_at (lightest ws) ws ≡ Missing → ⊥
lightest-found [] none small e = absurd (omega arith)
lightest-found (w ∷ ws) none small e = go (w.0 == lesser w.0 (lightest ws)) refl e (lesser-is w.0 (lightest ws)) (λ s k. lightest-found ws none.1 s k)
  where
    go : (b : Bool) → (w.0 == lesser w.0 (lightest ws)) ≡ b → (if b then w.1 else first_at (lesser w.0 (lightest ws)) ws) ≡ Missing → (lesser w.0 (lightest ws) ≡ w.0) ⊎ (lesser w.0 (lightest ws) ≡ lightest ws) → (lightest ws < NO_PLAN → first_at (lightest ws) ws ≡ Missing → ⊥) → ⊥
    go true same k either rest = none.0 k
    go false other k (inl is) rest = eqb-false w.0 (lesser w.0 (lightest ws)) other (sym is)
    go false other k (inr is) rest = rest (subst (λ x. x < NO_PLAN) is small) (subst (λ x. first_at x ws ≡ Missing) is k)

times : (k b : ℕ) → 1 ≤ k → b ≤ k * b
times zero b o = absurd (omega arith)
times (suc k) b o = grind arith

-- a counted operation is charged
charged : (f : ℕ → ℕ) (n from : ℕ) (bounds : List ℕ) (i : ℕ) → i < n → n ≤ length bounds → 1 ≤ f (from + i) → slice_index bounds i ≤ charge (map f (range_with_len from n)) bounds
charged f zero from bounds i inside long often = absurd (omega arith)
charged f (suc n) from [] i inside long often = absurd (omega arith)
charged f (suc n) from (b ∷ bounds) zero inside long often =
    let e : from + 0 ≡ from = omega arith in
    let least = times (f from) b (subst (λ x. 1 ≤ f x) e often) in
    omega (arith, least)
charged f (suc n) from (b ∷ bounds) (suc i) inside long often =
    let e : from + suc i ≡ (from + 1) + i = omega arith in
    let h = charged f n (from + 1) bounds i (omega arith) (omega arith) (subst (λ x. 1 ≤ f x) e often) in
    omega (arith, h)

All-at : {X : Type 0} (P : X → Type 0) (xs : List X) → All P xs → (i : ℕ) (x : X) → slice_get xs i ≡ Some x → P x
All-at P [] all i x e = absurd (none≢some e)
All-at P (y ∷ xs) all zero x e = subst P (some_inner e) (All-head P y xs all)
All-at P (y ∷ xs) all (suc i) x e = All-at P xs (All-tail P y xs all) i x e

-- the operations that steps call are operations
abbrev pub CallsOperation : Step → Type 0
CallsOperation (Call op xs) = IsOperation op.0
CallsOperation _ = Unit {0}

abbrev pub CallOperations : List Step → Type 0
CallOperations [] = Unit {0}
CallOperations (s ∷ ss) = CallsOperation s × CallOperations ss

all-operations : (steps : List Step) → ((k : ℕ) (s : Step) → slice_get steps k ≡ Some s → CallsOperation s) → CallOperations steps
all-operations [] f = tt
all-operations (s ∷ ss) f = (f 0 s refl, all-operations ss (λ k t e. f (suc k) t e))

pub typed-operations : (r : Rule) → Typed r.cost.head.0 r.body → CallOperations r.body.steps
typed-operations r typed = all-operations r.body.steps (λ k s e. go k s (typed.steps.each k s e))
  where
    go : (k : ℕ) (s : Step) → StepTyped typed.types (r.body.params + k) k s (typed.types (r.body.params + k)) → CallsOperation s
    go k (Call op xs) h = h.1.operation
    go k (Src x) h = tt
    go k (Tgt x) h = tt
    go k (Part x n) h = tt
    go k MinusOne h = tt
    go k (Exists x) h = tt
    go k (Both x y) h = tt
    go k (When x y) h = tt
    go k (Tuple xs) h = tt

abbrev counts : ℕ → Step → ℕ
counts op s = if is_call op s then 1 else 0

count-here : (op : OpId) (xs : List Var) (ss : List Step) → 1 ≤ occurrences op.0 (Call op xs ∷ ss)
count-here op xs ss =
    let e = sum_by-cons (counts op.0) (Call op xs) ss in
    let one : counts op.0 (Call op xs) ≡ 1 = ap (λ b. if b then 1 else 0) (eq-eqb op.0 op.0 refl) in
    omega (arith, e, one)

count-later : (op : ℕ) (s : Step) (ss : List Step) → occurrences op ss ≤ occurrences op (s ∷ ss)
count-later op s ss = let e = sum_by-cons (counts op) s ss in omega (arith, e)

steps-below : (p : Plan) (b : ℕ) (ss : List Step) → CallOperations ss → ((op : ℕ) → IsOperation op → 1 ≤ occurrences op ss → bound p op < b) → StepsBelow p b ss
steps-below p b [] ops f = tt
steps-below p b (s ∷ ss) ops f = (here s ops.0 (λ op is often. f op is often), steps-below p b ss ops.1 (λ op is often. let l = count-later op s ss in f op is (omega (arith, often, l))))
  where
    here : (s : Step) → CallsOperation s → ((op : ℕ) → IsOperation op → 1 ≤ occurrences op (s ∷ ss) → bound p op < b) → StepBelow p b s
    here (Call op xs) is g = g op.0 is (count-here op xs ss)
    here (Src x) is g = tt
    here (Tgt x) is g = tt
    here (Part x n) is g = tt
    here MinusOne is g = tt
    here (Exists x) is g = tt
    here (Both x y) is g = tt
    here (When x y) is g = tt
    here (Tuple xs) is g = tt

module _ {O M : Type 0} (D : OfferData O M) (rules : List Rule) (p : Plan) (are : AreRules rules) (plan : IsPlanOf D rules p) where
  m : Means
  m = means plan.regs (costs_of rules) D.kind

  inside : (op : ℕ) → IsOperation op → op - 1 < OPERATIONS
  inside op is = let a = is.0 in let b = is.1 in omega (arith, a, b)

  the-choice : (op : ℕ) → IsOperation op → choice p op ≡ choice_for m p.bounds (op - 1)
  unfolding m
  the-choice op is = plan.is_plan.choices (op - 1) (inside op is)

  least : (op : ℕ) → IsOperation op → IsLeast m (op - 1) (bound p op)
  unfolding m
  least op is = plan.is_plan.bounds (op - 1) (inside op is)

  by-first : (op : ℕ) → IsOperation op → (c : Choice) → (c ≡ Missing → ⊥) → choice p op ≡ c → first_at (bound p op) (ways m p.bounds (op - 1)) ≡ c
  unfolding m
  by-first op is c some e = go (nat_lt (bound p op) NO_PLAN) (sym (the-choice op is) ∙ e)
    where
      go : (b : Bool) → (if b then first_at (bound p op) (ways m p.bounds (op - 1)) else Missing) ≡ c → first_at (bound p op) (ways m p.bounds (op - 1)) ≡ c
      go true h = h
      go false h = absurd (some (sym h))

  is-offered : (op : ℕ) → IsOperation op → choice p op ≡ Prim → IsSome (D.weight op)
  unfolding m
  is-offered op is e =
      let w = way-prim D.kind p.bounds (op - 1) (bound p op) (slice_index_or m.weights (op - 1) None) (costs_of rules) (by-first op is Prim (λ k. missing≢prim (sym k)) e) in
      let a = is.0 in
      let k : (op - 1) + 1 ≡ op = omega (arith, a) in
      subst (λ n. IsSome (D.weight n)) k (plan.offered (op - 1) w.0 w.1)

  not-missing : (op : ℕ) → IsOperation op → choice p op ≡ Missing → bound p op ≡ NO_PLAN
  unfolding m
  not-missing op is e = go (nat_lt (bound p op) NO_PLAN) refl (sym (the-choice op is) ∙ e)
    where
      line : LineHolds m p (op - 1)
      line = plan_lines m p are.costs plan.is_plan (op - 1) (inside op is)

      go : (b : Bool) → nat_lt (bound p op) NO_PLAN ≡ b → (if b then first_at (bound p op) (ways m p.bounds (op - 1)) else Missing) ≡ Missing → bound p op ≡ NO_PLAN
      go false big h = let c = (least op is).capped in let f = ltb-false (bound p op) NO_PLAN big in omega (arith, c, f)
      go true small h =
          let e : bound p op ≡ lightest (ways m p.bounds (op - 1)) = line.bound in
          let s = ltb-true (bound p op) NO_PLAN small in
          absurd (lightest-found (ways m p.bounds (op - 1)) (no-gaps-first (slice_index_or m.weights (op - 1) None) (ways_by_rule D.kind p.bounds (op - 1) (costs_of rules)) (no-gaps D.kind p.bounds (op - 1) (costs_of rules)))
          (subst (λ x. x < NO_PLAN) e s) (subst (λ x. first_at x (ways m p.bounds (op - 1)) ≡ Missing) e h))

  -- the rule with the cost
  rule-there : (rs : List Rule) (i : ℕ) (c : RuleCost) → slice_get (costs_of rs) i ≡ Some c → (r : Rule) × (slice_get rs i ≡ Some r) × (r.cost ≡ c)
  rule-there [] i c e = absurd (none≢some e)
  rule-there (r ∷ rs) zero c e = (r, refl, some_inner e)
  rule-there (r ∷ rs) (suc i) c e = rule-there rs i c e

  is-rule : (op : ℕ) → IsOperation op → (rule_no : RuleNo) → choice p op ≡ ByRule rule_no → (r : Rule) × IsChosen rules D.kind p op rule_no r
  unfolding m
  is-rule op is rule_no e =
      let c = way-chosen D.kind p.bounds (op - 1) (bound p op) (slice_index_or m.weights (op - 1) None) (costs_of rules) rule_no (by-first op is (ByRule rule_no) (λ k. missing≢rule (sym k)) e) in
      let t = rule-there rules c.place c.rule c.listed in
      let r = t.0 in
      let typed = All-at (λ r. Typed r.cost.head.0 r.body) rules are.typed c.place r t.1 in
      let counted = All-at (λ r. r.cost.calls ≡ all_occurrences r.body.steps) rules are.counted c.place r t.1 in
      let cost = All-at IsCost (costs_of rules) are.costs c.place c.rule c.listed in
      let leads = leads-is D.kind (op - 1) c.rule c.leads in
      let number : rule_no.0 ≡ suc c.place = ap (λ n. n.0) (sym c.number) ∙ (ap (λ x. x.no.0) (sym t.2) ∙ (are.numbered c.place r t.1 ∙ omega arith)) in
      let head_from = typed.parameters.operation.0 in
      let low = is.0 in
      let h0 : r.cost.head.0 - 1 ≡ op - 1 = ap head_of t.2 ∙ leads.0 in
      let head : r.cost.head.0 ≡ op = omega (arith, h0, head_from, low) in (
        r,
        record {
          listed = ap (nth_from_one rules) number ∙ t.1;
          head = head;
          allowed = ap (is_allowed D.kind) t.2 ∙ leads.1;
          below = steps-below p (bound p op) r.body.steps (typed-operations r typed) (λ o io often.
              let a = io.0 in
              let b = io.1 in
              let k : 1 + (o - 1) ≡ o = omega (arith, a) in
              let long = plan.is_plan.all_bounds in
              let ch = charged (λ x. occurrences x r.body.steps) 44 1 p.bounds (o - 1) (omega (arith, a, b)) (omega (arith, long)) (subst (λ x. 1 ≤ occurrences x r.body.steps) (sym k) often) in
              let calls : c.rule.calls ≡ all_occurrences r.body.steps = ap (λ x. x.calls) (sym t.2) ∙ counted in
              let ch2 : bound p o ≤ charge c.rule.calls p.bounds = subst (λ cs. bound p o ≤ charge cs p.bounds) (sym calls) ch in
              let w = c.weighs in
              let own = cost.own_from in
              omega (arith, ch2, w, own));
        },
      )

pub plans-are-true : {O M : Type 0} (D : OfferData O M) → PlansAreTrue D
plans-are-true D = record {
  law = λ rules p are plan. record {
    capped = λ op is. (least D rules p are plan op is).capped;
    offered = is-offered D rules p are plan;
    rule = is-rule D rules p are plan;
    missing = not-missing D rules p are plan;
  };
}
