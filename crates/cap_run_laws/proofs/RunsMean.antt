-- By a true plan of sound rules, a run's value has the operation's meaning.
use Rattle.std.proofs.Common.{◌≡◌, ℕ, zero, suc, ◌-◌, ◌<◌, ◌⊎◌, inl, inr, true, List, [], ◌∷◌, length, refl, sym, ap, subst, ◌∙◌, arith}
use Rattle.cap_ops.proofs.DerivationsBounds.{lt_or_le}
use Rattle.std.specs.Prelude.{Some, slice_get}
use Rattle.std.specs.List.{All}
use Rattle.cap_ops.specs.Ends.{IsOperation}
use Rattle.cap_ops.specs.Values.{Setting}
use Rattle.cap_ops.specs.Arrows.{Between, ValueOver, over}
use Rattle.cap_ops.specs.Told.{HasPlainEnds}
use Rattle.cap_ops.specs.Primitives.{OfferData, prime_of, PrimsMean}
use Rattle.cap_ops.specs.Meaning.{Meaning, MeansBy, Line, answers, a_truth, lines, line_at, setting_of}
use Rattle.cap_ops.specs.Derivations.{is_allowed}
use Rattle.cap_ops.specs.declared.plans.Choice.{Choice}
use Rattle.cap_ops.specs.declared.plans.Choice.TheVariants.{Prim, Missing}
use Rattle.cap_ops.specs.declared.plans.Choice.TheVariants.{Rule as ByRule}
use Rattle.cap_ops.specs.declared.plans.Plan.{Plan}
use Rattle.cap_names.specs.declared.identifiers.RuleNo.{RuleNo}
use Rattle.cap_ops.proofs.Places.{none≢some, some_inner}
use Rattle.cap_terms.specs.declared.body.Rule.{Rule}
use Rattle.cap_terms.specs.Run.{done, Calls, BodyGives, nth_from_one}
use Rattle.cap_rule_laws.specs.Soundness.{Sound}
use Rattle.cap_rule_laws.proofs.SoundRuns.{body-means}
use Rattle.cap_run.specs.Plans.{choice, bound, rule_at, AreRules, IsChosen, IsTruePlan}
use Rattle.cap_run.specs.Runs.{RuleGives, ChoiceGives, RunWithin}
use Rattle.std.proofs.lemmas.List.Elements.{All-head, All-tail}
use Rattle.cap_run_laws.specs.Meant.{AllAllowedSound, RunMeans}

All-at : {X : Type 0} (P : X → Type 0) (xs : List X) → All P xs → (i : ℕ) (x : X) → slice_get xs i ≡ Some x → P x
All-at P [] all i x e = absurd (none≢some e)
All-at P (y ∷ xs) all zero x e = subst P (some_inner e) (All-head P y xs all)
All-at P (y ∷ xs) all (suc i) x e = All-at P xs (All-tail P y xs all) i x e

nth-there : {X : Type 0} (xs : List X) (n : ℕ) (x : X) → nth_from_one xs n ≡ Some x → slice_get xs (n - 1) ≡ Some x
nth-there xs zero x e = absurd (none≢some e)
nth-there xs (suc n) x e = let k : suc n - 1 ≡ n = omega arith in ap (slice_get xs) k ∙ e

-- what calls give that are given only on operations has its meaning there
module _ {O M : Type 0} (D : OfferData O M) (plain : HasPlainEnds D.category) (prims : PrimsMean D) (rules : List Rule) (p : Plan) (are : AreRules rules) (sound : AllAllowedSound D rules) (true_plan : IsTruePlan D rules p) where
  settings-are-one : setting_of D.category ≡ over (prime_of D)
  settings-are-one = ap (λ s. from s D.category.target) plain.source ∙ ap (λ t. from (λ f. f.src) t) plain.target
    where
      from : (Between O M → O) → (Between O M → O) → Setting O (Between O M)
      from s t = record { source = s; target = t; minus_one = D.category.prime - 1 }

  at-data : (R : Calls O (Between O M)) (r : Rule) (args : List (ValueOver O M)) (v : ValueOver O M) → BodyGives (over (prime_of D)) R r.body args (done v) → BodyGives (setting_of D.category) R r.body args (done v)
  at-data R r args v h = subst (λ S. BodyGives S R r.body args (done v)) (sym settings-are-one) h

  -- nothing is claimed of what is no operation
  no-line : (ls : List (Line O (Between O M))) (n : ℕ) → length ls < n → line_at ls n ≡ answers ⊥ (λ e. a_truth ⊥)
  no-line [] n long = refl
  no-line (l ∷ ls) zero long = absurd (omega arith)
  no-line (l ∷ ls) (suc zero) long = absurd (omega arith)
  no-line (l ∷ ls) (suc (suc n)) long = no-line ls (suc n) (omega arith)

  says-nothing : (args : List (ValueOver O M)) (v : ValueOver O M) → MeansBy (answers ⊥ (λ e. a_truth ⊥)) args v
  says-nothing [] v = λ e. absurd e
  says-nothing (a ∷ args) v = tt

  no-claim : (op : ℕ) → (op < 1) ⊎ (44 < op) → (args : List (ValueOver O M)) (v : ValueOver O M) → Meaning D.category op args v
  no-claim zero out args v = says-nothing args v
  no-claim (suc n) (inl low) args v = absurd (omega arith)
  no-claim (suc n) (inr high) args v = subst (λ l. MeansBy l args v) (sym (no-line (lines D.category) (suc n) (omega (arith, high)))) (says-nothing args v)

  rule-means : (R : Calls O (Between O M)) → ((op : ℕ) (args : List (ValueOver O M)) (v : ValueOver O M) → R op args (done v) → Meaning D.category op args v) → (op : ℕ) (k : RuleNo) (r : Rule) → IsChosen rules D.kind p op k r → (args : List (ValueOver O M)) (v : ValueOver O M) → RuleGives D R (rule_at rules k) args (done v) → Meaning D.category op args v
  rule-means R right op k r c args v h =
      let body : BodyGives (over (prime_of D)) R r.body args (done v) = subst (λ o. RuleGives D R o args (done v)) c.listed h in
      let computes : Sound D.category r = All-at (λ r. is_allowed D.kind r.cost ≡ true → Sound D.category r) rules sound (k.0 - 1) r (nth-there rules k.0 r c.listed) c.allowed in
      subst (λ o. Meaning D.category o args v) c.head (body-means D.category R right r.cost.head.0 r.body computes args v (at-data R r args v body))

  choice-means : (R : Calls O (Between O M)) → ((op : ℕ) (args : List (ValueOver O M)) (v : ValueOver O M) → R op args (done v) → Meaning D.category op args v) → (op : ℕ) → IsOperation op → (c : Choice) → choice p op ≡ c → (args : List (ValueOver O M)) (v : ValueOver O M) → ChoiceGives D rules R c op args (done v) → Meaning D.category op args v
  choice-means R right op is Prim e args v h = prims.means op args v h.0
  choice-means R right op is (ByRule k) e args v h = let t = true_plan.rule op is k e in rule-means R right op k t.0 t.1 args v h
  choice-means R right op is Missing e args v h = absurd h

  means-within : (n op : ℕ) (args : List (ValueOver O M)) (v : ValueOver O M) → RunWithin D rules p n op args (done v) → Meaning D.category op args v
  means-within zero op args v h = absurd h
  means-within (suc n) op args v h = elim (lt_or_le op 1) [
    | inl low ↦ no-claim op (inl low) args v
    | inr from ↦ elim (lt_or_le 44 op) [
      | inl high ↦ no-claim op (inr high) args v
      | inr to ↦ choice-means (RunWithin D rules p n) (means-within n) op (from, to) (choice p op) refl args v h
    ]
  ]

pub run-means : {O M : Type 0} (D : OfferData O M) → HasPlainEnds D.category → PrimsMean D → RunMeans D
run-means D plain prims = record { means = λ rules p are sound true_plan op is args v h. means-within D plain prims rules p are sound true_plan (suc (bound p op)) op args v h }
