-- Where calls give one value, or a size past the limits, never both, so do steps, bodies and plain evaluation.
use Rattle.std.proofs.Common.{◌≡◌, ℕ, zero, suc, Bool, true, false, List, [], ◌∷◌, ◌++◌, sym, subst, ◌∙◌}
use Rattle.std.specs.Prelude.{MatchBool, Option, Some, None}
use Rattle.cap_ops.specs.Values.{Value, none, Setting}
use Rattle.cap_ops.specs.Arrows.{Between, ValueOver, over}
use Rattle.cap_ops.specs.Primitives.{OfferData, prime_of, HasOneOutcome}
use Rattle.cap_ops.specs.declared.plans.Choice.{Choice}
use Rattle.cap_ops.specs.declared.plans.Choice.TheVariants.{Prim, Missing}
use Rattle.cap_ops.specs.declared.plans.Choice.TheVariants.{Rule as ByRule}
use Rattle.cap_ops.specs.declared.plans.Plan.{Plan}
use Rattle.cap_terms.specs.declared.body.Var.{Var}
use Rattle.cap_terms.specs.declared.body.Step.{Step}
use Rattle.cap_terms.specs.declared.body.Step.TheVariants.{Call, Src, Tgt, Part, MinusOne, Exists, Both, When, Tuple}
use Rattle.cap_terms.specs.declared.body.Rule.{Rule}
use Rattle.cap_terms.specs.Run.{Outcome, done, large, Calls, all_at, has_none, StepGives, After, StepsGive}
use Rattle.cap_run.specs.Plans.{choice, bound, rule_at}
use Rattle.cap_run.specs.Runs.{RuleGives, ChoiceGives, RunWithin}
use Rattle.cap_run.specs.One.{RunIsOne}

module _ {Obj Mor : Type 0} where
  done-inner : {v w : Value Obj Mor} → done v ≡ done w → v ≡ w
  done-inner e = cc

  large≢done : {v : Value Obj Mor} {r c : ℕ} → large r c ≡ done v → ⊥
  large≢done e = cc

  both-done : (u v w : Value Obj Mor) → done v ≡ done u → done w ≡ done u → v ≡ w
  both-done u v w e f = done-inner (e ∙ sym f)

-- calls give one value, or a size past the limits, never both
record IsOne {Obj Mor : Type 0} (R : Calls Obj Mor) : Type 0 where
  one : (op : ℕ) (args : List (Value Obj Mor)) (v w : Value Obj Mor) → R op args (done v) → R op args (done w) → v ≡ w
  never_both : (op : ℕ) (args : List (Value Obj Mor)) (v : Value Obj Mor) (r c : ℕ) → R op args (done v) → R op args (large r c) → ⊥

module _ {Obj Mor : Type 0} (S : Setting Obj Mor) (R : Calls Obj Mor) (is : IsOne R) where
  abbrev too-large : ℕ → ℕ → Outcome Obj Mor
  too-large r c = large r c

  call-one : (b : Bool) (op : ℕ) (args : List (Value Obj Mor)) (v w : Value Obj Mor) → MatchBool b (done v ≡ done none) (R op args (done v)) → MatchBool b (done w ≡ done none) (R op args (done w)) → v ≡ w
  call-one true op args v w h k = both-done none v w h k
  call-one false op args v w h k = is.one op args v w h k

  call-either : (b : Bool) (op : ℕ) (args : List (Value Obj Mor)) (v : Value Obj Mor) (r c : ℕ) → MatchBool b (done v ≡ done none) (R op args (done v)) → MatchBool b (too-large r c ≡ done none) (R op args (too-large r c)) → ⊥
  call-either true op args v r c h k = large≢done k
  call-either false op args v r c h k = is.never_both op args v r c h k

  step-one : (s : Step) (vs : List (Value Obj Mor)) (v w : Value Obj Mor) → StepGives S R s vs (done v) → StepGives S R s vs (done w) → v ≡ w
  step-one (Call op xs) vs v w h k = call-one (has_none (all_at vs xs)) op.0 (all_at vs xs) v w h k
  step-one (Src x) vs v w h k = done-inner (h ∙ sym k)
  step-one (Tgt x) vs v w h k = done-inner (h ∙ sym k)
  step-one (Part x n) vs v w h k = done-inner (h ∙ sym k)
  step-one MinusOne vs v w h k = done-inner (h ∙ sym k)
  step-one (Exists x) vs v w h k = done-inner (h ∙ sym k)
  step-one (Both x y) vs v w h k = done-inner (h ∙ sym k)
  step-one (When x y) vs v w h k = done-inner (h ∙ sym k)
  step-one (Tuple xs) vs v w h k = done-inner (h ∙ sym k)

  step-either : (s : Step) (vs : List (Value Obj Mor)) (v : Value Obj Mor) (r c : ℕ) → StepGives S R s vs (done v) → StepGives S R s vs (large r c) → ⊥
  step-either (Call op xs) vs v r c h k = call-either (has_none (all_at vs xs)) op.0 (all_at vs xs) v r c h k
  step-either (Src x) vs v r c h k = large≢done k
  step-either (Tgt x) vs v r c h k = large≢done k
  step-either (Part x n) vs v r c h k = large≢done k
  step-either MinusOne vs v r c h k = large≢done k
  step-either (Exists x) vs v r c h k = large≢done k
  step-either (Both x y) vs v r c h k = large≢done k
  step-either (When x y) vs v r c h k = large≢done k
  step-either (Tuple xs) vs v r c h k = large≢done k

  -- the answer of a step that is done is that of any other run of it
  same-answer : (s : Step) (vs : List (Value Obj Mor)) (K : Value Obj Mor → Type 0) (a b : Value Obj Mor) → StepGives S R s vs (done a) → StepGives S R s vs (done b) → K b → K a
  same-answer s vs K a b h k = subst K (step-one s vs b a k h)

  steps-one : (ss : List Step) (vs : List (Value Obj Mor)) (x : Var) (v w : Value Obj Mor) → StepsGive S R ss vs x (done v) → StepsGive S R ss vs x (done w) → v ≡ w
  steps-one [] vs x v w h k = done-inner (h ∙ sym k)
  steps-one (s ∷ ss) vs x v w (done a, g, h) (done b, f, k) = steps-one ss (vs ++ a ∷ []) x v w h (same-answer s vs (λ u. StepsGive S R ss (vs ++ u ∷ []) x (done w)) a b g f k)
  steps-one (s ∷ ss) vs x v w (done a, g, h) (large r c, f, k) = absurd (large≢done (sym k))
  steps-one (s ∷ ss) vs x v w (large r c, g, h) k = absurd (large≢done (sym h))

  steps-either : (ss : List Step) (vs : List (Value Obj Mor)) (x : Var) (v : Value Obj Mor) (r c : ℕ) → StepsGive S R ss vs x (done v) → StepsGive S R ss vs x (large r c) → ⊥
  steps-either [] vs x v r c h k = large≢done k
  steps-either (s ∷ ss) vs x v r c (done a, g, h) (done b, f, k) = steps-either ss (vs ++ a ∷ []) x v r c h (same-answer s vs (λ u. StepsGive S R ss (vs ++ u ∷ []) x (large r c)) a b g f k)
  steps-either (s ∷ ss) vs x v r c (done a, g, h) (large i j, f, k) = step-either s vs a i j g f
  steps-either (s ∷ ss) vs x v r c (large i j, g, h) k = large≢done (sym h)

module _ {O M : Type 0} (D : OfferData O M) (outcome : HasOneOutcome D) (rules : List Rule) (p : Plan) where
  rule-one : (R : Calls O (Between O M)) → IsOne R → (r : Option Rule) (args : List (ValueOver O M)) (v w : ValueOver O M) → RuleGives D R r args (done v) → RuleGives D R r args (done w) → v ≡ w
  rule-one R is None args v w h k = absurd h
  rule-one R is (Some r) args v w h k = steps-one (over (prime_of D)) R is r.body.steps args r.body.answer v w h k

  rule-either : (R : Calls O (Between O M)) → IsOne R → (r : Option Rule) (args : List (ValueOver O M)) (v : ValueOver O M) (rows columns : ℕ) → RuleGives D R r args (done v) → RuleGives D R r args (large rows columns) → ⊥
  rule-either R is None args v rows columns h k = h
  rule-either R is (Some r) args v rows columns h k = steps-either (over (prime_of D)) R is r.body.steps args r.body.answer v rows columns h k

  choice-one : (R : Calls O (Between O M)) → IsOne R → (c : Choice) → IsOne (ChoiceGives D rules R c)
  choice-one R is Prim = record { one = λ op args v w h k. outcome.one op args v w h.0 k.0; never_both = λ op args v rows columns h k. h.1 rows columns k }
  choice-one R is (ByRule rule_no) = record { one = λ op args v w h k. rule-one R is (rule_at rules rule_no) args v w h k; never_both = λ op args v rows columns h k. rule-either R is (rule_at rules rule_no) args v rows columns h k }
  choice-one R is Missing = record { one = λ op args v w h k. absurd h; never_both = λ op args v rows columns h k. h }

  within-one : (n : ℕ) → IsOne (RunWithin D rules p n)
  within-one zero = record { one = λ op args v w h k. absurd h; never_both = λ op args v rows columns h k. h }
  within-one (suc n) = let before = within-one n in record {
    one = λ op args v w h k. (choice-one (RunWithin D rules p n) before (choice p op)).one op args v w h k;
    never_both = λ op args v rows columns h k. (choice-one (RunWithin D rules p n) before (choice p op)).never_both op args v rows columns h k;
  }

pub run-is-one : {O M : Type 0} (D : OfferData O M) → HasOneOutcome D → RunIsOne D
run-is-one D outcome = record {
  one = λ rules p op args v w h k. (within-one D outcome rules p (suc (bound p op))).one op args v w h k;
  never_both = λ rules p op args v rows columns h k. (within-one D outcome rules p (suc (bound p op))).never_both op args v rows columns h k;
}
