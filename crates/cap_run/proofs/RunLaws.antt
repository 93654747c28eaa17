-- What steps give where calls may give more; a run fits in any greater depth.
use Rattle.std.proofs.Common.{◌≡◌, ℕ, zero, suc, ◌≤◌, Bool, true, false, List, [], ◌∷◌, ◌++◌, arith}
use Rattle.std.specs.Prelude.{MatchBool, Option, Some, None}
use Rattle.cap_ops.specs.Values.{Value, none, Setting}
use Rattle.cap_ops.specs.Arrows.{Between, ValueOver, over}
use Rattle.cap_ops.specs.Primitives.{OfferData, prime_of}
use Rattle.cap_ops.specs.declared.plans.Choice.{Choice}
use Rattle.cap_ops.specs.declared.plans.Choice.TheVariants.{Prim, Missing}
use Rattle.cap_ops.specs.declared.plans.Choice.TheVariants.{Rule as ByRule}
use Rattle.cap_ops.specs.declared.plans.Plan.{Plan}
use Rattle.cap_terms.specs.declared.body.Var.{Var}
use Rattle.cap_terms.specs.declared.body.Step.{Step}
use Rattle.cap_terms.specs.declared.body.Step.TheVariants.{Call, Src, Tgt, Part, MinusOne, Exists, Both, When, Tuple}
use Rattle.cap_terms.specs.declared.body.Rule.{Rule}
use Rattle.cap_terms.specs.Run.{Outcome, done, large, Calls, all_at, has_none, StepGives, StepsGive}
use Rattle.cap_run.specs.Plans.{choice, rule_at}
use Rattle.cap_run.specs.Runs.{RuleGives, ChoiceGives, RunWithin}

module _ {Obj Mor : Type 0} (S : Setting Obj Mor) (R T : Calls Obj Mor) (more : (op : ℕ) (args : List (Value Obj Mor)) (out : Outcome Obj Mor) → R op args out → T op args out) where
  unless-kept : (b : Bool) (P Q Q' : Type 0) → (Q → Q') → MatchBool b P Q → MatchBool b P Q'
  unless-kept true P Q Q' f h = h
  unless-kept false P Q Q' f h = f h

  pub step-more : (s : Step) (vs : List (Value Obj Mor)) (out : Outcome Obj Mor) → StepGives S R s vs out → StepGives S T s vs out
  step-more (Call op xs) vs out h = unless-kept (has_none (all_at vs xs)) (out ≡ done none) (R op.0 (all_at vs xs) out) (T op.0 (all_at vs xs) out) (more op.0 (all_at vs xs) out) h
  step-more (Src x) vs out h = h
  step-more (Tgt x) vs out h = h
  step-more (Part x n) vs out h = h
  step-more MinusOne vs out h = h
  step-more (Exists x) vs out h = h
  step-more (Both x y) vs out h = h
  step-more (When x y) vs out h = h
  step-more (Tuple xs) vs out h = h

  pub steps-more : (ss : List Step) (vs : List (Value Obj Mor)) (x : Var) (out : Outcome Obj Mor) → StepsGive S R ss vs x out → StepsGive S T ss vs x out
  steps-more [] vs x out h = h
  steps-more (s ∷ ss) vs x out (done w, g, h) = (done w, step-more s vs (done w) g, steps-more ss (vs ++ w ∷ []) x out h)
  steps-more (s ∷ ss) vs x out (large r c, g, h) = (large r c, step-more s vs (large r c) g, h)

module _ {O M : Type 0} (D : OfferData O M) (rules : List Rule) where
  rule-more : (R T : Calls O (Between O M)) → ((op : ℕ) (args : List (ValueOver O M)) (out : Outcome O (Between O M)) → R op args out → T op args out) → (r : Option Rule) (args : List (ValueOver O M)) (out : Outcome O (Between O M)) → RuleGives D R r args out → RuleGives D T r args out
  rule-more R T f None args out h = h
  rule-more R T f (Some r) args out h = steps-more (over (prime_of D)) R T f r.body.steps args r.body.answer out h

  choice-more : (R T : Calls O (Between O M)) → ((op : ℕ) (args : List (ValueOver O M)) (out : Outcome O (Between O M)) → R op args out → T op args out) → (c : Choice) (op : ℕ) (args : List (ValueOver O M)) (out : Outcome O (Between O M)) → ChoiceGives D rules R c op args out → ChoiceGives D rules T c op args out
  choice-more R T f Prim op args out h = h
  choice-more R T f (ByRule rule_no) op args out h = rule-more R T f (rule_at rules rule_no) args out h
  choice-more R T f Missing op args out h = h

  pub deeper : (p : Plan) (n m : ℕ) → n ≤ m → (op : ℕ) (args : List (ValueOver O M)) (out : Outcome O (Between O M)) → RunWithin D rules p n op args out → RunWithin D rules p m op args out
  deeper p zero m le op args out h = absurd h
  deeper p (suc n) zero le op args out h = absurd (omega arith)
  deeper p (suc n) (suc m) le op args out h = choice-more (RunWithin D rules p n) (RunWithin D rules p m) (λ o a u. deeper p n m (omega arith) o a u) (choice p op) op args out h
