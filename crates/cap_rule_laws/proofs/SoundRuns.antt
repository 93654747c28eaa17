-- A sound body where calls give less than all right answers: where whatever calls give has its meaning, so has what the body gives.
use Rattle.std.proofs.Common.{◌≡◌, ℕ, Bool, true, false, List, [], ◌∷◌, ◌++◌}
use Rattle.std.specs.Prelude.{MatchBool}
use Rattle.cap_laws.specs.Linear.{CategoryData}
use Rattle.cap_ops.specs.Values.{Value, none}
use Rattle.cap_ops.specs.Meaning.{Meaning, setting_of}
use Rattle.cap_terms.specs.Run.{Outcome, done, large, Calls, all_at, has_none, StepGives, After, StepsGive, BodyGives}
use Rattle.cap_terms.specs.declared.body.Var.{Var}
use Rattle.cap_terms.specs.declared.body.Step.{Step}
use Rattle.cap_terms.specs.declared.body.Step.TheVariants.{Call, Src, Tgt, Part, MinusOne, Exists, Both, When, Tuple}
use Rattle.cap_terms.specs.declared.body.Body.{Body}
use Rattle.cap_rule_laws.specs.Soundness.{Means, Computes}

module _ {Obj Mor : Type 0} (C : CategoryData Obj Mor) (R : Calls Obj Mor) (right : (op : ℕ) (args : List (Value Obj Mor)) (v : Value Obj Mor) → R op args (done v) → Meaning C op args v) where
  -- the run comes to an end without a matrix past the limits, so no call has met one
  not-large : {v : Value Obj Mor} {rows columns : ℕ} → done v ≡ large rows columns → ⊥
  not-large e = cc

  call-kept : (v : Value Obj Mor) (G : Value Obj Mor → Type 0) (b : Bool) (op : ℕ) (args : List (Value Obj Mor)) (o : Outcome Obj Mor) → MatchBool b (o ≡ done none) (R op args o) → After o (done v) G → MatchBool b (o ≡ done none) (Means C op args o)
  call-kept v G true op args o h g = h
  call-kept v G false op args (done w) h g = right op args w h
  call-kept v G false op args (large rows columns) h g = absurd (not-large g)

  step-kept : (v : Value Obj Mor) (G : Value Obj Mor → Type 0) (s : Step) (vs : List (Value Obj Mor)) (o : Outcome Obj Mor) → StepGives (setting_of C) R s vs o → After o (done v) G → StepGives (setting_of C) (Means C) s vs o
  step-kept v G (Call op xs) vs o h g = call-kept v G (has_none (all_at vs xs)) op.0 (all_at vs xs) o h g
  step-kept v G (Src y) vs o h g = h
  step-kept v G (Tgt y) vs o h g = h
  step-kept v G (Part y n) vs o h g = h
  step-kept v G MinusOne vs o h g = h
  step-kept v G (Exists y) vs o h g = h
  step-kept v G (Both y z) vs o h g = h
  step-kept v G (When y z) vs o h g = h
  step-kept v G (Tuple ys) vs o h g = h

  after-kept : (v : Value Obj Mor) (G H : Value Obj Mor → Type 0) → ((w : Value Obj Mor) → G w → H w) → (o : Outcome Obj Mor) → After o (done v) G → After o (done v) H
  after-kept v G H k (done w) g = k w g
  after-kept v G H k (large rows columns) g = g

  steps-kept : (v : Value Obj Mor) (ss : List Step) (vs : List (Value Obj Mor)) (x : Var) → StepsGive (setting_of C) R ss vs x (done v) → StepsGive (setting_of C) (Means C) ss vs x (done v)
  steps-kept v [] vs x h = h
  steps-kept v (s ∷ ss) vs x h =
      let G : Value Obj Mor → Type 0 = λ w. StepsGive (setting_of C) R ss (vs ++ w ∷ []) x (done v) in
      let H : Value Obj Mor → Type 0 = λ w. StepsGive (setting_of C) (Means C) ss (vs ++ w ∷ []) x (done v) in
      (h.0, step-kept v G s vs h.0 h.1 h.2, after-kept v G H (λ w g. steps-kept v ss (vs ++ w ∷ []) x g) h.0 h.2)

  pub body-means : (op : ℕ) (body : Body) → Computes C op body → (args : List (Value Obj Mor)) (v : Value Obj Mor) → BodyGives (setting_of C) R body args (done v) → Meaning C op args v
  body-means op body S args v h = S.sound args v (steps-kept v body.steps args body.answer h)
