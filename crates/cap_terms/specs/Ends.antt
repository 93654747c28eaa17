-- Typed bodies never meet a mismatch of ends.
use Rattle.std.specs.Prelude.{ℕ, List}
use Rattle.cap_ops.specs.Values.{Value, Setting, Fits, FitsWithAnswer}
use Rattle.cap_terms.specs.declared.body.Body.{Body}
use Rattle.cap_terms.specs.Run.{Outcome, done, large, BodyGives, ComesTo}
use Rattle.cap_terms.specs.Typing.{Typed}

-- what a call may give where all that is known of it is its signature: on arguments that fit, an answer with the signature's ends
abbrev pub EndsGive : {Obj Mor : Type 0} → Setting Obj Mor → ℕ → List (Value Obj Mor) → Outcome Obj Mor → Type 0
EndsGive S op args (done v) = Fits S op args → FitsWithAnswer S op args v
EndsGive S op args (large r c) = Unit {0}

-- on arguments that fit the head, each call that a run of the body comes to has arguments that fit, and the answer has the head's ends
pub record NeverMismatches {Obj Mor : Type 0} (S : Setting Obj Mor) (head : ℕ) (body : Body) : Type 0 where
  pub calls_fit : Typed head body → (args : List (Value Obj Mor)) → Fits S head args → (op : ℕ) (called : List (Value Obj Mor)) → ComesTo S (EndsGive S) body.steps args op called → Fits S op called
  pub answer_fits : Typed head body → (args : List (Value Obj Mor)) → Fits S head args → (v : Value Obj Mor) → BodyGives S (EndsGive S) body args (done v) → FitsWithAnswer S head args v
