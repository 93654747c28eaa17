-- The events of a call, given their answers, and what it then answers.
use Rattle.std.specs.Prelude.{◌≡◌, ℕ, zero, suc, List, [], ◌∷◌, ◌++◌, Option, Some, None, Result, Ok, Err, MatchBool, ◌⊎◌}
use Rattle.cap_names.specs.declared.faults.TooLarge.{TooLarge}
use Rattle.cap_names.specs.declared.identifiers.Handle.{Handle}
use Rattle.cap_ops.specs.declared.fitting.Mismatch.{Mismatch}
use Rattle.cap_ops.specs.declared.keys.Arg.{Arg}
use Rattle.cap_ops.specs.declared.keys.PrimOut.{PrimOut}
use Rattle.cap_ops.specs.declared.keys.Value.{Value as Answer}
use Rattle.cap_ops.specs.declared.plans.Choice.TheVariants.{Prim, Rule as ByRule, Missing}
use Rattle.cap_ops.specs.Operations.{operation}
use Rattle.cap_ops.specs.Values.{Fits, none}
use Rattle.cap_ops.specs.Arrows.{ValueOver, over, arguments, old, value_of, out_value}
use Rattle.cap_ops.specs.Mismatches.{IsMismatch}
use Rattle.cap_ops.specs.Primitives.{OfferData, prime_of, PrimAnswers, PrimIsLarge}
use Rattle.cap_terms.specs.declared.body.Var.{Var}
use Rattle.cap_terms.specs.declared.body.Step.{Step}
use Rattle.cap_terms.specs.declared.body.Step.TheVariants.{Call}
use Rattle.cap_terms.specs.declared.body.Rule.{Rule}
use Rattle.cap_terms.specs.Run.{at, all_at, has_none}
use Rattle.cap_run.specs.Plans.{rule_at}
use Rattle.cap_steps.specs.Slots.{plain}
use Rattle.cap_board.specs.declared.answers.Asked.{Asked}
use Rattle.cap_board.specs.declared.answers.Asked.TheVariants.{Hit, Miss, NotFinal, Full}
use Rattle.cap_board.specs.declared.answers.PutAnswer.{PutAnswer}
use Rattle.cap_board.specs.declared.answers.PutAnswer.TheVariants.{Entry, Full as PutFull}
use Rattle.cap_board.specs.declared.refusals.CallRefusal.{CallRefusal}
use Rattle.cap_board.specs.declared.refusals.CallRefusal.TheVariants.{Mismatch as MismatchRefusal, NotFinal as NotFinalRefusal, Missing as MissingRefusal, TooLarge as TooLargeRefusal, Full as FullRefusal}
use Rattle.cap_board.specs.Board.{Event, asked, kept}

-- how a call ends, and how a step ends
abbrev pub CallEnd : Type 0 → Type 0
CallEnd M = Result (Answer M) CallRefusal

abbrev pub StepEnd : Type 0 → Type 0
StepEnd M = Result (ValueOver Handle M) CallRefusal

-- a call's end as the end of the step that calls
abbrev pub EndsAs : {M : Type 0} → CallEnd M → StepEnd M → Type 0
EndsAs (Ok v) (Ok w) = value_of v ≡ Some w
EndsAs (Err e) (Err f) = e ≡ f
EndsAs _ _ = ⊥

abbrev pub too_large : ℕ → ℕ → TooLarge
too_large rows columns = record { rows = rows; cols = columns }

abbrev pub put_end : {M : Type 0} → PutAnswer M → CallEnd M
put_end (Entry v) = Ok v
put_end (PutFull entries cells) = Err (FullRefusal entries cells)

-- what traces calls: the operation, its arguments, the events and the end
abbrev pub Tracer : Type 0 → Type 0 → Type 1
Tracer O M = ℕ → List (Arg M) → List (Event O M) → CallEnd M → Type 0

module _ {O M : Type 0} where
  -- a call among a step's variables, none of which is `none`
  pub record CallTrace (T : Tracer O M) (op : ℕ) (values : List (ValueOver Handle M)) (events : List (Event O M)) (end : StepEnd M) : Type 0 where
    pub args : List (Arg M)
    pub are : arguments args ≡ values
    pub call_end : CallEnd M
    pub trace : T op args events call_end
    pub ends : EndsAs call_end end

  -- a step: with `none` among its variables a call has no event and the value `none`
  abbrev pub StepTrace : ℕ → Tracer O M → Step → List (ValueOver Handle M) → List (Event O M) → StepEnd M → Type 0
  StepTrace p T (Call op xs) vs events end = MatchBool (has_none (all_at vs xs)) ((events ≡ []) × (end ≡ Ok none)) (CallTrace T op.0 (all_at vs xs) events end)
  StepTrace p T s vs events end = (events ≡ []) × (end ≡ Ok (plain (over p) s vs))

  -- a refusal of a step is the refusal of the whole
  abbrev pub AfterStep : List (Event O M) → StepEnd M → StepEnd M → (ValueOver Handle M → Type 0) → Type 0
  AfterStep events (Err e) end K = (events ≡ []) × (end ≡ Err e)
  AfterStep events (Ok v) end K = K v

  -- the steps in order
  abbrev pub StepsTrace : ℕ → Tracer O M → List Step → List (ValueOver Handle M) → Var → List (Event O M) → StepEnd M → Type 0
  StepsTrace p T [] vs x events end = (events ≡ []) × (end ≡ Ok (at vs x))
  StepsTrace p T (s ∷ ss) vs x events end =
      (first : List (Event O M)) × (more : List (Event O M)) × (w : StepEnd M) × (events ≡ first ++ more) × StepTrace p T s vs first w × AfterStep more w end (λ v. StepsTrace p T ss (vs ++ v ∷ []) x more end)

  -- the put of a result, whose answer is the end
  abbrev pub PutTrace : ℕ → List (Arg M) → PrimOut O M → List (Event O M) → CallEnd M → Type 0
  PutTrace op args given events end = (a : PutAnswer M) × (events ≡ kept op args given a ∷ []) × (end ≡ put_end a)

  -- after a body: its value is put, without new objects; its refusal is the call's
  abbrev pub AfterBody : ℕ → List (Arg M) → List (Event O M) → StepEnd M → List (Event O M) → CallEnd M → Type 0
  AfterBody op args body (Err e) events end = (events ≡ body) × (end ≡ Err e)
  AfterBody op args body (Ok v) events end = (given : PrimOut O M) × (more : List (Event O M)) × (given.fresh ≡ []) × (out_value given.out ≡ Some (old v)) × (events ≡ body ++ more) × PutTrace op args given more end

  abbrev pub RuleTrace : ℕ → Tracer O M → Option Rule → Tracer O M
  RuleTrace p T None op args events end = ⊥
  RuleTrace p T (Some r) op args events end = (body : List (Event O M)) × (w : StepEnd M) × StepsTrace p T r.body.steps (arguments args) r.body.answer body w × AfterBody op args body w events end

  -- what follows the answer of the ask: a hit is the value; a miss runs the primitive or the rule's body
  abbrev pub AfterAsk : OfferData O M → List Rule → (Handle → Option O) → Tracer O M → ℕ → List (Arg M) → Asked M → List (Event O M) → CallEnd M → Type 0
  AfterAsk D rules told T op args (Hit v) events end = (events ≡ []) × (end ≡ Ok v)
  AfterAsk D rules told T op args NotFinal events end = (events ≡ []) × (end ≡ Err NotFinalRefusal)
  AfterAsk D rules told T op args (Full entries cells) events end = (events ≡ []) × (end ≡ Err (FullRefusal entries cells))
  AfterAsk D rules told T op args (Miss Missing) events end = (events ≡ []) × (end ≡ Err (MissingRefusal (operation op)))
  AfterAsk D rules told T op args (Miss Prim) events end =
      ((rows : ℕ) × (columns : ℕ) × PrimIsLarge D told op args rows columns × (events ≡ []) × (end ≡ Err (TooLargeRefusal (too_large rows columns)))) ⊎ ((given : PrimOut O M) × PrimAnswers D told op args given × PutTrace op args given events end)
  AfterAsk D rules told T op args (Miss (ByRule k)) events end = RuleTrace (prime_of D) T (rule_at rules k) op args events end

  -- a call whose calls are nested less than n deep: a mismatch has no event; else the key is asked
  abbrev pub TraceWithin : OfferData O M → List Rule → (Handle → Option O) → ℕ → Tracer O M
  TraceWithin D rules told zero op args events end = ⊥
  TraceWithin D rules told (suc n) op args events end =
      ((m : Mismatch) × IsMismatch op args m × (events ≡ []) × (end ≡ Err (MismatchRefusal m)))
      ⊎ (Fits (over (prime_of D)) op (arguments args) × (a : Asked M) × (more : List (Event O M)) × (events ≡ asked op args a ∷ more) × AfterAsk D rules told (TraceWithin D rules told n) op args a more end)
