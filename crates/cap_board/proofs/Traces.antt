-- What was told stays told, so traces stay traces; and a trace fits in any greater depth.
use Rattle.std.proofs.Common.{◌≡◌, ℕ, zero, suc, ◌≤◌, Bool, true, false, List, [], ◌∷◌, ◌++◌, Option, Some, None, Ok, Err, arith, inl, inr}
use Rattle.std.specs.Prelude.{MatchBool}
use Rattle.cap_names.specs.declared.identifiers.Handle.{Handle}
use Rattle.cap_ops.specs.declared.arrows.End.{End}
use Rattle.cap_ops.specs.declared.arrows.End.TheVariants.{Old, New}
use Rattle.cap_ops.specs.declared.keys.Arg.{Arg}
use Rattle.cap_ops.specs.declared.keys.PrimOut.{PrimOut}
use Rattle.cap_ops.specs.declared.plans.Choice.TheVariants.{Prim, Rule as ByRule, Missing}
use Rattle.cap_ops.specs.Values.{none}
use Rattle.cap_ops.specs.Arrows.{ValueOver, arguments}
use Rattle.cap_ops.specs.Told.{StaysTold, end_object}
use Rattle.cap_ops.specs.Primitives.{OfferData, prime_of, PrimAnswers, PrimIsLarge}
use Rattle.cap_ops.proofs.Telling.{tells-kept, all-kept}
use Rattle.cap_terms.specs.declared.body.Var.{Var}
use Rattle.cap_terms.specs.declared.body.Step.{Step}
use Rattle.cap_terms.specs.declared.body.Step.TheVariants.{Call, Src, Tgt, Part, MinusOne, Exists, Both, When, Tuple}
use Rattle.cap_terms.specs.declared.body.Rule.{Rule}
use Rattle.cap_terms.specs.Run.{all_at, has_none}
use Rattle.cap_run.specs.Plans.{rule_at}
use Rattle.cap_board.specs.declared.answers.Asked.{Asked}
use Rattle.cap_board.specs.declared.answers.Asked.TheVariants.{Hit, Miss, NotFinal, Full}
use Rattle.cap_board.specs.Board.{Event}
use Rattle.cap_board.specs.Trace.{CallEnd, StepEnd, Tracer, CallTrace, StepTrace, StepsTrace, RuleTrace, AfterAsk, TraceWithin}

module _ {O M : Type 0} (p : ℕ) (S T : Tracer O M) (f : (op : ℕ) (args : List (Arg M)) (events : List (Event O M)) (end : CallEnd M) → S op args events end → T op args events end) where
  unless-kept : (b : Bool) (P Q Q' : Type 0) → (Q → Q') → MatchBool b P Q → MatchBool b P Q'
  unless-kept true P Q Q' g h = h
  unless-kept false P Q Q' g h = g h

  call-kept : (op : ℕ) (vs : List (ValueOver Handle M)) (events : List (Event O M)) (end : StepEnd M) → CallTrace S op vs events end → CallTrace T op vs events end
  call-kept op vs events end c = record { args = c.args; are = c.are; call_end = c.call_end; trace = f op c.args events c.call_end c.trace; ends = c.ends }

  pub step-kept : (s : Step) (vs : List (ValueOver Handle M)) (events : List (Event O M)) (end : StepEnd M) → StepTrace p S s vs events end → StepTrace p T s vs events end
  step-kept (Call op xs) vs events end h = unless-kept (has_none (all_at vs xs)) ((events ≡ []) × (end ≡ Ok none)) (CallTrace S op.0 (all_at vs xs) events end) (CallTrace T op.0 (all_at vs xs) events end) (call-kept op.0 (all_at vs xs) events end) h
  step-kept (Src x) vs events end h = h
  step-kept (Tgt x) vs events end h = h
  step-kept (Part x n) vs events end h = h
  step-kept MinusOne vs events end h = h
  step-kept (Exists x) vs events end h = h
  step-kept (Both x y) vs events end h = h
  step-kept (When x y) vs events end h = h
  step-kept (Tuple xs) vs events end h = h

  pub steps-kept : (ss : List Step) (vs : List (ValueOver Handle M)) (x : Var) (events : List (Event O M)) (end : StepEnd M) → StepsTrace p S ss vs x events end → StepsTrace p T ss vs x events end
  steps-kept [] vs x events end h = h
  steps-kept (s ∷ ss) vs x events end (first, more, Ok v, e, h, k) = (first, more, Ok v, e, step-kept s vs first (Ok v) h, steps-kept ss (vs ++ v ∷ []) x more end k)
  steps-kept (s ∷ ss) vs x events end (first, more, Err r, e, h, k) = (first, more, Err r, e, step-kept s vs first (Err r) h, k)

  pub rule-kept : (r : Option Rule) (op : ℕ) (args : List (Arg M)) (events : List (Event O M)) (end : CallEnd M) → RuleTrace p S r op args events end → RuleTrace p T r op args events end
  rule-kept None op args events end h = h
  rule-kept (Some r) op args events end h = (h.0, h.1, steps-kept r.body.steps (arguments args) r.body.answer h.0 h.1 h.2, h.3)

module _ {O M : Type 0} (D : OfferData O M) (rules : List Rule) (told told' : Handle → Option O) (stays : StaysTold told told') where
  end-kept : (fresh : List O) (h : End) (o : O) → end_object told fresh h ≡ Some o → end_object told' fresh h ≡ Some o
  end-kept fresh (Old h) o e = stays h o e
  end-kept fresh (New k) o e = e

  pub prim-kept : (op : ℕ) (args : List (Arg M)) (given : PrimOut O M) → PrimAnswers D told op args given → PrimAnswers D told' op args given
  prim-kept op args given d = record {
    data_of = d.data_of;
    tells_arguments = all-kept told told' stays (arguments args) d.data_of d.tells_arguments;
    value = d.value;
    is_value = d.is_value;
    out = d.out;
    tells = tells-kept (end_object told given.fresh) (end_object told' given.fresh) (end-kept given.fresh) d.value d.out d.tells;
    answers = d.answers;
    within = d.within;
    fresh_is = d.fresh_is;
    fresh_objects = d.fresh_objects;
    is_datum = d.is_datum;
    fits = d.fits;
    used = d.used;
  }

  pub large-kept : (op : ℕ) (args : List (Arg M)) (rows columns : ℕ) → PrimIsLarge D told op args rows columns → PrimIsLarge D told' op args rows columns
  large-kept op args rows columns d = record { data_of = d.data_of; tells_arguments = all-kept told told' stays (arguments args) d.data_of d.tells_arguments; large = d.large }

  ask-kept : (S T : Tracer O M) → ((op : ℕ) (args : List (Arg M)) (events : List (Event O M)) (end : CallEnd M) → S op args events end → T op args events end) → (op : ℕ) (args : List (Arg M)) (a : Asked M) (events : List (Event O M)) (end : CallEnd M) → AfterAsk D rules told S op args a events end → AfterAsk D rules told' T op args a events end
  ask-kept S T f op args (Hit v) events end h = h
  ask-kept S T f op args NotFinal events end h = h
  ask-kept S T f op args (Full entries cells) events end h = h
  ask-kept S T f op args (Miss Missing) events end h = h
  ask-kept S T f op args (Miss Prim) events end (inl h) = inl (h.0, h.1, large-kept op args h.0 h.1 h.2, h.3, h.4)
  ask-kept S T f op args (Miss Prim) events end (inr h) = inr (h.0, prim-kept op args h.0 h.1, h.2)
  ask-kept S T f op args (Miss (ByRule k)) events end h = rule-kept (prime_of D) S T f (rule_at rules k) op args events end h

  pub trace-kept : (n m : ℕ) → n ≤ m → (op : ℕ) (args : List (Arg M)) (events : List (Event O M)) (end : CallEnd M) → TraceWithin D rules told n op args events end → TraceWithin D rules told' m op args events end
  trace-kept zero m le op args events end h = absurd h
  trace-kept (suc n) zero le op args events end h = absurd (omega arith)
  trace-kept (suc n) (suc m) le op args events end (inl h) = inl h
  trace-kept (suc n) (suc m) le op args events end (inr h) = inr (h.0, h.1, h.2, h.3, ask-kept (TraceWithin D rules told n) (TraceWithin D rules told' m) (λ o a e u. trace-kept n m (omega arith) o a e u) op args h.1 h.2 end h.4)
