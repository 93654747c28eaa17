-- A refused ask or put is the last of a trace, and the call ends with its refusal.
use Rattle.std.proofs.Common.{◌≡◌, ℕ, zero, suc, Bool, true, false, List, [], ◌∷◌, ◌++◌, Option, Some, None, Result, Ok, Err, sym, subst, ap, ◌∙◌, refl, inl, inr, append_assoc}
use Rattle.std.specs.Prelude.{MatchBool}
use Rattle.std.proofs.lemmas.List.{append-nil}
use Rattle.cap_names.specs.declared.identifiers.Handle.{Handle}
use Rattle.cap_ops.specs.declared.keys.Arg.{Arg}
use Rattle.cap_ops.specs.declared.keys.PrimOut.{PrimOut}
use Rattle.cap_ops.specs.declared.keys.Value.{Value as Answer}
use Rattle.cap_ops.specs.declared.plans.Choice.TheVariants.{Prim, Rule as ByRule, Missing}
use Rattle.cap_ops.specs.Arrows.{ValueOver, arguments}
use Rattle.cap_ops.specs.Primitives.{OfferData, prime_of}
use Rattle.cap_ops.specs.Values.{none}
use Rattle.cap_terms.specs.declared.body.Var.{Var}
use Rattle.cap_terms.specs.declared.body.Step.{Step}
use Rattle.cap_terms.specs.declared.body.Step.TheVariants.{Call, Src, Tgt, Part, MinusOne, Exists, Both, When, Tuple}
use Rattle.cap_terms.specs.declared.body.Rule.{Rule}
use Rattle.cap_terms.specs.Run.{all_at, has_none}
use Rattle.cap_run.specs.Plans.{rule_at}
use Rattle.cap_board.specs.declared.answers.Asked.{Asked}
use Rattle.cap_board.specs.declared.answers.Asked.TheVariants.{Hit, Miss, NotFinal, Full}
use Rattle.cap_board.specs.declared.answers.PutAnswer.{PutAnswer}
use Rattle.cap_board.specs.declared.answers.PutAnswer.TheVariants.{Entry, Full as PutFull}
use Rattle.cap_board.specs.declared.refusals.CallRefusal.{CallRefusal}
use Rattle.cap_board.specs.declared.refusals.CallRefusal.TheVariants.{Full as FullRefusal}
use Rattle.cap_board.specs.Board.{Event, asked, kept}
use Rattle.cap_board.specs.Trace.{CallEnd, StepEnd, EndsAs, put_end, Tracer, CallTrace, StepTrace, StepsTrace, PutTrace, AfterBody, RuleTrace, AfterAsk, TraceWithin}

-- an ask or put that a full history refused, with these numbers
abbrev pub IsFullEvent : {O M : Type 0} → Event O M → ℕ → ℕ → Type 0
IsFullEvent (asked op args (Full entries cells)) n k = (entries ≡ n) × (cells ≡ k)
IsFullEvent (kept op args out (PutFull entries cells)) n k = (entries ≡ n) × (cells ≡ k)
IsFullEvent _ n k = ⊥

abbrev pub IsClean : {O M : Type 0} → Event O M → Type 0
IsClean {O} {M} b = (n k : ℕ) → IsFullEvent b n k → ⊥

abbrev pub AreClean : {O M : Type 0} → List (Event O M) → Type 0
AreClean [] = Unit {0}
AreClean (b ∷ bs) = IsClean b × AreClean bs

pub record FullLast {O M : Type 0} (events : List (Event O M)) (n k : ℕ) : Type 0 where
  pub front : List (Event O M)
  pub last : Event O M
  pub splits : events ≡ front ++ last ∷ []
  pub clean : AreClean front
  pub full : IsFullEvent last n k

-- where the end is the refusal of a full history its event is the last, and else there is none
abbrev pub Ends : {O M A : Type 0} → List (Event O M) → Result A CallRefusal → Type 0
Ends events (Err (FullRefusal n k)) = FullLast events n k
Ends events _ = AreClean events

module _ {O M : Type 0} where
  clean-append : (xs ys : List (Event O M)) → AreClean xs → AreClean ys → AreClean (xs ++ ys)
  clean-append [] ys c d = d
  clean-append (x ∷ xs) ys c d = (c.0, clean-append xs ys c.1 d)

  -- clean events before
  pub ends-behind : {A : Type 0} (xs ys : List (Event O M)) (end : Result A CallRefusal) → AreClean xs → Ends ys end → Ends (xs ++ ys) end
  ends-behind xs ys (Err (FullRefusal n k)) c e = record { front = xs ++ e.front; last = e.last; splits = ap (λ zs. xs ++ zs) e.splits ∙ sym (append_assoc xs e.front (e.last ∷ [])); clean = clean-append xs e.front c e.clean; full = e.full }
  ends-behind xs ys (Err _) c e = clean-append xs ys c e
  ends-behind xs ys (Ok v) c e = clean-append xs ys c e

  -- a refusal is one of steps and of calls
  same-refusal : (A B : Type 0) (events : List (Event O M)) (e : CallRefusal) → Ends {A = A} events (Err e) → Ends {A = B} events (Err e)
  same-refusal A B events (FullRefusal n k) h = h
  same-refusal A B events _ h = h

  as-step : (events : List (Event O M)) (a : CallEnd M) (b : StepEnd M) → EndsAs a b → Ends events a → Ends events b
  as-step events (Ok v) (Ok w) is h = h
  as-step events (Err e) (Err f) is h = subst (λ x. Ends {A = ValueOver Handle M} events (Err x)) is (same-refusal (Answer M) (ValueOver Handle M) events e h)
  as-step events _ _ is h = absurd is

  put-ends : (op : ℕ) (args : List (Arg M)) (given : PrimOut O M) (a : PutAnswer M) → Ends (kept op args given a ∷ []) (put_end a)
  put-ends op args given (Entry v) = (λ n k h. h, tt)
  put-ends op args given (PutFull n k) = record { front = []; last = kept op args given (PutFull n k); splits = refl; clean = tt; full = (refl, refl) }

  put-trace-ends : (op : ℕ) (args : List (Arg M)) (given : PrimOut O M) (events : List (Event O M)) (end : CallEnd M) → PutTrace op args given events end → Ends events end
  put-trace-ends op args given events end (a, e, is) = subst (λ x. Ends events x) (sym is) (subst (λ es. Ends es (put_end a)) (sym e) (put-ends op args given a))

  module _ (p : ℕ) (T : Tracer O M) (f : (op : ℕ) (args : List (Arg M)) (events : List (Event O M)) (end : CallEnd M) → T op args events end → Ends events end) where
    nothing-ends : (events : List (Event O M)) (end : StepEnd M) (v : ValueOver Handle M) → (events ≡ []) × (end ≡ Ok v) → Ends events end
    nothing-ends events end v h = subst (λ x. Ends events x) (sym h.1) (subst AreClean (sym h.0) tt)

    unless-ends : (b : Bool) (op : ℕ) (vs : List (ValueOver Handle M)) (events : List (Event O M)) (end : StepEnd M) → MatchBool b ((events ≡ []) × (end ≡ Ok none)) (CallTrace T op vs events end) → Ends events end
    unless-ends true op vs events end h = nothing-ends events end none h
    unless-ends false op vs events end c = as-step events c.call_end end c.ends (f op c.args events c.call_end c.trace)

    step-ends : (s : Step) (vs : List (ValueOver Handle M)) (events : List (Event O M)) (end : StepEnd M) → StepTrace p T s vs events end → Ends events end
    step-ends (Call op xs) vs events end h = unless-ends (has_none (all_at vs xs)) op.0 (all_at vs xs) events end h
    step-ends (Src x) vs events end h = nothing-ends events end _ h
    step-ends (Tgt x) vs events end h = nothing-ends events end _ h
    step-ends (Part x n) vs events end h = nothing-ends events end _ h
    step-ends MinusOne vs events end h = nothing-ends events end _ h
    step-ends (Exists x) vs events end h = nothing-ends events end _ h
    step-ends (Both x y) vs events end h = nothing-ends events end _ h
    step-ends (When x y) vs events end h = nothing-ends events end _ h
    step-ends (Tuple xs) vs events end h = nothing-ends events end _ h

    steps-end : (ss : List Step) (vs : List (ValueOver Handle M)) (x : Var) (events : List (Event O M)) (end : StepEnd M) → StepsTrace p T ss vs x events end → Ends events end
    steps-end [] vs x events end h = nothing-ends events end _ h
    steps-end (s ∷ ss) vs x events end (first, more, Ok v, e, h, k) = subst (λ es. Ends es end) (sym e) (ends-behind first more end (step-ends s vs first (Ok v) h) (steps-end ss (vs ++ v ∷ []) x more end k))
    steps-end (s ∷ ss) vs x events end (first, more, Err r, e, h, k) =
        let whole : events ≡ first = e ∙ (ap (λ ys. first ++ ys) k.0 ∙ append-nil first) in
        subst (λ y. Ends events y) (sym k.1) (subst (λ es. Ends {A = ValueOver Handle M} es (Err r)) (sym whole) (step-ends s vs first (Err r) h))

    body-ends : (op : ℕ) (args : List (Arg M)) (body : List (Event O M)) (w : StepEnd M) (events : List (Event O M)) (end : CallEnd M) → Ends body w → AfterBody op args body w events end → Ends events end
    body-ends op args body (Err e) events end b h = subst (λ x. Ends events x) (sym h.1) (subst (λ es. Ends {A = Answer M} es (Err e)) (sym h.0) (same-refusal (ValueOver Handle M) (Answer M) body e b))
    body-ends op args body (Ok v) events end b (given, more, fresh, is, e, put) = subst (λ es. Ends es end) (sym e) (ends-behind body more end b (put-trace-ends op args given more end put))

    rule-ends : (r : Option Rule) (op : ℕ) (args : List (Arg M)) (events : List (Event O M)) (end : CallEnd M) → RuleTrace p T r op args events end → Ends events end
    rule-ends None op args events end h = absurd h
    rule-ends (Some r) op args events end (body, w, steps, after) = body-ends op args body w events end (steps-end r.body.steps (arguments args) r.body.answer body w steps) after

  module _ (D : OfferData O M) (rules : List Rule) (told : Handle → Option O) where
    first-clean : (op : ℕ) (args : List (Arg M)) (a : Asked M) (more : List (Event O M)) (end : CallEnd M) → (let b : Event O M = asked op args a in IsClean b) → Ends more end → Ends (asked op args a ∷ more) end
    first-clean op args a more end c e = ends-behind (asked op args a ∷ []) more end (c, tt) e

    ask-ends : (T : Tracer O M) → ((op : ℕ) (args : List (Arg M)) (events : List (Event O M)) (end : CallEnd M) → T op args events end → Ends events end) → (op : ℕ) (args : List (Arg M)) (a : Asked M) (more : List (Event O M)) (end : CallEnd M) → AfterAsk D rules told T op args a more end → Ends (asked op args a ∷ more) end
    ask-ends T f op args (Hit v) more end h = first-clean op args (Hit v) more end (λ n k x. x) (subst (λ x. Ends more x) (sym h.1) (subst AreClean (sym h.0) tt))
    ask-ends T f op args NotFinal more end h = first-clean op args NotFinal more end (λ n k x. x) (subst (λ x. Ends more x) (sym h.1) (subst AreClean (sym h.0) tt))
    ask-ends T f op args (Full n k) more end h =
        subst (λ x. Ends (asked op args (Full n k) ∷ more) x) (sym h.1) (record { front = []; last = asked op args (Full n k); splits = ap (λ es. asked op args (Full n k) ∷ es) h.0; clean = tt; full = (refl, refl) })
    ask-ends T f op args (Miss Missing) more end h = first-clean op args (Miss Missing) more end (λ n k x. x) (subst (λ x. Ends more x) (sym h.1) (subst AreClean (sym h.0) tt))
    ask-ends T f op args (Miss Prim) more end (inl h) = first-clean op args (Miss Prim) more end (λ n k x. x) (subst (λ x. Ends more x) (sym h.4) (subst AreClean (sym h.3) tt))
    ask-ends T f op args (Miss Prim) more end (inr h) = first-clean op args (Miss Prim) more end (λ n k x. x) (put-trace-ends op args h.0 more end h.2)
    ask-ends T f op args (Miss (ByRule r)) more end h = first-clean op args (Miss (ByRule r)) more end (λ n k x. x) (rule-ends (prime_of D) T f (rule_at rules r) op args more end h)

    -- a trace ends so
    pub trace-ends : (n op : ℕ) (args : List (Arg M)) (events : List (Event O M)) (end : CallEnd M) → TraceWithin D rules told n op args events end → Ends events end
    trace-ends zero op args events end h = absurd h
    trace-ends (suc n) op args events end (inl h) = subst (λ x. Ends events x) (sym h.3) (subst AreClean (sym h.2) tt)
    trace-ends (suc n) op args events end (inr h) = subst (λ es. Ends es end) (sym h.3) (ask-ends (TraceWithin D rules told n) (λ o a e u. trace-ends n o a e u) op args h.1 h.2 end h.4)
