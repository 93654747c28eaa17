-- Two traces of one call make the same entries behind the same history, and end alike but for the size of what is too large and the numbers of a full history.
use Rattle.std.proofs.Common.{◌≡◌, ℕ, zero, suc, Bool, true, false, List, [], ◌∷◌, ◌++◌, Option, Some, None, Ok, Err, refl, sym, ap, subst, ◌∙◌, inl, inr}
use Rattle.std.specs.Prelude.{Result, MatchBool}
use Rattle.std.proofs.lemmas.List.{append-nil}
use Rattle.cap_names.specs.declared.identifiers.Handle.{Handle}
use Rattle.cap_names.specs.declared.identifiers.SessionNo.{SessionNo}
use Rattle.cap_ops.specs.declared.keys.Arg.{Arg}
use Rattle.cap_ops.specs.declared.keys.Out.{Out}
use Rattle.cap_ops.specs.declared.keys.PrimOut.{PrimOut}
use Rattle.cap_ops.specs.declared.keys.Value.{Value as Answer}
use Rattle.cap_ops.specs.declared.plans.Choice.TheVariants.{Prim, Rule as ByRule, Missing}
use Rattle.cap_ops.specs.Arrows.{ValueOver, arguments, old, value_of}
use Rattle.cap_ops.specs.Mismatches.{places_of}
use Rattle.cap_ops.specs.Primitives.{prime_of, HasOneOutcome}
use Rattle.cap_ops.specs.Told.{TellsAll, told_in}
use Rattle.cap_ops.specs.Values.{none}
use Rattle.cap_ops.proofs.Places.{some_inner}
use Rattle.cap_ops.proofs.Telling.{all-kept}
use Rattle.cap_terms.specs.declared.body.Var.{Var}
use Rattle.cap_terms.specs.declared.body.Step.{Step}
use Rattle.cap_terms.specs.declared.body.Step.TheVariants.{Call, Src, Tgt, Part, MinusOne, Exists, Both, When, Tuple}
use Rattle.cap_terms.specs.declared.body.Rule.{Rule}
use Rattle.cap_terms.specs.Run.{all_at, has_none}
use Rattle.cap_run.specs.Plans.{rule_at, AreRules}
use Rattle.cap_board.specs.declared.answers.Asked.{Asked}
use Rattle.cap_board.specs.declared.answers.Asked.TheVariants.{Hit, Miss, NotFinal, Full}
use Rattle.cap_board.specs.declared.answers.PutAnswer.{PutAnswer}
use Rattle.cap_board.specs.declared.answers.PutAnswer.TheVariants.{Entry as PutEntry, Full as PutFull}
use Rattle.cap_board.specs.declared.refusals.CallRefusal.{CallRefusal}
use Rattle.cap_board.specs.declared.refusals.CallRefusal.TheVariants as refused_by
use Rattle.cap_board.specs.Board.{asked, kept}
use Rattle.cap_board.specs.Board.{Event as BoardEvent}
use Rattle.cap_board.specs.Trace.{CallEnd, StepEnd, Tracer, EndsAs, put_end, CallTrace, StepTrace, AfterStep, StepsTrace, PutTrace, AfterBody, RuleTrace, AfterAsk, TraceWithin}
use Rattle.cap_history.specs.declared.entries.Entry.{Entry}
use Rattle.cap_history.specs.declared.entries.Event.TheVariants.{Ask}
use Rattle.cap_history.specs.Reading.{objects}
use Rattle.cap_history.specs.Replies.{IsFull}
use Rattle.cap_legal.specs.Legal.{Frame, TrueEvent, Legal}
use Rattle.cap_legal.proofs.Longer.{told-longer}
use Rattle.cap_accounts.specs.Commands.{board_event, IsRefusedEvent, Recorded}
use Rattle.cap_one_report.proofs.Mismatches.{mismatch-one, fits-right}
use Rattle.cap_one_report.proofs.Primitives.{arguments-one, out-one, prim-one, prim-either}
use Rattle.cap_one_report.proofs.Entries.{legal-entry, no-room, entry-one}
use Rattle.cap_one_report.proofs.Sides.{bare_refusal, bare, key_of, asked-event, kept-event, recorded-parts, no-entry, refused, FullAt, Side, first-side, second-side}

-- ends alike
module _ {A : Type 0} where
  ok-inner : (a b : A) → ◌≡◌ {A = Result A CallRefusal} (Ok a) (Ok b) → a ≡ b
  ok-inner a b e = cc

  err-inner : (a b : CallRefusal) → ◌≡◌ {A = Result A CallRefusal} (Err a) (Err b) → a ≡ b
  err-inner a b e = cc

  ok≢err : (a : A) (b : CallRefusal) → ◌≡◌ {A = Result A CallRefusal} (Ok a) (Err b) → ⊥
  ok≢err a b e = cc

ends-alike : {M : Type 0} (c d : CallEnd M) (v w : StepEnd M) → EndsAs c v → EndsAs d w → bare c ≡ bare d → bare v ≡ bare w
ends-alike (Ok a) (Ok b) (Ok v) (Ok w) h k e = ap (λ x. Ok x) (some_inner (sym h ∙ ap value_of (ok-inner a b e) ∙ k))
ends-alike (Err a) (Err b) (Err v) (Err w) h k e = ap (λ x. Err (bare_refusal x)) (sym h) ∙ ap (λ x. Err x) (err-inner (bare_refusal a) (bare_refusal b) e) ∙ ap (λ x. Err (bare_refusal x)) k
ends-alike (Ok a) (Err b) (Ok v) (Err w) h k e = absurd (ok≢err a (bare_refusal b) e)
ends-alike (Err a) (Ok b) (Err v) (Ok w) h k e = absurd (ok≢err b (bare_refusal a) (sym e))
ends-alike (Ok a) d (Err v) w h k e = absurd h
ends-alike (Err a) d (Ok v) w h k e = absurd h
ends-alike (Ok a) (Ok b) (Ok v) (Err w) h k e = absurd k
ends-alike (Ok a) (Err b) (Ok v) (Ok w) h k e = absurd k
ends-alike (Err a) (Ok b) (Err v) (Err w) h k e = absurd k
ends-alike (Err a) (Err b) (Err v) (Ok w) h k e = absurd k

module _ {O M : Type 0} where
  asked-inner : (op : ℕ) (args : List (Arg M)) (a b : Asked M) → ◌≡◌ {A = BoardEvent O M} (asked op args a) (asked op args b) → a ≡ b
  asked-inner op args a b e = cc

  kept-inner : (op : ℕ) (args : List (Arg M)) (given : PrimOut O M) (a b : PutAnswer M) → ◌≡◌ {A = BoardEvent O M} (kept op args given a) (kept op args given b) → a ≡ b
  kept-inner op args given a b e = cc

  abbrev given_of : List O → Out M → PrimOut O M
  given_of fresh given = record { fresh = fresh; out = given }

  given-one : (a b : PrimOut O M) → a.fresh ≡ b.fresh → a.out ≡ b.out → a ≡ b
  given-one a b e f = ap (λ os. given_of os a.out) e ∙ ap (given_of b.fresh) f

module _ {O M : Type 0} (F : Frame O M) (one : HasOneOutcome F.offer) (are : AreRules F.rules) (session : SessionNo) where
  -- the same entries, and ends alike
  abbrev pub Alike : {A : Type 0} → List (Entry O M) → List (Entry O M) → Result A CallRefusal → Result A CallRefusal → Type 0
  Alike es es' end end' = (es ≡ es') × (bare end ≡ bare end')

  refused-call : (es : List (Entry O M)) (v : CallRefusal) → FullAt F session {A = ValueOver Handle M} es (Err v) → FullAt F session {A = Answer M} es (Err v)
  refused-call es (refused_by.Full n k) f = f
  refused-call es _ f = tt

  refused-step : (es : List (Entry O M)) (v : CallRefusal) → FullAt F session {A = Answer M} es (Err v) → FullAt F session {A = ValueOver Handle M} es (Err v)
  refused-step es (refused_by.Full n k) f = f
  refused-step es _ f = tt

  full-called : (es : List (Entry O M)) (c : CallEnd M) (v : StepEnd M) → EndsAs c v → FullAt F session es v → FullAt F session es c
  full-called es (Ok a) (Ok v) h f = tt
  full-called es (Err a) (Err v) h f = subst (λ (x : CallRefusal). FullAt F session {A = Answer M} es (Err x)) (sym h) (refused-call es v f)
  full-called es (Ok a) (Err v) h f = absurd h
  full-called es (Err a) (Ok v) h f = absurd h

  module _ (told told' : Handle → Option O) where
    -- what traces calls in one way
    abbrev TracesOne : Tracer O M → Tracer O M → Type 0
    TracesOne T T' = (op : ℕ) (args : List (Arg M)) (before : List (Entry O M)) (bs bs' : List (BoardEvent O M)) (es es' later later' : List (Entry O M)) (end end' : CallEnd M)
        → Side F session told before bs es later end → Side F session told' before bs' es' later' end' → T op args bs end → T' op args bs' end' → Alike es es' end end'

    -- no event, and the same end
    silent : {A : Type 0} (before : List (Entry O M)) (bs bs' : List (BoardEvent O M)) (es es' later later' : List (Entry O M)) (end end' : Result A CallRefusal)
        → Side F session told before bs es later end → Side F session told' before bs' es' later' end' → bs ≡ [] → bs' ≡ [] → bare end ≡ bare end' → Alike es es' end end'
    silent before bs bs' es es' later later' end end' S S' e e' f = (no-entry session bs es e S.recorded ∙ sym (no-entry session bs' es' e' S'.recorded), f)

    -- the put of one result
    module _ (op : ℕ) (args : List (Arg M)) (given : PrimOut O M) (before : List (Entry O M)) where
      put-rest : (a a' : PutAnswer M) (es es' later later' : List (Entry O M)) (end end' : CallEnd M) → Legal F (before ++ (es ++ later)) → Legal F (before ++ (es' ++ later'))
          → Recorded session (kept op args given a ∷ []) es → Recorded session (kept op args given a' ∷ []) es'
          → FullAt F session (before ++ es) (put_end a) → FullAt F session (before ++ es') (put_end a') → Alike es es' (put_end a) (put_end a')
      put-rest a a' (e ∷ es) (e' ∷ es') later later' end end' l l' r r' f f' =
          let none = no-entry session [] es refl r.2 in
          let none' = no-entry session [] es' refl r'.2 in
          let event = kept-event e.event e.reply op args given a r.1 ∙ sym (kept-event e'.event e'.reply op args given a' r'.1) in
          let same = entry-one F are before e e' (es ++ later) (es' ++ later') l l' (r.0 ∙ sym r'.0) event in
          let answer = kept-inner op args given a a' (some_inner (sym r.1 ∙ ap (λ x. board_event x.event x.reply) same ∙ r'.1)) in
          (ap (λ x. x ∷ es) same ∙ ap (λ x. e' ∷ x) (none ∙ sym none'), ap (λ x. bare (put_end x)) answer)
      put-rest (PutFull n k) (PutFull m j) [] [] later later' end end' l l' r r' f f' = (refl, refl)
      put-rest (PutFull n k) a' [] (e' ∷ es') later later' end end' l l' r r' f f' =
          absurd (no-room F before (subst (IsFull F.object_cells F.morphism_cells) (append-nil before) f) (legal-entry F before e' (es' ++ later') l').room)
      put-rest a (PutFull m j) (e ∷ es) [] later later' end end' l l' r r' f f' =
          absurd (no-room F before (subst (IsFull F.object_cells F.morphism_cells) (append-nil before) f') (legal-entry F before e (es ++ later) l).room)
      put-rest (PutEntry v) a' [] _ later later' end end' l l' r r' f f' = absurd r
      put-rest (PutFull n k) (PutEntry w) [] [] later later' end end' l l' r r' f f' = absurd r'
      put-rest a (PutEntry w) (e ∷ es) [] later later' end end' l l' r r' f f' = absurd r'

    put-one : (op : ℕ) (args : List (Arg M)) (given given' : PrimOut O M) → given ≡ given' → (before : List (Entry O M)) (bs bs' : List (BoardEvent O M)) (es es' later later' : List (Entry O M)) (end end' : CallEnd M)
        → Side F session told before bs es later end → Side F session told' before bs' es' later' end' → PutTrace op args given bs end → PutTrace op args given' bs' end' → Alike es es' end end'
    put-one op args given given' same before bs bs' es es' later later' end end' S S' (a, e, f) (a', e', f') =
        let e2 : bs' ≡ kept op args given a' ∷ [] = e' ∙ ap (λ g. kept op args g a' ∷ []) (sym same) in
        let r = put-rest op args given before a a' es es' later later' end end' S.legal S'.legal (subst (λ x. Recorded session x es) e S.recorded) (subst (λ x. Recorded session x es') e2 S'.recorded)
        (subst (λ x. FullAt F session (before ++ es) x) f S.full) (subst (λ x. FullAt F session (before ++ es') x) f' S'.full) in
        (r.0, ap bare f ∙ r.1 ∙ ap bare (sym f'))

    module _ (p : ℕ) (T T' : Tracer O M) (calls : TracesOne T T') where
      call-one : (op : ℕ) (vs : List (ValueOver Handle M)) (before : List (Entry O M)) (bs bs' : List (BoardEvent O M)) (es es' later later' : List (Entry O M)) (end end' : StepEnd M)
          → Side F session told before bs es later end → Side F session told' before bs' es' later' end' → CallTrace T op vs bs end → CallTrace T' op vs bs' end' → Alike es es' end end'
      call-one op vs before bs bs' es es' later later' end end' S S' C C' =
          let same = arguments-one C.args C'.args (C.are ∙ sym C'.are) in
          let trace : T' op C.args bs' C'.call_end = subst (λ x. T' op x bs' C'.call_end) (sym same) C'.trace in
          let A : Side F session told before bs es later C.call_end = record { legal = S.legal; stays = S.stays; recorded = S.recorded; full = full-called (before ++ es) C.call_end end C.ends S.full } in
          let B : Side F session told' before bs' es' later' C'.call_end = record { legal = S'.legal; stays = S'.stays; recorded = S'.recorded; full = full-called (before ++ es') C'.call_end end' C'.ends S'.full } in
          let r = calls op C.args before bs bs' es es' later later' C.call_end C'.call_end A B C.trace trace in
          (r.0, ends-alike C.call_end C'.call_end end end' C.ends C'.ends r.1)

      unless-one : (b : Bool) (op : ℕ) (vs : List (ValueOver Handle M)) (before : List (Entry O M)) (bs bs' : List (BoardEvent O M)) (es es' later later' : List (Entry O M)) (end end' : StepEnd M)
          → Side F session told before bs es later end → Side F session told' before bs' es' later' end' → MatchBool b ((bs ≡ []) × (end ≡ Ok none)) (CallTrace T op vs bs end)
          → MatchBool b ((bs' ≡ []) × (end' ≡ Ok none)) (CallTrace T' op vs bs' end') → Alike es es' end end'
      unless-one true op vs before bs bs' es es' later later' end end' S S' h k = silent before bs bs' es es' later later' end end' S S' h.0 k.0 (ap bare (h.1 ∙ sym k.1))
      unless-one false op vs before bs bs' es es' later later' end end' S S' h k = call-one op vs before bs bs' es es' later later' end end' S S' h k

      step-one : (s : Step) (vs : List (ValueOver Handle M)) (before : List (Entry O M)) (bs bs' : List (BoardEvent O M)) (es es' later later' : List (Entry O M)) (end end' : StepEnd M)
          → Side F session told before bs es later end → Side F session told' before bs' es' later' end' → StepTrace p T s vs bs end → StepTrace p T' s vs bs' end' → Alike es es' end end'
      step-one (Call op xs) vs before bs bs' es es' later later' end end' S S' h k = unless-one (has_none (all_at vs xs)) op.0 (all_at vs xs) before bs bs' es es' later later' end end' S S' h k
      step-one (Src x) vs before bs bs' es es' later later' end end' S S' h k = silent before bs bs' es es' later later' end end' S S' h.0 k.0 (ap bare (h.1 ∙ sym k.1))
      step-one (Tgt x) vs before bs bs' es es' later later' end end' S S' h k = silent before bs bs' es es' later later' end end' S S' h.0 k.0 (ap bare (h.1 ∙ sym k.1))
      step-one (Part x n) vs before bs bs' es es' later later' end end' S S' h k = silent before bs bs' es es' later later' end end' S S' h.0 k.0 (ap bare (h.1 ∙ sym k.1))
      step-one MinusOne vs before bs bs' es es' later later' end end' S S' h k = silent before bs bs' es es' later later' end end' S S' h.0 k.0 (ap bare (h.1 ∙ sym k.1))
      step-one (Exists x) vs before bs bs' es es' later later' end end' S S' h k = silent before bs bs' es es' later later' end end' S S' h.0 k.0 (ap bare (h.1 ∙ sym k.1))
      step-one (Both x y) vs before bs bs' es es' later later' end end' S S' h k = silent before bs bs' es es' later later' end end' S S' h.0 k.0 (ap bare (h.1 ∙ sym k.1))
      step-one (When x y) vs before bs bs' es es' later later' end end' S S' h k = silent before bs bs' es es' later later' end end' S S' h.0 k.0 (ap bare (h.1 ∙ sym k.1))
      step-one (Tuple xs) vs before bs bs' es es' later later' end end' S S' h k = silent before bs bs' es es' later later' end end' S S' h.0 k.0 (ap bare (h.1 ∙ sym k.1))

      -- how a step's refusal ends the whole
      full-after : (K : ValueOver Handle M → Type 0) (es front back : List (Entry O M)) (before : List (Entry O M)) (more : List (BoardEvent O M)) (w end : StepEnd M) → es ≡ front ++ back → Recorded session more back
          → AfterStep more w end K → FullAt F session (before ++ es) end → FullAt F session (before ++ front) w
      full-after K es front back before more (Ok v) end e r h f = tt
      full-after K es front back before more (Err x) end e r h f =
          let none = no-entry session more back h.0 r in
          let own : es ≡ front = e ∙ ap (λ y. front ++ y) none ∙ append-nil front in
          subst (λ y. FullAt F session {A = ValueOver Handle M} (before ++ y) (Err x)) own (subst (FullAt F session {A = ValueOver Handle M} (before ++ es)) h.1 f)

      steps-one : (ss : List Step) (vs : List (ValueOver Handle M)) (x : Var) (before : List (Entry O M)) (bs bs' : List (BoardEvent O M)) (es es' later later' : List (Entry O M)) (end end' : StepEnd M)
          → Side F session told before bs es later end → Side F session told' before bs' es' later' end' → StepsTrace p T ss vs x bs end → StepsTrace p T' ss vs x bs' end' → Alike es es' end end'
      steps-one [] vs x before bs bs' es es' later later' end end' S S' h k = silent before bs bs' es es' later later' end end' S S' h.0 k.0 (ap bare (h.1 ∙ sym k.1))
      steps-one (s ∷ ss) vs x before bs bs' es es' later later' end end' S S' (first, more, w, e, h, k) (first', more', w', e', h', k') =
          let P = recorded-parts session first more es (subst (λ y. Recorded session y es) e S.recorded) in
          let P' = recorded-parts session first' more' es' (subst (λ y. Recorded session y es') e' S'.recorded) in
          let A = first-side F session told before bs first es P.0 P.1 later end w S P.2 P.3 (full-after (λ v. StepsTrace p T ss (vs ++ v ∷ []) x more end) es P.0 P.1 before more w end P.2 P.4 k S.full) in
          let A' = first-side F session told' before bs' first' es' P'.0 P'.1 later' end' w' S' P'.2 P'.3 (full-after (λ v. StepsTrace p T' ss (vs ++ v ∷ []) x more' end') es' P'.0 P'.1 before more' w' end' P'.2 P'.4 k' S'.full) in
          let B = second-side F session told before bs more es P.0 P.1 later end S P.2 P.4 in
          let B' = second-side F session told' before bs' more' es' P'.0 P'.1 later' end' S' P'.2 P'.4 in
          let r = step-one s vs before first first' P.0 P'.0 (P.1 ++ later) (P'.1 ++ later') w w' A A' h h' in
          rest (λ v front back back' A A' u t. steps-one ss (vs ++ v ∷ []) x (before ++ front) more more' back back' later later' end end' A A' u t) w w' r.1 k k' P.0 P'.0 P.1 P'.1 r.0 P.2 P'.2 P.4 P'.4 B B'
        where
          rest : ((v : ValueOver Handle M) (front back back' : List (Entry O M)) → Side F session told (before ++ front) more back later end → Side F session told' (before ++ front) more' back' later' end'
              → StepsTrace p T ss (vs ++ v ∷ []) x more end → StepsTrace p T' ss (vs ++ v ∷ []) x more' end' → Alike back back' end end') → (w w' : StepEnd M) → bare w ≡ bare w' → AfterStep more w end (λ v. StepsTrace p T ss (vs ++ v ∷ []) x more end) → AfterStep more' w' end' (λ v. StepsTrace p T' ss (vs ++ v ∷ []) x more' end')
              → (front front' back back' : List (Entry O M)) → front ≡ front' → es ≡ front ++ back → es' ≡ front' ++ back' → Recorded session more back → Recorded session more' back'
              → Side F session told (before ++ front) more back later end → Side F session told' (before ++ front') more' back' later' end' → Alike es es' end end'
          rest again (Ok v) (Ok v') q k k' front front' back back' f e e' r r' B B' =
              let k2 : StepsTrace p T' ss (vs ++ v ∷ []) x more' end' = subst (λ y. StepsTrace p T' ss (vs ++ y ∷ []) x more' end') (sym (ok-inner v v' q)) k' in
              let B2 : Side F session told' (before ++ front) more' back' later' end' = subst (λ y. Side F session told' (before ++ y) more' back' later' end') (sym f) B' in
              let R = again v front back back' B B2 k k2 in
              (e ∙ ap (λ y. y ++ back) f ∙ ap (λ y. front' ++ y) R.0 ∙ sym e', R.1)
          rest again (Err a) (Err a') q k k' front front' back back' f e e' r r' B B' =
              let none = no-entry session more back k.0 r ∙ sym (no-entry session more' back' k'.0 r') in
              (e ∙ ap (λ y. y ++ back) f ∙ ap (λ y. front' ++ y) none ∙ sym e', ap bare k.1 ∙ q ∙ ap bare (sym k'.1))
          rest again (Ok v) (Err a') q k k' front front' back back' f e e' r r' B B' = absurd (ok≢err v (bare_refusal a') q)
          rest again (Err a) (Ok v') q k k' front front' back back' f e e' r r' B B' = absurd (ok≢err v' (bare_refusal a) (sym q))

      -- a body, and the put of its value
      body-parts : (op : ℕ) (args : List (Arg M)) (body : List (BoardEvent O M)) (w : StepEnd M) (bs : List (BoardEvent O M)) (end : CallEnd M) (es before : List (Entry O M)) → AfterBody op args body w bs end → Recorded session bs es
          → FullAt F session (before ++ es) end → (front : List (Entry O M)) × (back : List (Entry O M)) × (es ≡ front ++ back) × Recorded session body front × FullAt F session (before ++ front) w
      body-parts op args body (Err e) bs end es before h r f = (es, [], sym (append-nil es), subst (λ y. Recorded session y es) h.0 r, refused-step (before ++ es) e (subst (FullAt F session (before ++ es)) h.1 f))
      body-parts op args body (Ok v) bs end es before (given, more, fresh, out, e, put) r f = let P = recorded-parts session body more es (subst (λ y. Recorded session y es) e r) in (P.0, P.1, P.2, P.3, tt)

      rule-one : (r : Option Rule) (op : ℕ) (args : List (Arg M)) (before : List (Entry O M)) (bs bs' : List (BoardEvent O M)) (es es' later later' : List (Entry O M)) (end end' : CallEnd M)
          → Side F session told before bs es later end → Side F session told' before bs' es' later' end' → RuleTrace p T r op args bs end → RuleTrace p T' r op args bs' end' → Alike es es' end end'
      rule-one None op args before bs bs' es es' later later' end end' S S' h k = absurd h
      rule-one (Some r) op args before bs bs' es es' later later' end end' S S' (body, w, h, k) (body', w', h', k') =
          let P = body-parts op args body w bs end es before k S.recorded S.full in
          let P' = body-parts op args body' w' bs' end' es' before k' S'.recorded S'.full in
          let A = first-side F session told before bs body es P.0 P.1 later end w S P.2 P.3 P.4 in
          let A' = first-side F session told' before bs' body' es' P'.0 P'.1 later' end' w' S' P'.2 P'.3 P'.4 in
          let R = steps-one r.body.steps (arguments args) r.body.answer before body body' P.0 P'.0 (P.1 ++ later) (P'.1 ++ later') w w' A A' h h' in
          rest w w' R.1 h h' k k'
        where
          rest : (w w' : StepEnd M) → bare w ≡ bare w' → StepsTrace p T r.body.steps (arguments args) r.body.answer body w → StepsTrace p T' r.body.steps (arguments args) r.body.answer body' w'
              → AfterBody op args body w bs end → AfterBody op args body' w' bs' end' → Alike es es' end end'
          rest (Err a) (Err a') q h h' k k' =
              let r1 = subst (λ y. Recorded session y es) k.0 S.recorded in
              let r2 = subst (λ y. Recorded session y es') k'.0 S'.recorded in
              let A = first-side F session told before bs body es es [] later end (Err a) S (sym (append-nil es)) r1 (refused-step (before ++ es) a (subst (FullAt F session (before ++ es)) k.1 S.full)) in
              let A' = first-side F session told' before bs' body' es' es' [] later' end' (Err a') S' (sym (append-nil es')) r2 (refused-step (before ++ es') a' (subst (FullAt F session (before ++ es')) k'.1 S'.full)) in
              let R = steps-one r.body.steps (arguments args) r.body.answer before body body' es es' later later' (Err a) (Err a') A A' h h' in
              (R.0, ap bare k.1 ∙ (ap (λ x. Err x) (err-inner (bare_refusal a) (bare_refusal a') q) ∙ ap bare (sym k'.1)))
          rest (Ok v) (Ok v') q h h' (given, more, fresh, out, e, put) (given', more', fresh', out', e', put') =
              let P = recorded-parts session body more es (subst (λ y. Recorded session y es) e S.recorded) in
              let P' = recorded-parts session body' more' es' (subst (λ y. Recorded session y es') e' S'.recorded) in
              let A = first-side F session told before bs body es P.0 P.1 later end (Ok v) S P.2 P.3 tt in
              let A' = first-side F session told' before bs' body' es' P'.0 P'.1 later' end' (Ok v') S' P'.2 P'.3 tt in
              let R = steps-one r.body.steps (arguments args) r.body.answer before body body' P.0 P'.0 (P.1 ++ later) (P'.1 ++ later') (Ok v) (Ok v') A A' h h' in
              let B = second-side F session told before bs more es P.0 P.1 later end S P.2 P.4 in
              let B' = second-side F session told' before bs' more' es' P'.0 P'.1 later' end' S' P'.2 P'.4 in
              let B2 : Side F session told' (before ++ P.0) more' P'.1 later' end' = subst (λ y. Side F session told' (before ++ y) more' P'.1 later' end') (sym R.0) B' in
              let same : given ≡ given' = given-one given given' (fresh ∙ sym fresh') (out-one given.out given'.out (old v) out (out' ∙ ap (λ y. Some (old y)) (sym (ok-inner v v' q)))) in
              let Q = put-one op args given given' same (before ++ P.0) more more' P.1 P'.1 later later' end end' B B2 put put' in
              (P.2 ∙ ap (λ y. y ++ P.1) R.0 ∙ ap (λ y. P'.0 ++ y) Q.0 ∙ sym P'.2, Q.1)
          rest (Ok v) (Err a') q h h' k k' = absurd (ok≢err v (bare_refusal a') q)
          rest (Err a) (Ok v') q h h' k k' = absurd (ok≢err v' (bare_refusal a) (sym q))

    -- what follows one answer of an ask
    module _ (T T' : Tracer O M) (calls : TracesOne T T') (op : ℕ) (args : List (Arg M)) (data_of : List (ValueOver O M)) (tells : TellsAll told (arguments args) data_of) (tells' : TellsAll told' (arguments args) data_of) where
      after-one : (a : Asked M) (before : List (Entry O M)) (bs bs' : List (BoardEvent O M)) (es es' later later' : List (Entry O M)) (end end' : CallEnd M)
          → Side F session told before bs es later end → Side F session told' before bs' es' later' end' → AfterAsk F.offer F.rules told T op args a bs end → AfterAsk F.offer F.rules told' T' op args a bs' end' → Alike es es' end end'
      after-one (Hit v) before bs bs' es es' later later' end end' S S' h k = silent before bs bs' es es' later later' end end' S S' h.0 k.0 (ap bare (h.1 ∙ sym k.1))
      after-one NotFinal before bs bs' es es' later later' end end' S S' h k = silent before bs bs' es es' later later' end end' S S' h.0 k.0 (ap bare (h.1 ∙ sym k.1))
      after-one (Full n m) before bs bs' es es' later later' end end' S S' h k = silent before bs bs' es es' later later' end end' S S' h.0 k.0 (ap bare (h.1 ∙ sym k.1))
      after-one (Miss Missing) before bs bs' es es' later later' end end' S S' h k = silent before bs bs' es es' later later' end end' S S' h.0 k.0 (ap bare (h.1 ∙ sym k.1))
      after-one (Miss Prim) before bs bs' es es' later later' end end' S S' (inl h) (inl k) = silent before bs bs' es es' later later' end end' S S' h.3 k.3 (ap bare h.4 ∙ ap bare (sym k.4))
      after-one (Miss Prim) before bs bs' es es' later later' end end' S S' (inl h) (inr k) = absurd (prim-either F.offer one told' told op args data_of tells' tells k.0 h.0 h.1 k.1 h.2)
      after-one (Miss Prim) before bs bs' es es' later later' end end' S S' (inr h) (inl k) = absurd (prim-either F.offer one told told' op args data_of tells tells' h.0 k.0 k.1 h.1 k.2)
      after-one (Miss Prim) before bs bs' es es' later later' end end' S S' (inr h) (inr k) =
          put-one op args h.0 k.0 (prim-one F.offer one told told' op args data_of tells tells' h.0 k.0 h.1 k.1) before bs bs' es es' later later' end end' S S' h.2 k.2
      after-one (Miss (ByRule k)) before bs bs' es es' later later' end end' S S' h h' = rule-one (prime_of F.offer) T T' calls (rule_at F.rules k) op args before bs bs' es es' later later' end end' S S' h h'

    -- the ask of a key, and what follows
    module _ (T T' : Tracer O M) (calls : TracesOne T T') (op : ℕ) (args : List (Arg M)) (before : List (Entry O M)) (bs bs' : List (BoardEvent O M)) (later later' : List (Entry O M)) (end end' : CallEnd M)
        (a a' : Asked M) (more more' : List (BoardEvent O M)) (ev : bs ≡ asked op args a ∷ more) (ev' : bs' ≡ asked op args a' ∷ more')
        (after : AfterAsk F.offer F.rules told T op args a more end) (after' : AfterAsk F.offer F.rules told' T' op args a' more' end') where
      refused-ends : (a : Asked M) (more : List (BoardEvent O M)) → IsRefusedEvent {O = O} {M = M} (asked op args a) → (T : Tracer O M) (told : Handle → Option O) (end : CallEnd M)
          → AfterAsk F.offer F.rules told T op args a more end → FullAt F session (before ++ []) end → IsFull F.object_cells F.morphism_cells before × (bare end ≡ Err (refused_by.Full 0 0))
      refused-ends (Full n k) more r T told end h f =
          (subst (IsFull F.object_cells F.morphism_cells) (append-nil before) (subst (FullAt F session (before ++ [])) h.1 f), ap bare h.1)
      refused-ends (Hit v) more r T told end h f = absurd r
      refused-ends (Miss c) more r T told end h f = absurd r
      refused-ends NotFinal more r T told end h f = absurd r

      key-data : (e : Entry O M) (rest : List (Entry O M)) → Legal F (before ++ e ∷ rest) → e.event ≡ Ask (key_of op args) → (ds : List (ValueOver O M)) × TellsAll (told_in (objects before)) (arguments args) ds
      key-data e rest l is = let t : TrueEvent F.offer F.rules before (Ask (key_of op args)) = subst (TrueEvent F.offer F.rules before) is (legal-entry F before e rest l).is_true in (t.known.data_of, t.known.tells)

      behind : (told : Handle → Option O) (b : Asked M) (m bs : List (BoardEvent O M)) (e : Entry O M) (es later : List (Entry O M)) (end : CallEnd M) → bs ≡ asked op args b ∷ m → Side F session told before bs (e ∷ es) later end
          → Side F session told (before ++ e ∷ []) m es later end
      behind told b m bs e es later end ev S =
          second-side F session told before bs m (e ∷ es) (e ∷ []) es later end S refl (let r : Recorded session (asked op args b ∷ m) (e ∷ es) = subst (λ y. Recorded session y (e ∷ es)) ev S.recorded in r.2)

      asked-one : (es es' : List (Entry O M)) → Side F session told before bs es later end → Side F session told' before bs' es' later' end' → Alike es es' end end'
      asked-one (e ∷ es) (e' ∷ es') S S' =
          let r : Recorded session (asked op args a ∷ more) (e ∷ es) = subst (λ y. Recorded session y (e ∷ es)) ev S.recorded in
          let r' : Recorded session (asked op args a' ∷ more') (e' ∷ es') = subst (λ y. Recorded session y (e' ∷ es')) ev' S'.recorded in
          let is = asked-event e.event e.reply op args a r.1 in
          let is' = asked-event e'.event e'.reply op args a' r'.1 in
          let same = entry-one F are before e e' (es ++ later) (es' ++ later') S.legal S'.legal (r.0 ∙ sym r'.0) (is ∙ sym is') in
          let answer = asked-inner op args a a' (some_inner (sym r.1 ∙ ap (λ x. board_event x.event x.reply) same ∙ r'.1)) in
          let D = key-data e (es ++ later) S.legal is in
          let tells = all-kept (told_in (objects before)) told (λ h o q. S.stays h o (told-longer before (e ∷ (es ++ later)) h o q)) (arguments args) D.0 D.1 in
          let tells' = all-kept (told_in (objects before)) told' (λ h o q. S'.stays h o (told-longer before (e' ∷ (es' ++ later')) h o q)) (arguments args) D.0 D.1 in
          let A = behind told a more bs e es later end ev S in
          let A' : Side F session told' (before ++ e ∷ []) more' es' later' end' = subst (λ y. Side F session told' (before ++ y ∷ []) more' es' later' end') (sym same) (behind told' a' more' bs' e' es' later' end' ev' S') in
          let h : AfterAsk F.offer F.rules told' T' op args a more' end' = subst (λ y. AfterAsk F.offer F.rules told' T' op args y more' end') (sym answer) after' in
          let R = after-one T T' calls op args D.0 tells tells' a (before ++ e ∷ []) more more' es es' later later' end end' A A' after h in
          (ap (λ y. y ∷ es) same ∙ ap (λ y. e' ∷ y) R.0, R.1)
      asked-one [] [] S S' =
          let r = refused session (asked op args a) more (subst (λ y. Recorded session y []) ev S.recorded) in
          let r' = refused session (asked op args a') more' (subst (λ y. Recorded session y []) ev' S'.recorded) in
          (refl, (refused-ends a more r T told end after S.full).1 ∙ sym (refused-ends a' more' r' T' told' end' after' S'.full).1)
      asked-one [] (e' ∷ es') S S' =
          let r = refused session (asked op args a) more (subst (λ y. Recorded session y []) ev S.recorded) in
          absurd (no-room F before (refused-ends a more r T told end after S.full).0 (legal-entry F before e' (es' ++ later') S'.legal).room)
      asked-one (e ∷ es) [] S S' =
          let r' = refused session (asked op args a') more' (subst (λ y. Recorded session y []) ev' S'.recorded) in
          absurd (no-room F before (refused-ends a' more' r' T' told' end' after' S'.full).0 (legal-entry F before e (es ++ later) S.legal).room)

    pub trace-one : (n m : ℕ) → TracesOne (TraceWithin F.offer F.rules told n) (TraceWithin F.offer F.rules told' m)
    trace-one zero m op args before bs bs' es es' later later' end end' S S' h k = absurd h
    trace-one (suc n) zero op args before bs bs' es es' later later' end end' S S' h k = absurd k
    trace-one (suc n) (suc m) op args before bs bs' es es' later later' end end' S S' (inl h) (inl k) =
        silent before bs bs' es es' later later' end end' S S' h.2 k.2 (ap bare (h.3 ∙ ap (λ x. Err (refused_by.Mismatch x)) (mismatch-one (places_of op args) h.0 k.0 h.1 k.1) ∙ sym k.3))
    trace-one (suc n) (suc m) op args before bs bs' es es' later later' end end' S S' (inl h) (inr k) = absurd (fits-right (prime_of F.offer) op args h.0 k.0 h.1)
    trace-one (suc n) (suc m) op args before bs bs' es es' later later' end end' S S' (inr h) (inl k) = absurd (fits-right (prime_of F.offer) op args k.0 h.0 k.1)
    trace-one (suc n) (suc m) op args before bs bs' es es' later later' end end' S S' (inr h) (inr k) =
        asked-one (TraceWithin F.offer F.rules told n) (TraceWithin F.offer F.rules told' m)
        (λ op2 args2 before2 bs2 bs2' es2 es2' later2 later2' end2 end2' A A' u v. trace-one n m op2 args2 before2 bs2 bs2' es2 es2' later2 later2' end2 end2' A A' u v)
        op args before bs bs' later later' end end' h.1 k.1 h.2 k.2 h.3 k.3 h.4 k.4 es es' S S'
