-- What a body says of the board, from what its steps say.
use Rattle.std.proofs.Common.{◌≡◌, ℕ, suc, ◌+◌, ◌<◌, ◌≤◌, List, [], ◌∷◌, ◌++◌, Option, Some, Ok, Err, sym, subst, ◌∙◌, ap, refl, arith, inl, inr, drop, length, slice_index_or}
use Rattle.std.proofs.Math.Seq.{drop-cons}
use Rattle.std.proofs.Math.ListN.{drop_of_length-le}
use Rattle.cap_names.specs.declared.identifiers.Handle.{Handle}
use Rattle.cap_ops.specs.Values.{Fits}
use Rattle.cap_ops.specs.Arrows.{Between, ValueOver, over}
use Rattle.cap_ops.specs.Told.{Tells, TellsAll, Known, StaysTold}
use Rattle.cap_ops.specs.Primitives.{OfferData, prime_of}
use Rattle.cap_ops.proofs.Telling.{all-kept, all-same, tells-snoc, data-snoc}
use Rattle.cap_terms.specs.declared.body.Step.{Step}
use Rattle.cap_terms.specs.declared.body.Step.TheVariants.{Call, Src, Tgt, Part, MinusOne, Exists, Both, When, Tuple}
use Rattle.cap_terms.specs.declared.body.Rule.{Rule}
use Rattle.cap_terms.specs.Run.{done, at, all_at, StepGives, StepsGive, ComesTo}
use Rattle.cap_terms.specs.Ends.{EndsGive, NeverMismatches}
use Rattle.cap_terms.specs.Typing.{Typed}
use Rattle.cap_run.specs.Plans.{bound, StepsBelow, IsPlanOf}
use Rattle.cap_run.specs.Runs.{RunWithin}
use Rattle.cap_board.specs.declared.refusals.CallRefusal.{CallRefusal}
use Rattle.cap_board.specs.declared.refusals.CallRefusal.TheVariants.{Mismatch, NotFinal, Missing, TooLarge, Full, NoMemory}
use Rattle.cap_board.specs.Board.{Event, BoardState, Grows}
use Rattle.cap_board.specs.Trace.{StepEnd, StepTrace, StepsTrace, TraceWithin}
use Rattle.cap_board.specs.Call.{depth, Chosen, StepFits, BodyTraced, BodyGood, BodySays, StepTraced, StepGood, StepSays}
use Rattle.cap_board.proofs.Told.{tells-at, datum-at}
use Rattle.cap_board.proofs.Traces.{step-kept, trace-kept}
use Rattle.cap_board.proofs.LoopSays.{LoopSays}
use Rattle.cap_board.proofs.StepsSay.{append-nil, append-assoc, some-plan, depth-known}

-- the rest of a list from an item on
pub rest-from : (xs ys : List Step) (i : ℕ) (x : Step) → ys ≡ xs → i < length ys → x ≡ slice_index_or ys i x → drop i xs ≡ x ∷ drop (i + 1) xs
rest-from xs ys i x e inside h = subst (λ zs. drop i zs ≡ x ∷ drop (i + 1) zs) e (let e1 : suc i ≡ i + 1 = omega arith in subst (λ n. drop i ys ≡ x ∷ drop n ys) e1 (subst (λ y. drop i ys ≡ y ∷ drop (suc i) ys) (sym h) (drop-cons ys i x inside)))

pub rest-none : (xs ys : List Step) (i : ℕ) → ys ≡ xs → length ys ≤ i → drop i xs ≡ []
rest-none xs ys i e past = subst (λ zs. drop i zs ≡ []) e (drop_of_length-le ys past)

module _ {X O M : Type 0} where
  pub grows-none : (s : BoardState X O M) (told : Handle → Option O) → Grows s told s told
  grows-none s told = record { offer = refl; rules = refl; stays = λ h o e. e; plan = λ p e. e }

  pub grows-more : (s1 : BoardState X O M) (told1 : Handle → Option O) (s2 : BoardState X O M) (told2 : Handle → Option O) (s3 : BoardState X O M) (told3 : Handle → Option O) → Grows s1 told1 s2 told2 → Grows s2 told2 s3 told3 → Grows s1 told1 s3 told3
  grows-more s1 told1 s2 told2 s3 told3 g h = record { offer = h.offer ∙ g.offer; rules = h.rules ∙ g.rules; stays = λ k o e. h.stays k o (g.stays k o e); plan = λ p e. h.plan p (g.plan p e) }

module _ {X O M : Type 0} (D : OfferData O M) (r : Rule) (args : List (ValueOver Handle M)) (s0 : BoardState X O M) (told0 : Handle → Option O) where
  pub loop-init : (env : List (ValueOver Handle M)) → env ≡ args → Chosen D s0 r.cost.head.0 r.body.steps → Known D.category told0 args → LoopSays D r args s0 told0 0 env s0 told0
  loop-init env e chosen known = record {
    grows = grows-none s0 told0;
    p = chosen.p;
    planned = chosen.planned;
    below = chosen.below;
    added = [];
    events = sym (append-nil s0.events);
    trace = λ told' stays more end h. subst (λ vs. StepsTrace (prime_of D) (TraceWithin D s0.rules told' (bound chosen.p r.cost.head.0)) r.body.steps vs r.body.answer more end) e h;
    data_of = known.data_of;
    tells_args = known.tells;
    values = known.data_of;
    tells = subst (λ vs. TellsAll told0 vs known.data_of) (sym e) known.tells;
    are = known.are;
    runs = λ out h. h;
    ends = λ out h. subst (λ vs. StepsGive (over (prime_of D)) (EndsGive (over (prime_of D))) r.body.steps vs r.body.answer out) e h;
    comes = λ op called h. subst (λ vs. ComesTo (over (prime_of D)) (EndsGive (over (prime_of D))) r.body.steps vs op called) e h;
  }

  module _ (i : ℕ) (env : List (ValueOver Handle M)) (s : BoardState X O M) (told : Handle → Option O) (l : LoopSays D r args s0 told0 i env s told) where
    plan-now : s.plan ≡ Some l.p
    plan-now = l.grows.plan l.p l.planned.is

    pub loop-chosen : (x : Step) (rest : List Step) → drop i r.body.steps ≡ x ∷ rest → Chosen D s r.cost.head.0 (x ∷ [])
    loop-chosen x rest here = record {
      p = l.p;
      planned = record { is = plan-now; is_plan = subst (λ rs. IsPlanOf D rs l.p) (sym l.grows.rules) l.planned.is_plan };
      below = ((subst (StepsBelow l.p (bound l.p r.cost.head.0)) here l.below).0, tt);
    }

    pub loop-known : Known D.category told env
    loop-known = record { data_of = l.values; tells = l.tells; are = l.are }

    -- a typed body comes to no call whose arguments do not fit
    pub loop-fits : Typed r.cost.head.0 r.body → Fits (over (prime_of D)) r.cost.head.0 args → NeverMismatches {Obj = Handle} {Mor = Between Handle M} (over (prime_of D)) r.cost.head.0 r.body → (x : Step) (rest : List Step) → drop i r.body.steps ≡ x ∷ rest → StepFits (prime_of D) x env
    loop-fits typed fits never (Call op xs) rest here = λ some. never.calls_fit typed args fits op.0 (all_at env xs) (l.comes op.0 (all_at env xs) (subst (λ ss. ComesTo (over (prime_of D)) (EndsGive (over (prime_of D))) ss env op.0 (all_at env xs)) (sym here) (inl (refl, refl, some))))
    loop-fits typed fits never (Src x) rest here = tt
    loop-fits typed fits never (Tgt x) rest here = tt
    loop-fits typed fits never (Part x n) rest here = tt
    loop-fits typed fits never MinusOne rest here = tt
    loop-fits typed fits never (Exists x) rest here = tt
    loop-fits typed fits never (Both x y) rest here = tt
    loop-fits typed fits never (When x y) rest here = tt
    loop-fits typed fits never (Tuple xs) rest here = tt

    pub loop-done : drop i r.body.steps ≡ [] → (v : ValueOver Handle M) → v ≡ at env r.body.answer → BodyTraced D s0 s told r args (Ok v) × BodyGood D s0 told r args v
    loop-done here v e = (
      record {
        added = l.added;
        events = l.events;
        trace =
            let start : StepsTrace (prime_of D) (TraceWithin D s0.rules told (bound l.p r.cost.head.0)) (drop i r.body.steps) env r.body.answer [] (Ok v) = subst (λ ss. StepsTrace (prime_of D) (TraceWithin D s0.rules told (bound l.p r.cost.head.0)) ss env r.body.answer [] (Ok v)) (sym here) (refl, ap Ok e) in
            let all = l.trace told (λ h o k. k) [] (Ok v) start in
            subst (λ n. StepsTrace (prime_of D) (TraceWithin D s0.rules told n) r.body.steps args r.body.answer l.added (Ok v)) (sym (depth-known s0.plan l.p r.cost.head.0 l.planned.is)) (subst (λ es. StepsTrace (prime_of D) (TraceWithin D s0.rules told (bound l.p r.cost.head.0)) r.body.steps args r.body.answer es (Ok v)) (append-nil l.added) all);
      },
      record {
        p = l.p;
        planned = l.planned;
        data_of = l.data_of;
        out = at l.values r.body.answer;
        tells_values = l.tells_args;
        tells = subst (λ w. Tells told w (at l.values r.body.answer)) (sym e) (tells-at told env l.values r.body.answer l.tells);
        is_datum = datum-at D.category l.values r.body.answer l.are;
        runs = l.runs (done (at l.values r.body.answer)) (subst (λ ss. StepsGive (over (prime_of D)) (RunWithin D s0.rules l.p (bound l.p r.cost.head.0)) ss l.values r.body.answer (done (at l.values r.body.answer))) (sym here) refl);
        ends = l.ends (done v) (subst (λ ss. StepsGive (over (prime_of D)) (EndsGive (over (prime_of D))) ss env r.body.answer (done v)) (sym here) (ap done e));
      },
    )

    module _ (x : Step) (rest : List Step) (here : drop i r.body.steps ≡ x ∷ rest) (s' : BoardState X O M) (told' : Handle → Option O) (g : Grows s told s' told') where
      pub loop-grows : Grows s0 told0 s' told'
      loop-grows = grows-more s0 told0 s told s' told' l.grows g

      lifted : (end : StepEnd M) (t : StepTraced D s s' told' r.cost.head.0 x env end) → StepTrace (prime_of D) (TraceWithin D s0.rules told' (bound l.p r.cost.head.0)) x env t.added end
      lifted end t = subst (λ n. StepTrace (prime_of D) (TraceWithin D s0.rules told' n) x env t.added end) (depth-known s.plan l.p r.cost.head.0 plan-now) (subst (λ rs. StepTrace (prime_of D) (TraceWithin D rs told' (depth s.plan r.cost.head.0)) x env t.added end) l.grows.rules t.trace)

      added-events : (end : StepEnd M) (t : StepTraced D s s' told' r.cost.head.0 x env end) → s'.events ≡ s0.events ++ (l.added ++ t.added)
      added-events end t = t.events ∙ (ap (λ es. es ++ t.added) l.events ∙ append-assoc s0.events l.added t.added)

      later : (told'' : Handle → Option O) → StaysTold told' told'' → (events : List (Event O M)) (end : StepEnd M) → StepTrace (prime_of D) (TraceWithin D s0.rules told' (bound l.p r.cost.head.0)) x env events end → StepTrace (prime_of D) (TraceWithin D s0.rules told'' (bound l.p r.cost.head.0)) x env events end
      later told'' stays events end h = step-kept (prime_of D) (TraceWithin D s0.rules told' (bound l.p r.cost.head.0)) (TraceWithin D s0.rules told'' (bound l.p r.cost.head.0)) (λ o a e u. trace-kept D s0.rules told' told'' stays (bound l.p r.cost.head.0) (bound l.p r.cost.head.0) (omega arith) o a e u) x env events end h

      loop-refused : (e : CallRefusal) → StepTraced D s s' told' r.cost.head.0 x env (Err e) → BodyTraced D s0 s' told' r args (Err e)
      loop-refused e t = record {
        added = l.added ++ t.added;
        events = added-events (Err e) t;
        trace =
            let start : StepsTrace (prime_of D) (TraceWithin D s0.rules told' (bound l.p r.cost.head.0)) (x ∷ rest) env r.body.answer t.added (Err e) = (t.added, [], Err e, sym (append-nil t.added), lifted (Err e) t, (refl, refl)) in
            let all = l.trace told' g.stays t.added (Err e) (subst (λ ss. StepsTrace (prime_of D) (TraceWithin D s0.rules told' (bound l.p r.cost.head.0)) ss env r.body.answer t.added (Err e)) (sym here) start) in
            subst (λ n. StepsTrace (prime_of D) (TraceWithin D s0.rules told' n) r.body.steps args r.body.answer (l.added ++ t.added) (Err e)) (sym (depth-known s0.plan l.p r.cost.head.0 l.planned.is)) all;
      }

      pub refused-says : (e : CallRefusal) → StepSays D s s' told' r.cost.head.0 x env (Err e) → BodySays D s0 s' told' r args (Err e)
      refused-says NoMemory t = tt
      refused-says (Missing o) t = absurd t
      refused-says (Mismatch m) t = loop-refused (Mismatch m) t
      refused-says NotFinal t = loop-refused NotFinal t
      refused-says (TooLarge k) t = loop-refused (TooLarge k) t
      refused-says (Full n k) t = loop-refused (Full n k) t

      pub loop-step : (v : ValueOver Handle M) → drop (i + 1) r.body.steps ≡ rest → StepTraced D s s' told' r.cost.head.0 x env (Ok v) × StepGood D s told' r.cost.head.0 x env v → LoopSays D r args s0 told0 (i + 1) (env ++ v ∷ []) s' told'
      loop-step v after (t, d) =
          let same = some-plan s.plan d.p l.p d.planned.is plan-now in
          let tells = all-kept told told' g.stays env l.values l.tells in
          let ins = all-same told' env d.data_of l.values d.tells_values tells in
          let runs0 = subst (λ rs. StepGives (over (prime_of D)) (RunWithin D rs d.p (bound d.p r.cost.head.0)) x d.data_of (done d.out)) l.grows.rules d.runs in
          let runs1 = subst (λ q. StepGives (over (prime_of D)) (RunWithin D s0.rules q (bound q r.cost.head.0)) x d.data_of (done d.out)) same runs0 in
          let runs2 = subst (λ ds. StepGives (over (prime_of D)) (RunWithin D s0.rules l.p (bound l.p r.cost.head.0)) x ds (done d.out)) ins runs1 in
          record {
            grows = loop-grows;
            p = l.p;
            planned = l.planned;
            below = subst (StepsBelow l.p (bound l.p r.cost.head.0)) (sym after) (subst (StepsBelow l.p (bound l.p r.cost.head.0)) here l.below).1;
            added = l.added ++ t.added;
            events = added-events (Ok v) t;
            trace = λ told'' stays more end h.
                let tail = subst (λ ss. StepsTrace (prime_of D) (TraceWithin D s0.rules told'' (bound l.p r.cost.head.0)) ss (env ++ v ∷ []) r.body.answer more end) after h in
                let start : StepsTrace (prime_of D) (TraceWithin D s0.rules told'' (bound l.p r.cost.head.0)) (x ∷ rest) env r.body.answer (t.added ++ more) end = (t.added, more, Ok v, refl, later told'' stays t.added (Ok v) (lifted (Ok v) t), tail) in
                let all = l.trace told'' (λ k o e. stays k o (g.stays k o e)) (t.added ++ more) end (subst (λ ss. StepsTrace (prime_of D) (TraceWithin D s0.rules told'' (bound l.p r.cost.head.0)) ss env r.body.answer (t.added ++ more) end) (sym here) start) in
                subst (λ es. StepsTrace (prime_of D) (TraceWithin D s0.rules told'' (bound l.p r.cost.head.0)) r.body.steps args r.body.answer es end) (sym (append-assoc l.added t.added more)) all;
            data_of = l.data_of;
            tells_args = all-kept told told' g.stays args l.data_of l.tells_args;
            values = l.values ++ d.out ∷ [];
            tells = tells-snoc told' env l.values v d.out tells d.tells;
            are = data-snoc D.category l.values d.out l.are d.is_datum;
            runs = λ out h. l.runs out (subst (λ ss. StepsGive (over (prime_of D)) (RunWithin D s0.rules l.p (bound l.p r.cost.head.0)) ss l.values r.body.answer out) (sym here) (done d.out, runs2, subst (λ ss. StepsGive (over (prime_of D)) (RunWithin D s0.rules l.p (bound l.p r.cost.head.0)) ss (l.values ++ d.out ∷ []) r.body.answer out) after h));
            ends = λ out h. l.ends out (subst (λ ss. StepsGive (over (prime_of D)) (EndsGive (over (prime_of D))) ss env r.body.answer out) (sym here) (done v, d.ends, subst (λ ss. StepsGive (over (prime_of D)) (EndsGive (over (prime_of D))) ss (env ++ v ∷ []) r.body.answer out) after h));
            comes = λ op called h. l.comes op called (subst (λ ss. ComesTo (over (prime_of D)) (EndsGive (over (prime_of D))) ss env op called) (sym here) (inr (v, d.ends, subst (λ ss. ComesTo (over (prime_of D)) (EndsGive (over (prime_of D))) ss (env ++ v ∷ []) op called) after h)));
          }
