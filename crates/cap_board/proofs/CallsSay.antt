-- What a call says of the board, from what its body and its put say.
use Rattle.std.proofs.Common.{◌≡◌, ℕ, zero, suc, ◌-◌, ◌^◌, ◌<◌, ◌≤◌, List, [], ◌∷◌, ◌++◌, ◌⊎◌, Option, Some, None, Ok, Err, sym, subst, ◌∙◌, ap, refl, arith, inl, inr}
use Rattle.std.specs.Prelude.{slice_get, option_map}
use Rattle.std.specs.List.{All}
use Rattle.std.proofs.lemmas.List.Elements.{All-head, All-tail}
use Rattle.cap_names.specs.declared.identifiers.Handle.{Handle}
use Rattle.cap_names.specs.declared.identifiers.RuleNo.{RuleNo}
use Rattle.cap_ops.specs.declared.arrows.End.TheVariants.{Old}
use Rattle.cap_ops.specs.declared.ends.Ends.{Ends}
use Rattle.cap_ops.specs.declared.ends.Shape.{Shape}
use Rattle.cap_ops.specs.declared.ends.Shape.TheVariants.{Object, Morphism, Two, Four, Truth, Scalar}
use Rattle.cap_ops.specs.declared.keys.Arg.{Arg}
use Rattle.cap_ops.specs.declared.keys.PrimOut.{PrimOut}
use Rattle.cap_ops.specs.declared.plans.Choice.TheVariants.{Prim, Rule as ByRule}
use Rattle.cap_ops.specs.declared.plans.Plan.{Plan}
use Rattle.cap_ops.specs.Ends.{profile_of}
use Rattle.cap_ops.specs.Values.{object, morphism, two, four, truth, scalar, none, HasEnds, HasShape, HaveShapes, Fits, FitsWithAnswer}
use Rattle.cap_ops.specs.Arrows.{Between, ValueOver, over, arguments, old, olds, out_value}
use Rattle.cap_ops.specs.Told.{TellsArrow, Tells, TellsAll, AreData, AreObjects, Known, StaysTold, end_object}
use Rattle.cap_ops.specs.Primitives.{OfferData, prime_of, PrimAnswers, PrimIsLarge}
use Rattle.cap_ops.proofs.Telling.{all-same}
use Rattle.cap_ops.proofs.Places.{none≢some, some_inner}
use Rattle.cap_terms.specs.declared.body.Rule.{Rule}
use Rattle.cap_terms.specs.Run.{done, nth_from_one, StepsGive}
use Rattle.cap_terms.specs.Ends.{NeverMismatches}
use Rattle.cap_terms.specs.Typing.{Typed}
use Rattle.cap_run.specs.Plans.{bound, rule_at, AreRules, StepsBelow, IsChosen, IsTruePlan, IsPlanOf}
use Rattle.cap_run.specs.Runs.{RuleGives, ChoiceGives, RunWithin, Run}
use Rattle.cap_run.specs.Puts.{Good, FreshBy}
use Rattle.cap_run.proofs.TruePlans.{plans-are-true}
use Rattle.cap_board.specs.declared.answers.Asked.TheVariants.{Miss}
use Rattle.cap_board.specs.declared.answers.PutAnswer.{PutAnswer}
use Rattle.cap_board.specs.declared.answers.PutAnswer.TheVariants.{Entry, Full as PutFull}
use Rattle.cap_board.specs.declared.refusals.CallRefusal.{CallRefusal}
use Rattle.cap_board.specs.declared.refusals.CallRefusal.TheVariants.{Mismatch as MismatchRefusal, NotFinal, Missing, TooLarge, Full, NoMemory}
use Rattle.cap_board.specs.Board.{Event, asked, kept, BoardState, Grows, Asks, Puts, MayPut}
use Rattle.cap_board.specs.Trace.{CallEnd, StepEnd, too_large, put_end, StepsTrace, RuleTrace, AfterBody, AfterAsk, TraceWithin}
use Rattle.cap_board.specs.Call.{depth, Traced, CallSays, Chosen, BodyTraced, BodyGood, BodySays, PutEnds}
use Rattle.cap_board.proofs.Traces.{steps-kept, trace-kept, prim-kept}
use Rattle.cap_board.proofs.StepsSay.{append-assoc, some-plan, depth-known}

All-at : {X : Type 0} (P : X → Type 0) (xs : List X) → All P xs → (i : ℕ) (x : X) → slice_get xs i ≡ Some x → P x
All-at P [] all i x e = absurd (none≢some e)
All-at P (y ∷ xs) all zero x e = subst P (some_inner e) (All-head P y xs all)
All-at P (y ∷ xs) all (suc i) x e = All-at P xs (All-tail P y xs all) i x e

nth-there : {X : Type 0} (xs : List X) (n : ℕ) (x : X) → nth_from_one xs n ≡ Some x → slice_get xs (n - 1) ≡ Some x
nth-there xs zero x e = absurd (none≢some e)
nth-there xs (suc n) x e = let k : suc n - 1 ≡ n = omega arith in ap (slice_get xs) k ∙ e

some-rule : (k : Option Rule) (p q : Rule) → k ≡ Some p → k ≡ Some q → p ≡ q
some-rule k p q h i = some_inner (sym h ∙ i)

depth-le : (op : ℕ) (k k' : Option Plan) (p : Plan) → ((q : Plan) → k ≡ Some q → k' ≡ Some q) → k' ≡ Some p → bound p op < 2 ^ 64 → depth k' op ≤ depth k op
depth-le op None k' p f e b = let d = depth-known k' p op e in omega (arith, d, b)
depth-le op (Some q) k' p f e b = let d = depth-known k' q op (f q refl) in omega (arith, d)

-- the data of values whose names are told are the category's, where those of some telling are
known-data : {O M : Type 0} (D : OfferData O M) (told : Handle → Option O) (vs : List (ValueOver Handle M)) (data_of : List (ValueOver O M)) → Known D.category told vs → TellsAll told vs data_of → AreData D.category data_of
known-data D told vs data_of known tells = subst (AreData D.category) (all-same told vs known.data_of data_of known.tells tells) known.are

-- values by handles as results
module _ {O M : Type 0} (told : Handle → Option O) (fresh : List O) where
  arrow-old : (f : Between Handle M) (g : Between O M) → TellsArrow told f g → TellsArrow (end_object told fresh) (record { src = Old f.src; tgt = Old f.tgt; value = f.value }) g
  arrow-old f g t = record { src = t.src; tgt = t.tgt; value = t.value }

  tells-old : (v : ValueOver Handle M) (d : ValueOver O M) → Tells told v d → Tells (end_object told fresh) (old v) d
  tells-old (object h) (object a) t = t
  tells-old (morphism f) (morphism g) t = arrow-old f g t
  tells-old (two f1 f2) (two g1 g2) t = (arrow-old f1 g1 t.0, arrow-old f2 g2 t.1)
  tells-old (four f1 f2 f3 f4) (four g1 g2 g3 g4) t = (arrow-old f1 g1 t.0, arrow-old f2 g2 t.1, arrow-old f3 g3 t.2, arrow-old f4 g4 t.3)
  tells-old (truth b) (truth c) t = t
  tells-old (scalar m) (scalar n) t = t
  tells-old none none t = t
  tells-old _ _ t = absurd t

module _ {M : Type 0} (p : ℕ) (f : ℕ → Option Handle) where
  ends-old : (e : Ends ℕ) (m : Between Handle M) → HasEnds (over p) f e m → HasEnds (over p) (λ x. option_map Old (f x)) e (record { src = Old m.src; tgt = Old m.tgt; value = m.value })
  ends-old e m h = (ap (option_map Old) h.0, ap (option_map Old) h.1)

  shape-old : (s : Shape ℕ) (v : ValueOver Handle M) → HasShape (over p) f s v → HasShape (over p) (λ x. option_map Old (f x)) s (old v)
  shape-old (Object x) (object a) h = ap (option_map Old) h
  shape-old (Morphism e) (morphism m) h = ends-old e m h
  shape-old (Two d e) (two m n) h = (ends-old d m h.0, ends-old e n h.1)
  shape-old (Four a b c d) (four m n k l) h = (ends-old a m h.0, ends-old b n h.1, ends-old c k h.2, ends-old d l h.3)
  shape-old Truth (truth b) h = tt
  shape-old Scalar (scalar n) h = tt
  shape-old (Object x) _ h = absurd h
  shape-old (Morphism e) _ h = absurd h
  shape-old (Two d e) _ h = absurd h
  shape-old (Four a b c d) _ h = absurd h
  shape-old Truth _ h = absurd h
  shape-old Scalar _ h = absurd h

  shapes-old : (ss : List (Shape ℕ)) (vs : List (ValueOver Handle M)) → HaveShapes (over p) f ss vs → HaveShapes (over p) (λ x. option_map Old (f x)) ss (olds vs)
  shapes-old [] [] h = tt
  shapes-old (s ∷ ss) (v ∷ vs) h = (shape-old s v h.0, shapes-old ss vs h.1)
  shapes-old [] (v ∷ vs) h = absurd h
  shapes-old (s ∷ ss) [] h = absurd h

fits-old : {M : Type 0} (p op : ℕ) (vs : List (ValueOver Handle M)) (v : ValueOver Handle M) → FitsWithAnswer (over p) op vs v → FitsWithAnswer (over p) op (olds vs) (old v)
fits-old p op vs v h = record {
  operation = h.operation;
  objects = λ x. option_map Old (h.objects x);
  arguments = shapes-old p h.objects (profile_of op).arguments vs h.arguments;
  answer = elim h.answer [ inl e ↦ inl (ap old e) | inr s ↦ inr (shape-old p h.objects (profile_of op).answer v s) ];
}

module _ {X O M : Type 0} (D : OfferData O M) (s : BoardState X O M) (told : Handle → Option O) (op : ℕ) (args : List (Arg M)) (fits : Fits (over (prime_of D)) op (arguments args)) (s1 : BoardState X O M) (told1 : Handle → Option O) where
  put-case : (s2 : BoardState X O M) (told2 : Handle → Option O) (given : PrimOut O M) (s3 : BoardState X O M) (told3 : Handle → Option O) (end : CallEnd M) → PutEnds D s2 told2 op args given s3 told3 end → (end ≡ Err NoMemory) ⊎ ((a : PutAnswer M) × Puts D s2 told2 op args given a s3 told3 × (end ≡ put_end a))
  put-case s2 told2 given s3 told3 (Ok v) h = inr (Entry v, h, refl)
  put-case s2 told2 given s3 told3 (Err NoMemory) h = inl refl
  put-case s2 told2 given s3 told3 (Err (Full n k)) h = inr (PutFull n k, h, refl)
  put-case s2 told2 given s3 told3 (Err (MismatchRefusal m)) h = absurd h
  put-case s2 told2 given s3 told3 (Err NotFinal) h = absurd h
  put-case s2 told2 given s3 told3 (Err (Missing o)) h = absurd h
  put-case s2 told2 given s3 told3 (Err (TooLarge t)) h = absurd h

  said : (s2 : BoardState X O M) (told2 : Handle → Option O) (given : PrimOut O M) (s3 : BoardState X O M) (told3 : Handle → Option O) → s3.rules ≡ s.rules → (a : PutAnswer M) → Puts D s2 told2 op args given a s3 told3 → Traced D s s3 told3 op args (put_end a) → CallSays D s s3 told3 op args (put_end a)
  said s2 told2 given s3 told3 e (Entry v) puts t = (t, (puts.says.0, puts.says.1, subst (λ rs. Good D rs puts.says.0 told3 op args v) e puts.says.2))
  said s2 told2 given s3 told3 e (PutFull n k) puts t = t

  pub prim-says : (asks : Asks D s told op args (Miss Prim) s1 told1) (given : PrimOut O M) → PrimAnswers D told1 op args given → (s3 : BoardState X O M) (told3 : Handle → Option O) → Grows s1 told1 s3 told3 → (end : CallEnd M) → PutEnds D s1 told1 op args given s3 told3 end → CallSays D s s3 told3 op args end
  prim-says asks given prim s3 told3 g end put =
      elim (put-case s1 told1 given s3 told3 end put) [
        | inl e ↦ subst (λ w. CallSays D s s3 told3 op args w) (sym e) tt
        | inr h ↦ subst (λ w. CallSays D s s3 told3 op args w) (sym h.2) (said s1 told1 given s3 told3 (g.rules ∙ asks.grows.rules) h.0 h.1 (record {
          added = asked op args (Miss Prim) ∷ kept op args given h.0 ∷ [];
          events = h.1.events ∙ (ap (λ es. es ++ kept op args given h.0 ∷ []) asks.events ∙ append-assoc s.events (asked op args (Miss Prim) ∷ []) (kept op args given h.0 ∷ []));
          trace = inr (fits, Miss Prim, kept op args given h.0 ∷ [], refl, inr (given, prim-kept D s.rules told1 told3 g.stays op args given prim, (h.0, refl, refl)));
        }))
      ]

  pub large-says : Asks D s told op args (Miss Prim) s1 told1 → (rows columns : ℕ) → PrimIsLarge D told1 op args rows columns → CallSays D s s1 told1 op args (Err (TooLarge (too_large rows columns)))
  large-says asks rows columns h = record { added = asked op args (Miss Prim) ∷ []; events = asks.events; trace = inr (fits, Miss Prim, [], refl, inl (rows, columns, h, refl, refl)) }

  -- the result of a primitive may be put
  pub prim-puts : (asks : Asks D s told op args (Miss Prim) s1 told1) → Known D.category told1 (arguments args) → (given : PrimOut O M) → PrimAnswers D told1 op args given → MayPut D s1 told1 op args given
  prim-puts asks known given prim = record {
    p = asks.says.0;
    planned = asks.says.1;
    is = record {
      data_of = prim.data_of;
      tells_arguments = prim.tells_arguments;
      are_data = known-data D told1 (arguments args) prim.data_of known prim.tells_arguments;
      value = prim.value;
      is_value = prim.is_value;
      out = prim.out;
      tells = prim.tells;
      is_datum = prim.is_datum;
      fresh_is = subst (λ c. FreshBy D c op prim.data_of given.fresh) (sym asks.says.2) prim.fresh_is;
      fresh_objects = prim.fresh_objects;
      runs = subst (λ c. ChoiceGives D s1.rules (RunWithin D s1.rules asks.says.0 (bound asks.says.0 op)) c op prim.data_of (done prim.out)) (sym asks.says.2) (prim.answers, prim.within);
      fits = prim.fits;
    };
  }

  module _ (k : RuleNo) (asks : Asks D s told op args (Miss (ByRule k)) s1 told1) (are : AreRules s1.rules) where
    true-plan : IsTruePlan D s1.rules asks.says.0
    true-plan = (plans-are-true D).law s1.rules asks.says.0 are asks.says.1.is_plan

    pub the-rule : (r : Rule) × IsChosen s1.rules D.kind asks.says.0 op k r
    the-rule = true-plan.rule op fits.operation k asks.says.2

    module _ (r : Rule) (is : rule_at s1.rules k ≡ Some r) where
      same-rule : the-rule.0 ≡ r
      same-rule = some-rule (rule_at s1.rules k) the-rule.0 r the-rule.1.listed is

      pub head-is : r.cost.head.0 ≡ op
      head-is = ap (λ q. q.cost.head.0) (sym same-rule) ∙ the-rule.1.head

      pub rule-typed : Typed r.cost.head.0 r.body
      rule-typed = All-at (λ q. Typed q.cost.head.0 q.body) s1.rules are.typed (k.0 - 1) r (nth-there s1.rules k.0 r is)

      pub rule-chosen : Chosen D s1 r.cost.head.0 r.body.steps
      rule-chosen = record {
        p = asks.says.0;
        planned = asks.says.1;
        below = subst (λ o. StepsBelow asks.says.0 (bound asks.says.0 o) r.body.steps) (sym head-is) (subst (λ q. StepsBelow asks.says.0 (bound asks.says.0 op) q.body.steps) same-rule the-rule.1.below);
      }

      pub rule-falls : depth s1.plan r.cost.head.0 ≤ depth s.plan op
      rule-falls = subst (λ o. depth s1.plan o ≤ depth s.plan op) (sym head-is) (depth-le op s.plan s1.plan asks.says.0 asks.grows.plan asks.says.1.is (let c = true-plan.capped op fits.operation in omega (arith, c)))

      module _ (s2 : BoardState X O M) (told2 : Handle → Option O) (g : Grows s1 told1 s2 told2) where
        body-in : (told' : Handle → Option O) → StaysTold told2 told' → (body : List (Event O M)) (w : StepEnd M) → StepsTrace (prime_of D) (TraceWithin D s1.rules told2 (depth s1.plan r.cost.head.0)) r.body.steps (arguments args) r.body.answer body w → (events : List (Event O M)) (end : CallEnd M) → AfterBody op args body w events end → AfterAsk D s.rules told' (TraceWithin D s.rules told' (depth s.plan op)) op args (Miss (ByRule k)) events end
        body-in told' stays body w t events end after =
            let t0 = subst (λ rs. StepsTrace (prime_of D) (TraceWithin D rs told2 (depth s1.plan r.cost.head.0)) r.body.steps (arguments args) r.body.answer body w) asks.grows.rules t in
            let t1 = steps-kept (prime_of D) (TraceWithin D s.rules told2 (depth s1.plan r.cost.head.0)) (TraceWithin D s.rules told' (depth s.plan op)) (λ o a e u. trace-kept D s.rules told2 told' stays (depth s1.plan r.cost.head.0) (depth s.plan op) rule-falls o a e u) r.body.steps (arguments args) r.body.answer body w t0 in
            let here = ap (λ rs. rule_at rs k) (sym asks.grows.rules) ∙ is in
            subst (λ q. RuleTrace (prime_of D) (TraceWithin D s.rules told' (depth s.plan op)) q op args events end) (sym here) (body, w, t1, after)

        refused-traced : (e : CallRefusal) → BodyTraced D s1 s2 told2 r (arguments args) (Err e) → Traced D s s2 told2 op args (Err e)
        refused-traced e t = record {
          added = asked op args (Miss (ByRule k)) ∷ t.added;
          events = t.events ∙ (ap (λ es. es ++ t.added) asks.events ∙ append-assoc s.events (asked op args (Miss (ByRule k)) ∷ []) t.added);
          trace = inr (fits, Miss (ByRule k), t.added, refl, body-in told2 (λ h o w. w) t.added (Err e) t.trace t.added (Err e) (refl, refl));
        }

        pub rule-refused : (e : CallRefusal) → BodySays D s1 s2 told2 r (arguments args) (Err e) → CallSays D s s2 told2 op args (Err e)
        rule-refused NoMemory t = tt
        rule-refused (Missing o) t = absurd t
        rule-refused (MismatchRefusal m) t = refused-traced (MismatchRefusal m) t
        rule-refused NotFinal t = refused-traced NotFinal t
        rule-refused (TooLarge z) t = refused-traced (TooLarge z) t
        rule-refused (Full n c) t = refused-traced (Full n c) t

        -- the value of the body has the operation's ends
        pub rule-fits : NeverMismatches {Obj = Handle} {Mor = Between Handle M} (over (prime_of D)) r.cost.head.0 r.body → (v : ValueOver Handle M) → BodyGood D s1 told2 r (arguments args) v → FitsWithAnswer (over (prime_of D)) op (arguments args) v
        rule-fits never v d = subst (λ o. FitsWithAnswer (over (prime_of D)) o (arguments args) v) head-is (never.answer_fits rule-typed (arguments args) (subst (λ o. Fits (over (prime_of D)) o (arguments args)) (sym head-is) fits) v d.ends)

        pub rule-puts : Known D.category told2 (arguments args) → (v : ValueOver Handle M) → BodyGood D s1 told2 r (arguments args) v → FitsWithAnswer (over (prime_of D)) op (arguments args) v → (given : PrimOut O M) → given.fresh ≡ [] → out_value given.out ≡ Some (old v) → MayPut D s2 told2 op args given
        rule-puts known v d ends given no_fresh out =
            let p = asks.says.0 in
            let same = some-plan s1.plan d.p p d.planned.is asks.says.1.is in
            let runs0 = subst (λ q. StepsGive (over (prime_of D)) (RunWithin D s1.rules q (bound q r.cost.head.0)) r.body.steps d.data_of r.body.answer (done d.out)) same d.runs in
            let runs1 = subst (λ o. StepsGive (over (prime_of D)) (RunWithin D s1.rules p (bound p o)) r.body.steps d.data_of r.body.answer (done d.out)) head-is runs0 in
            let runs2 = subst (λ o. RuleGives D (RunWithin D s1.rules p (bound p op)) o d.data_of (done d.out)) (sym is) runs1 in
            let runs3 : Run D s1.rules p op d.data_of (done d.out) = subst (λ c. ChoiceGives D s1.rules (RunWithin D s1.rules p (bound p op)) c op d.data_of (done d.out)) (sym asks.says.2) runs2 in
            record {
              p = p;
              planned = record { is = g.plan p asks.says.1.is; is_plan = subst (λ rs. IsPlanOf D rs p) (sym g.rules) asks.says.1.is_plan };
              is = record {
                data_of = d.data_of;
                tells_arguments = d.tells_values;
                are_data = known-data D told2 (arguments args) d.data_of known d.tells_values;
                value = old v;
                is_value = out;
                out = d.out;
                tells = tells-old told2 given.fresh v d.out d.tells;
                is_datum = d.is_datum;
                fresh_is = subst (λ c. FreshBy D c op d.data_of given.fresh) (sym asks.says.2) no_fresh;
                fresh_objects = subst (AreObjects D.category) (sym no_fresh) tt;
                runs = subst (λ rs. Run D rs p op d.data_of (done d.out)) (sym g.rules) runs3;
                fits = fits-old (prime_of D) op (arguments args) v ends;
              };
            }

        pub rule-says : (v : ValueOver Handle M) → BodyTraced D s1 s2 told2 r (arguments args) (Ok v) → (given : PrimOut O M) → given.fresh ≡ [] → out_value given.out ≡ Some (old v) → (s3 : BoardState X O M) (told3 : Handle → Option O) → Grows s2 told2 s3 told3 → (end : CallEnd M) → PutEnds D s2 told2 op args given s3 told3 end → CallSays D s s3 told3 op args end
        rule-says v t given no_fresh out s3 told3 g3 end put =
            elim (put-case s2 told2 given s3 told3 end put) [
              | inl e ↦ subst (λ w. CallSays D s s3 told3 op args w) (sym e) tt
              | inr h ↦ subst (λ w. CallSays D s s3 told3 op args w) (sym h.2) (said s2 told2 given s3 told3 (g3.rules ∙ (g.rules ∙ asks.grows.rules)) h.0 h.1 (record {
                added = asked op args (Miss (ByRule k)) ∷ (t.added ++ kept op args given h.0 ∷ []);
                events = h.1.events ∙ (ap (λ es. es ++ kept op args given h.0 ∷ []) (t.events ∙ (ap (λ es. es ++ t.added) asks.events ∙ append-assoc s.events (asked op args (Miss (ByRule k)) ∷ []) t.added)) ∙ append-assoc s.events (asked op args (Miss (ByRule k)) ∷ t.added) (kept op args given h.0 ∷ []));
                trace = inr (fits, Miss (ByRule k), t.added ++ kept op args given h.0 ∷ [], refl, body-in told3 g3.stays t.added (Ok v) t.trace (t.added ++ kept op args given h.0 ∷ []) (put_end h.0) (given, kept op args given h.0 ∷ [], no_fresh, out, refl, (h.0, refl, refl)));
              }))
            ]
