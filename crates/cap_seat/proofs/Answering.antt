-- What the answers to a seat's asks and puts say, by what its desk has seen.
use Rattle.std.proofs.Common.{◌≡◌, ℕ, Bool, true, false, List, [], ◌∷◌, ◌++◌, Option, Some, None, sym, subst, ap, ◌∙◌, refl}
use Rattle.std.specs.Prelude.{if◌then◌else◌, option_map, IsSome}
use Rattle.std.specs.List.{Contains, filter_map}
use Rattle.std.proofs.lemmas.List.Elements.{Contains-append_left, Contains-push, filter_map-append}
use Rattle.cap_names.specs.declared.identifiers.Handle.{Handle}
use Rattle.cap_ops.specs.declared.arrows.End.{End}
use Rattle.cap_ops.specs.declared.arrows.End.TheVariants.{Old, New}
use Rattle.cap_ops.specs.declared.keys.Key.{Key}
use Rattle.cap_ops.specs.declared.keys.PrimOut.{PrimOut}
use Rattle.cap_ops.specs.declared.plans.Plan.{Plan}
use Rattle.cap_ops.specs.Arrows.{over, arguments}
use Rattle.cap_ops.specs.Primitives.{OfferData, prime_of}
use Rattle.cap_ops.specs.Told.{Known, StaysTold, told_in, end_object}
use Rattle.cap_ops.specs.Values.{Fits}
use Rattle.cap_ops.proofs.Places.{none≢some, some_inner}
use Rattle.cap_ops.proofs.Telling.{tells-kept, all-kept}
use Rattle.cap_rules.specs.Table.{rule_table}
use Rattle.cap_run.specs.Puts.{Good, PutTrue}
use Rattle.cap_board.specs.declared.answers.Asked.{Asked}
use Rattle.cap_board.specs.declared.answers.PutAnswer.{PutAnswer}
use Rattle.cap_board.specs.declared.answers.PutAnswer.TheVariants as puts
use Rattle.cap_board.specs.Board.{asked, kept as put_event, Grows, Planned, Asks, Puts, MayPut, AskSays, PutSays}
use Rattle.cap_history.specs.declared.entries.Event.{Event}
use Rattle.cap_history.specs.declared.entries.Event.TheVariants.{Ask, Put}
use Rattle.cap_history.specs.declared.entries.Reply.TheVariants.{Hit, Miss, Kept, Found, NotFinal}
use Rattle.cap_history.specs.declared.entries.Told.{Told}
use Rattle.cap_history.specs.declared.entries.Entry.{Entry}
use Rattle.cap_history.specs.declared.reading.Finality.{Finality}
use Rattle.cap_history.specs.Reading.{objects, finality, keeping, kept, AreTold}
use Rattle.cap_history.specs.Replies.{entry, IsFinal, IsKept}
use Rattle.cap_history.proofs.OneMore.{read-more, final-stays}
use Rattle.cap_legal.specs.Legal.{IsFit, TrueEvent, Legal}
use Rattle.cap_legal.proofs.Histories.{legal-sound}
use Rattle.cap_desk.specs.Books.{frame}
use Rattle.cap_desk.specs.Hands.{hand_behind}
use Rattle.cap_seat.specs.declared.tries.Tried.{Tried}
use Rattle.cap_seat.specs.declared.tries.Tried.TheVariants.{Replied, Full as TriedFull}
use Rattle.cap_seat.specs.Events.{try_event, try_of, step_of}
use Rattle.cap_seat.specs.Seats.{Sitting, told_among, told_at, plan_once, state_of, told_by, known_by, knows_by, shows_plan, asked_of, put_of, Holds, Tries, Waits, SeatAsks, SeatPuts}
use Rattle.cap_seat.proofs.TheRules.{rules-run}
use Rattle.cap_seat.proofs.Among.{among-more, ends-told}
use Rattle.cap_seat.proofs.Narrow.{narrow-good}
use Rattle.cap_seat.proofs.Holding.{grown, same-finality}

-- a known plan stays known in a longer history
final-plan : (f : Option Finality) (p : Plan) → option_map (λ (x : Finality). x.plan) f ≡ Some p → (x : Finality) × (f ≡ Some x) × (x.plan ≡ p)
final-plan None p e = absurd (none≢some e)
final-plan (Some x) p e = (x, refl, some_inner e)

still-knows : (b knows : Bool) → knows ≡ true → (if b then true else knows) ≡ true
still-knows true knows e = refl
still-knows false knows e = e

module _ {O M : Type 0} where
  plan-stays : (knows knows' : Bool) (seen more : List (Entry O M)) (p : Plan) → (knows ≡ true → knows' ≡ true) → plan_once knows seen ≡ Some p → plan_once knows' (seen ++ more) ≡ Some p
  plan-stays true knows' seen more p still e =
      let f = final-plan (finality seen) p e in
      subst (λ k. plan_once k (seen ++ more) ≡ Some p) (sym (still refl)) (ap (option_map (λ (x : Finality). x.plan)) (final-stays seen more f.0 f.1) ∙ ap Some f.2)
  plan-stays false knows' seen more p still e = absurd (none≢some e)

  plan-there : (seen : List (Entry O M)) (at : ℕ) (p : Plan) → IsFinal seen at p → plan_once true seen ≡ Some p
  plan-there seen at p f = ap (option_map (λ (x : Finality). x.plan)) f.is

  -- a known plan is that of a final history
  pub plan-final : (knows : Bool) (seen : List (Entry O M)) (p : Plan) → plan_once knows seen ≡ Some p → (knows ≡ true) × ((at : ℕ) × IsFinal seen at p)
  plan-final true seen p e = let f = final-plan (finality seen) p e in (refl, (f.0.at, record { is = f.1 ∙ ap (λ q. Some (record { at = f.0.at; plan = q })) f.2 }))
  plan-final false seen p e = absurd (none≢some e)

  knows-still : (knows : Bool) (event : Event O M) (a : Tried O M) → knows ≡ true → knows_by knows event a ≡ true
  knows-still knows event (Replied r) e = still-knows (shows_plan event r) knows e
  knows-still knows event (TriedFull n k) e = e

  known-still : (known : List (Handle × O)) (event : Event O M) (a : Tried O M) → StaysTold (told_among known) (told_among (known_by known event a))
  known-still known event (Replied r) = among-more known (told_by event r)
  known-still known event (TriedFull n k) = λ h o e. e

  plan-same : (knows : Bool) (seen more : List (Entry O M)) → (knows ≡ true → IsSome (finality seen)) → plan_once knows (seen ++ more) ≡ plan_once knows seen
  plan-same true seen more is = ap (option_map (λ (x : Finality). x.plan)) (same-finality seen more (is refl))
  plan-same false seen more is = refl

module _ {O M : Type 0} (D : OfferData O M) (object_cells : O → ℕ) (morphism_cells : M → ℕ) where
  known-more : (few all : Handle → Option O) → StaysTold few all → (key : Key M) → Known D.category few (arguments key.args) → Known D.category all (arguments key.args)
  known-more few all stays key k = record { data_of = k.data_of; tells = all-kept few all stays (arguments key.args) k.data_of k.tells; are = k.are }

  module _ {X : Type 0} (s : Sitting X O M) (H : Holds D object_cells morphism_cells s) (key : Key M) (fits : Fits (over (prime_of D)) key.op.0 (arguments key.args)) (known : Known D.category (told_at s) (arguments key.args)) where
    -- a key that fits and is known to the session fits in the history
    pub fit-true : IsFit D rule_table s.seen key
    fit-true = record { fits = fits; known = known-more (told_at s) (told_in (objects s.seen)) H.told key known }

    end-stays : (fresh : List O) (e : End) (o : O) → end_object (told_at s) fresh e ≡ Some o → end_object (told_in (objects s.seen)) fresh e ≡ Some o
    end-stays fresh (Old h) o e = H.told h o e
    end-stays fresh (New k) o e = e

    put-there : (p : Plan) (out : PrimOut O M) → PutTrue D rule_table p (told_at s) key.op.0 key.args out → PutTrue D rule_table p (told_in (objects s.seen)) key.op.0 key.args out
    put-there p out T = record {
      data_of = T.data_of;
      tells_arguments = all-kept (told_at s) (told_in (objects s.seen)) H.told (arguments key.args) T.data_of T.tells_arguments;
      are_data = T.are_data;
      value = T.value;
      is_value = T.is_value;
      out = T.out;
      tells = tells-kept (end_object (told_at s) out.fresh) (end_object (told_in (objects s.seen)) out.fresh) (end-stays out.fresh) T.value T.out T.tells;
      is_datum = T.is_datum;
      fresh_is = T.fresh_is;
      fresh_objects = T.fresh_objects;
      runs = T.runs;
      fits = T.fits;
    }

    -- what may be put is true in the history
    pub put-true : (out : PrimOut O M) → MayPut D (state_of s) (told_at s) key.op.0 key.args out → TrueEvent D rule_table s.seen (Put key out)
    put-true out may = let f = plan-final s.knows s.seen may.p may.planned.is in record { fit = fit-true; at = f.1.0; p = may.p; final = f.1.1; is = put-there may.p out may.is }

  -- a value that is kept and comes with its objects is the key's value
  module _ (known : List (Handle × O)) (key : Key M) (asked : Known D.category (told_among known) (arguments key.args)) (seen : List (Entry O M)) (legal : Legal (frame D object_cells morphism_cells) seen) (t : Told O M) (stays : StaysTold (told_among (known ++ t.objects)) (told_in (objects seen))) (objects-of : List O) (told : AreTold objects-of t) (is : IsKept seen key t.value) where
    value-good : (p : Plan) × Planned D rule_table (plan_once true seen) p × Good D rule_table p (told_among (known ++ t.objects)) key.op.0 key.args t.value
    value-good =
        let S = legal-sound (frame D object_cells morphism_cells) rules-run seen legal in
        let G = S.kept key t.value is in (
          G.p,
          record { is = plan-there seen G.at G.p G.final; is_plan = G.is_plan },
          narrow-good (told_among (known ++ t.objects)) (told_in (objects seen)) stays D rule_table G.p key.op.0 key.args t.value (known-more (told_among known) (told_among (known ++ t.objects)) (among-more known t.objects) key asked) (ends-told known objects-of t told) G.good,
        )

  module _ (others : List (Entry O M) → Type 0) {X : Type 0} (s s' : Sitting X O M) (H : Holds D object_cells morphism_cells s) (legal : Legal (frame D object_cells morphism_cells) s'.seen) (H' : Holds D object_cells morphism_cells s') where
    -- the sitting behind an event
    abbrev behind : Event O M → Tried O M → Sitting X O M
    behind event a = record { offer = s.offer; session = s.session; seen = s'.seen; known = known_by s.known event a; tries = s.tries ++ try_of s.session event a ∷ []; knows = knows_by s.knows event a; hand = hand_behind s.hand (step_of a) }

    tries-grow : (event : Event O M) (a : Tried O M) → Tries D object_cells morphism_cells others s event a s' → Grows (state_of s) (told_at s) (state_of (behind event a)) (told_at (behind event a))
    tries-grow event a T =
        let g = grown D object_cells morphism_cells others s.seen s.session event (step_of a) s'.seen T.steps in
        record {
          offer = refl;
          rules = refl;
          stays = known-still s.known event a;
          plan = λ p e. subst (λ es. plan_once (knows_by s.knows event a) es ≡ Some p) (sym g.1) (plan-stays s.knows (knows_by s.knows event a) s.seen g.0 p (knows-still s.knows event a) e);
        }

    events-more : (event : Event O M) (a : Tried O M) → (state_of (behind event a)).events ≡ (state_of s).events ++ filter_map try_event (try_of s.session event a ∷ [])
    events-more event a = filter_map-append try_event s.tries (try_of s.session event a ∷ [])

    -- what is told behind a reply is told in the history
    told-behind : (event : Event O M) (a : Tried O M) → Tries D object_cells morphism_cells others s event a s' → StaysTold (told_at (behind event a)) (told_in (objects s'.seen))
    told-behind event a T = subst (λ (x : Sitting X O M). StaysTold (told_at x) (told_in (objects s'.seen))) T.is H'.told

    module _ (key : Key M) (known : Known D.category (told_at s) (arguments key.args)) where
      ask-says : (a : Tried O M) → Tries D object_cells morphism_cells others s (Ask key) a s' → AskSays D rule_table (plan_once (knows_by s.knows (Ask key) a) s'.seen) (told_at (behind (Ask key) a)) key.op.0 key.args (asked_of a)
      ask-says (Replied (Hit t)) T =
          let before = s.seen ++ T.steps.between in
          let more : List (Entry O M) = entry s.session (Ask key) (Hit t) ∷ [] in
          let r = T.steps.steps.1.replies in
          let kept-there : IsKept s'.seen key t.value = subst (λ es. IsKept es key t.value) (sym T.steps.steps.1.is) (subst (λ ks. Contains ks (record { key = key; value = t.value })) (sym (read-more (λ keepings event reply. keepings ++ keeping event reply) [] before more)) (Contains-append_left (kept before) [] (record { key = key; value = t.value }) r.1)) in
          value-good s.known key known s'.seen legal t (told-behind (Ask key) (Replied (Hit t)) T) (objects before) r.2 kept-there
      ask-says (Replied (Miss c)) T =
          let before = s.seen ++ T.steps.between in
          let more : List (Entry O M) = entry s.session (Ask key) (Miss c) ∷ [] in
          let r = T.steps.steps.1.replies in
          let f : IsFinal s'.seen r.0.0 r.0.1 = subst (λ es. IsFinal es r.0.0 r.0.1) (sym T.steps.steps.1.is) (record { is = final-stays before more (record { at = r.0.0; plan = r.0.1 }) r.0.2.is }) in (
            r.0.1,
            record { is = plan-there s'.seen r.0.0 r.0.1 f; is_plan = ((legal-sound (frame D object_cells morphism_cells) rules-run s'.seen legal).planned r.0.0 r.0.1 f).1 },
            r.0.3,
          )
      ask-says (Replied NotFinal) T = tt
      ask-says (Replied r) T = absurd T.steps.steps.1.replies
      ask-says (TriedFull n k) T = tt

      ask-event : (a : Tried O M) → Tries D object_cells morphism_cells others s (Ask key) a s' → filter_map try_event (try_of s.session (Ask key) a ∷ []) ≡ asked key.op.0 key.args (asked_of a) ∷ []
      ask-event (Replied (Hit t)) T = refl
      ask-event (Replied (Miss c)) T = refl
      ask-event (Replied NotFinal) T = refl
      ask-event (Replied r) T = absurd T.steps.steps.1.replies
      ask-event (TriedFull n k) T = refl

      -- an ask of the session is an ask of the board
      pub seat-asks : (a : Asked M) → SeatAsks D object_cells morphism_cells others s key a s' → Asks D (state_of s) (told_at s) key.op.0 key.args a (state_of s') (told_at s')
      seat-asks a A =
          let T = A.tries in
          subst (λ x. Asks D (state_of s) (told_at s) key.op.0 key.args x (state_of s') (told_at s')) A.answers (
          subst (λ (x : Sitting X O M). Asks D (state_of s) (told_at s) key.op.0 key.args (asked_of A.tried) (state_of x) (told_at x)) (sym T.is) (record {
            grows = tries-grow (Ask key) A.tried T;
            events = events-more (Ask key) A.tried ∙ ap (λ es. (state_of s).events ++ es) (ask-event A.tried T);
            says = ask-says A.tried T;
          }))

      module _ (out : PrimOut O M) (knows : s.knows ≡ true) where
        put-says : (a : Tried O M) (answer : PutAnswer M) → put_of a ≡ Some answer → Tries D object_cells morphism_cells others s (Put key out) a s' → PutSays D rule_table (plan_once s.knows s'.seen) (told_at (behind (Put key out) a)) key.op.0 key.args answer
        put-says (Replied (Kept t)) answer e T =
            let before = s.seen ++ T.steps.between in
            let more : List (Entry O M) = entry s.session (Put key out) (Kept t) ∷ [] in
            let r = T.steps.steps.1.replies in
            let kept-there : IsKept s'.seen key t.value = subst (λ es. IsKept es key t.value) (sym T.steps.steps.1.is) (subst (λ ks. Contains ks (record { key = key; value = t.value })) (sym (read-more (λ keepings event reply. keepings ++ keeping event reply) [] before more)) (Contains-push (kept before) (record { key = key; value = t.value }))) in
            subst (λ x. PutSays D rule_table (plan_once s.knows s'.seen) (told_among (s.known ++ t.objects)) key.op.0 key.args x) (some_inner e) (
            subst (λ k. PutSays D rule_table (plan_once k s'.seen) (told_among (s.known ++ t.objects)) key.op.0 key.args (puts.Entry t.value)) (sym knows) (
            value-good s.known key known s'.seen legal t (told-behind (Put key out) (Replied (Kept t)) T) (objects before ++ out.fresh) r.2 kept-there))
        put-says (Replied (Found t)) answer e T =
            let before = s.seen ++ T.steps.between in
            let more : List (Entry O M) = entry s.session (Put key out) (Found t) ∷ [] in
            let r = T.steps.steps.1.replies in
            let kept-there : IsKept s'.seen key t.value = subst (λ es. IsKept es key t.value) (sym T.steps.steps.1.is) (subst (λ ks. Contains ks (record { key = key; value = t.value })) (sym (read-more (λ keepings event reply. keepings ++ keeping event reply) [] before more)) (Contains-append_left (kept before) [] (record { key = key; value = t.value }) r.0)) in
            subst (λ x. PutSays D rule_table (plan_once s.knows s'.seen) (told_among (s.known ++ t.objects)) key.op.0 key.args x) (some_inner e) (
            subst (λ k. PutSays D rule_table (plan_once k s'.seen) (told_among (s.known ++ t.objects)) key.op.0 key.args (puts.Entry t.value)) (sym knows) (
            value-good s.known key known s'.seen legal t (told-behind (Put key out) (Replied (Found t)) T) (objects before) r.1 kept-there))
        put-says (Replied r) answer e T = absurd (none≢some e)
        put-says (TriedFull n k) answer e T = subst (λ x. PutSays D rule_table (plan_once s.knows s'.seen) (told_at s) key.op.0 key.args x) (some_inner e) tt

        put-same : (a : Tried O M) → knows_by s.knows (Put key out) a ≡ s.knows
        put-same (Replied r) = refl
        put-same (TriedFull n k) = refl

        put-adds : (a : Tried O M) (answer : PutAnswer M) → put_of a ≡ Some answer → filter_map try_event (try_of s.session (Put key out) a ∷ []) ≡ put_event key.op.0 key.args out answer ∷ []
        put-adds (Replied (Kept t)) answer e = ap (λ x. put_event key.op.0 key.args out x ∷ []) (some_inner e)
        put-adds (Replied (Found t)) answer e = ap (λ x. put_event key.op.0 key.args out x ∷ []) (some_inner e)
        put-adds (Replied r) answer e = absurd (none≢some e)
        put-adds (TriedFull n k) answer e = ap (λ x. put_event key.op.0 key.args out x ∷ []) (some_inner e)

        -- a put of the session is a put of the board
        pub seat-puts : (a : PutAnswer M) → SeatPuts D object_cells morphism_cells others s key out a s' → Puts D (state_of s) (told_at s) key.op.0 key.args out a (state_of s') (told_at s')
        seat-puts a P =
            let T = P.tries in
            subst (λ (x : Sitting X O M). Puts D (state_of s) (told_at s) key.op.0 key.args out a (state_of x) (told_at x)) (sym T.is) (record {
              grows = tries-grow (Put key out) P.tried T;
              events = events-more (Put key out) P.tried ∙ ap (λ es. (state_of s).events ++ es) (put-adds P.tried a P.answers);
              says = subst (λ k. PutSays D rule_table (plan_once k s'.seen) (told_at (behind (Put key out) P.tried)) key.op.0 key.args a) (sym (put-same P.tried)) (put-says P.tried a P.answers T);
            })

    -- without memory the board's state is the same, and so is what was told
    pub waits-same : Waits others s s' → (state_of s' ≡ state_of s) × (told_at s' ≡ told_at s)
    waits-same W =
        let same : plan_once s.knows s'.seen ≡ plan_once s.knows s.seen = ap (plan_once s.knows) W.sees.is ∙ plan-same s.knows s.seen W.sees.between H.plan in (
          ap state_of W.is ∙ ap (λ pl. record { offer = s.offer; rules = rule_table; events = filter_map try_event s.tries; plan = pl }) same,
          ap told_at W.is,
        )
