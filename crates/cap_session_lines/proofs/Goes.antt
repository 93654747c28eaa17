-- The entries of a command are the session's and stand in what was seen since; alone, they are all that was seen since. A refusal as full was by a front of it.
use Rattle.std.proofs.Common.{◌≡◌, ℕ, List, [], ◌∷◌, ◌++◌, length, Some, sym, subst, ap, ◌∙◌, refl}
use Rattle.std.specs.List.{All, filter_map}
use Rattle.std.proofs.lemmas.List.{append-nil}
use Rattle.std.proofs.lemmas.List.Elements.{All-nil, All-cons, All-head, All-tail}
use Rattle.cap_names.specs.declared.identifiers.SessionNo.{SessionNo}
use Rattle.cap_ops.specs.declared.keys.Arg.{Arg}
use Rattle.cap_ops.specs.Primitives.{OfferData}
use Rattle.cap_ops.proofs.Places.{none≢some}
use Rattle.cap_history.specs.declared.entries.Event.{Event}
use Rattle.cap_history.specs.declared.entries.Event.TheVariants.{Register, Finalise, Declare, PlanOf}
use Rattle.cap_history.specs.declared.entries.Reply.{Reply}
use Rattle.cap_history.specs.declared.entries.Reply.TheVariants.{Done, Final, Object, PlanIs, AlreadyFinal, NotFinal, NotOffered, Twice, NameTaken}
use Rattle.cap_history.specs.declared.entries.Entry.{Entry}
use Rattle.cap_history.specs.Replies.{entry}
use Rattle.cap_report.specs.declared.lines.LineAnswer.{LineAnswer}
use Rattle.cap_report.specs.declared.lines.LineAnswer.TheVariants as line
use Rattle.cap_report.specs.declared.lines.LineRefusal.TheVariants as refusal
use Rattle.cap_accounts.specs.Commands.{reply_line}
use Rattle.cap_desk.specs.Hands.{with_more}
use Rattle.cap_desk.specs.Woven.{IsNothing, IsWoven, AreOthers}
use Rattle.cap_desk.proofs.Handing.{more-none}
use Rattle.cap_desk.proofs.Weaving.{woven-alone}
use Rattle.cap_seat.specs.declared.tries.Try.{Try}
use Rattle.cap_seat.specs.declared.tries.Try.TheVariants.{Entered, Full as FullTry}
use Rattle.cap_seat.specs.declared.tries.Tried.{Tried}
use Rattle.cap_seat.specs.declared.tries.Tried.TheVariants.{Replied, Full}
use Rattle.cap_seat.specs.Events.{try_of, entered, IsCallTry, HasFullFront}
use Rattle.cap_seat.specs.Seats.{Sitting, Tries}
use Rattle.cap_session_lines.specs.Doing.{tried_line, EventDoes, CallDoes, GoesBy}

module _ {O M : Type 0} where
  own-entries : (session : SessionNo) (ts : List (Try O M)) → All (IsCallTry session) ts → All (λ (e : Entry O M). e.session ≡ session) (filter_map entered ts)
  own-entries session [] are = All-nil (λ (e : Entry O M). e.session ≡ session)
  own-entries session (Entered e ∷ ts) are = All-cons (λ (x : Entry O M). x.session ≡ session) e (filter_map entered ts) (All-head (IsCallTry session) (Entered e) ts are).sessions (own-entries session ts (All-tail (IsCallTry session) (Entered e) ts are))
  own-entries session (FullTry event n k ∷ ts) are = own-entries session ts (All-tail (IsCallTry session) (FullTry event n k) ts are)

  -- no reply to an event that isn't an ask or a put is told as full
  no-full-reply : (event : Event O M) (r : Reply O M) (n k : ℕ) → reply_line event r ≡ Some (line.Refused (refusal.Full n k)) → ⊥
  no-full-reply (Register op weight) Done n k e = absurd cc
  no-full-reply (Register op weight) (AlreadyFinal at) n k e = absurd cc
  no-full-reply (Register op weight) NotOffered n k e = absurd cc
  no-full-reply (Register op weight) (Twice w) n k e = absurd cc
  no-full-reply Finalise (Final p) n k e = absurd cc
  no-full-reply Finalise (AlreadyFinal at) n k e = absurd cc
  no-full-reply (Declare name object) (Object h) n k e = absurd cc
  no-full-reply (Declare name object) (NameTaken h other) n k e = absurd cc
  no-full-reply PlanOf (PlanIs p) n k e = absurd cc
  no-full-reply PlanOf NotFinal n k e = absurd cc
  no-full-reply _ _ n k e = absurd (none≢some e)

module _ {O M : Type 0} (D : OfferData O M) (object_cells : O → ℕ) (morphism_cells : M → ℕ) (others : List (Entry O M) → Type 0) {X : Type 0} (s s' : Sitting X O M) where
  tried-own : (event : Event O M) (a : Tried O M) → All (λ (e : Entry O M). e.session ≡ s.session) (filter_map entered (try_of s.session event a ∷ []))
  tried-own event (Replied r) = All-cons (λ (e : Entry O M). e.session ≡ s.session) (entry s.session event r) [] refl (All-nil (λ (e : Entry O M). e.session ≡ s.session))
  tried-own event (Full n k) = All-nil (λ (e : Entry O M). e.session ≡ s.session)

  tried-woven : AreOthers others → (event : Event O M) (a : Tried O M) → Tries D object_cells morphism_cells others s event a s' → IsWoven others s.seen (filter_map entered (try_of s.session event a ∷ [])) s'.seen
  tried-woven are event (Replied r) T = (T.steps.between, T.steps.allowed, ([], are.nothing, T.steps.steps.1.is ∙ sym (append-nil (s.seen ++ T.steps.between ++ entry s.session event r ∷ []))))
  tried-woven are event (Full n k) T = (T.steps.between, T.steps.allowed, ap (λ l. l.entries) T.steps.steps.3)

  tried-hand : (event : Event O M) (a : Tried O M) → Tries D object_cells morphism_cells others s event a s' → s'.hand ≡ with_more s.hand (length (filter_map entered (try_of s.session event a ∷ [])))
  tried-hand event (Replied r) T = ap (λ (x : Sitting X O M). x.hand) T.is
  tried-hand event (Full n k) T = ap (λ (x : Sitting X O M). x.hand) T.is ∙ more-none s.hand

  pub event-goes : AreOthers others → (event : Event O M) (answer : LineAnswer M) → (does : EventDoes D object_cells morphism_cells others s event answer s') → GoesBy others s (try_of s.session event does.tried ∷ []) s'
  event-goes are event answer does = record {
    offer = ap (λ (x : Sitting X O M). x.offer) does.tries.is;
    session = ap (λ (x : Sitting X O M). x.session) does.tries.is;
    tries = ap (λ (x : Sitting X O M). x.tries) does.tries.is;
    own = tried-own event does.tried;
    woven = tried-woven are event does.tried does.tries;
    hand = tried-hand event does.tried does.tries;
  }

  pub call-goes : (op : ℕ) (args : List (Arg M)) (answer : LineAnswer M) → (does : CallDoes D object_cells morphism_cells others s op args answer s') → GoesBy others s does.goes.more s'
  call-goes op args answer does = let g = does.goes in record {
    offer = g.offer;
    session = g.session;
    tries = g.tries;
    own = own-entries s.session g.more g.calls;
    woven = g.woven;
    hand = g.hand;
  }

  tried-full : (event : Event O M) (a : Tried O M) (n k : ℕ) → tried_line event a ≡ Some (line.Refused (refusal.Full n k)) → Tries D object_cells morphism_cells others s event a s' → HasFullFront object_cells morphism_cells s'.seen n k
  tried-full event (Replied r) n k e T = absurd (no-full-reply event r n k e)
  tried-full event (Full m j) n k e T =
      let there : HasFullFront object_cells morphism_cells s'.seen m j = record {
        front = s.seen ++ T.steps.between;
        rest = [];
        splits = ap (λ l. l.entries) T.steps.steps.3 ∙ sym (append-nil (s.seen ++ T.steps.between));
        full = T.steps.steps.0;
        count_is = T.steps.steps.1;
        weight_is = T.steps.steps.2;
      } in
      let same-count : m ≡ n = cc in
      let same-weight : j ≡ k = cc in
      subst (λ x. HasFullFront object_cells morphism_cells s'.seen x k) same-count (subst (λ y. HasFullFront object_cells morphism_cells s'.seen m y) same-weight there)

  pub event-full : (event : Event O M) (n k : ℕ) → EventDoes D object_cells morphism_cells others s event (line.Refused (refusal.Full n k)) s' → HasFullFront object_cells morphism_cells s'.seen n k
  event-full event n k does = tried-full event does.tried n k does.answered does.tries

-- alone, what was seen grows by the entries of the command
pub goes-alone : {X O M : Type 0} (s : Sitting X O M) (more : List (Try O M)) (s' : Sitting X O M) → GoesBy IsNothing s more s' → s'.seen ≡ s.seen ++ filter_map entered more
goes-alone s more s' g = woven-alone s.seen (filter_map entered more) s'.seen g.woven
