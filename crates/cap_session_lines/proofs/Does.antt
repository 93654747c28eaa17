-- What a command does over a seat is what the accounts ask of it.
use Rattle.std.proofs.Common.{◌≡◌, ℕ, suc, arith, List, [], ◌∷◌, ◌++◌, Some, Result, Ok, Err, sym, subst, ap, ◌∙◌, refl, inl, inr}
use Rattle.std.specs.Prelude.{IfOk, MatchResult}
use Rattle.std.specs.List.{filter_map}
use Rattle.std.proofs.lemmas.List.Elements.{filter_map-append}
use Rattle.cap_names.specs.declared.faults.NoMemory.{NoMemory as Wanting}
use Rattle.cap_names.specs.declared.identifiers.OpId.{OpId}
use Rattle.cap_ops.specs.declared.keys.Arg.{Arg}
use Rattle.cap_ops.specs.Primitives.{OfferData}
use Rattle.cap_ops.specs.Told.{told_in, StaysTold}
use Rattle.cap_ops.proofs.Places.{none≢some, some_inner}
use Rattle.cap_rules.specs.Table.{rule_table}
use Rattle.cap_ops.specs.declared.keys.Value.TheVariants.{One, Many, Truth, Nothing}
use Rattle.cap_board.specs.declared.refusals.CallRefusal.TheVariants as refused
use Rattle.cap_board.specs.declared.refusals.CallRefusal.TheVariants.{Missing, Full as FullRefusal, NoMemory}
use Rattle.cap_board.specs.Call.{depth, Traced, CallSays}
use Rattle.cap_board.specs.Trace.{CallEnd, TraceWithin}
use Rattle.cap_board.proofs.Traces.{trace-kept}
use Rattle.cap_history.specs.declared.entries.Event.{Event}
use Rattle.cap_history.specs.declared.entries.Entry.{Entry}
use Rattle.cap_history.specs.Reading.{objects}
use Rattle.cap_legal.proofs.Longer.{told-longer}
use Rattle.cap_report.specs.declared.lines.LineAnswer.{LineAnswer}
use Rattle.cap_report.specs.declared.lines.LineAnswer.TheVariants as line
use Rattle.cap_report.specs.declared.lines.LineRefusal.TheVariants as refusal
use Rattle.cap_accounts.specs.Worlds.{World}
use Rattle.cap_accounts.specs.Commands.{OneEvent, OneCall, end_line}
use Rattle.cap_seat.specs.declared.tries.Tried.{Tried}
use Rattle.cap_seat.specs.declared.tries.Tried.TheVariants.{Replied, Full}
use Rattle.cap_seat.specs.Events.{try_event, try_of, entered, HasFullFront}
use Rattle.cap_seat.specs.Seats.{Sitting, told_at, state_of, Holds}
use Rattle.cap_seat.specs.Onward.{GoesOn}
use Rattle.cap_session_lines.specs.Doing.{tried_line, EventDoes, CallDoes}
use Rattle.cap_session_lines.proofs.Refused.{Ends, trace-ends}
use Rattle.cap_session_lines.proofs.Recording.{ends-last, recorded, refused-front}

-- a line that is answered is that of the end
pub ok-line : {M : Type 0} (end : CallEnd M) (r : Result (LineAnswer M) Wanting) → MatchResult r (λ answer. end_line end ≡ Some answer) (λ e. end ≡ Err NoMemory) → IfOk r (λ answer. end_line end ≡ Some answer)
ok-line end (Ok answer) m = m
ok-line end (Err e) m = tt

append-cancel : {A : Type 0} (xs ys zs : List A) → xs ++ ys ≡ xs ++ zs → ys ≡ zs
append-cancel [] ys zs e = e
append-cancel (x ∷ xs) ys zs e = append-cancel xs ys zs (let tails : xs ++ ys ≡ xs ++ zs = cc in tails)

module _ {O M : Type 0} (D : OfferData O M) (object_cells : O → ℕ) (morphism_cells : M → ℕ) (others : List (Entry O M) → Type 0) {X : Type 0} (s s' : Sitting X O M) where
  -- the events that a call added are those of what was tried
  added-tried : (goes : GoesOn object_cells morphism_cells others s s') (op : ℕ) (args : List (Arg M)) (end : CallEnd M) (T : Traced D (state_of s) (state_of s') (told_at s') op args end) → T.added ≡ filter_map try_event goes.more
  added-tried goes op args end T = append-cancel (filter_map try_event s.tries) T.added (filter_map try_event goes.more) (sym T.events ∙ (ap (filter_map try_event) goes.tries ∙ filter_map-append try_event s.tries goes.more))

  traced-does : (goes : GoesOn object_cells morphism_cells others s s') (op : ℕ) (args : List (Arg M)) (end : CallEnd M) (answer : LineAnswer M) → Traced D (state_of s) (state_of s') (told_at s') op args end → end_line end ≡ Some answer → CallDoes D object_cells morphism_cells others s op args answer s'
  traced-does goes op args end answer T is = record {
    goes = goes;
    depth = suc (depth (state_of s).plan op);
    end = end;
    trace = subst (λ es. TraceWithin D rule_table (told_at s') (suc (depth (state_of s).plan op)) op args es end) (added-tried goes op args end T) T.trace;
    answered = is;
  }

  pub call-does : (goes : GoesOn object_cells morphism_cells others s s') (op : ℕ) (args : List (Arg M)) (end : CallEnd M) (answer : LineAnswer M) → CallSays D (state_of s) (state_of s') (told_at s') op args end → end_line end ≡ Some answer → CallDoes D object_cells morphism_cells others s op args answer s'
  call-does goes op args (Ok v) answer says is = traced-does goes op args (Ok v) answer says.0 is
  call-does goes op args (Err NoMemory) answer says is = absurd (none≢some is)
  call-does goes op args (Err (Missing o)) answer says is = traced-does goes op args (Err (Missing o)) answer says.0 is
  call-does goes op args (Err e) answer says is = traced-does goes op args (Err e) answer says is

  -- whether it answers a line or wants memory
  pub call-clause : (goes : GoesOn object_cells morphism_cells others s s') (op : ℕ) (args : List (Arg M)) (end : CallEnd M) (r : Result (LineAnswer M) Wanting) → CallSays D (state_of s) (state_of s') (told_at s') op args end → IfOk r (λ answer. end_line end ≡ Some answer) → IfOk r (λ answer. CallDoes D object_cells morphism_cells others s op args answer s')
  call-clause goes op args end (Ok answer) says is = call-does goes op args end answer says is
  call-clause goes op args end (Err e) says is = tt

-- the end of a call whose line is a refusal by a full history
full-end : {M : Type 0} (end : CallEnd M) (n k : ℕ) → end_line end ≡ Some (line.Refused (refusal.Full n k)) → end ≡ Err (FullRefusal n k)
full-end (Ok (One f)) n k e = absurd cc
full-end (Ok (Many fs)) n k e = absurd cc
full-end (Ok (Truth b)) n k e = absurd cc
full-end (Ok Nothing) n k e = absurd cc
full-end (Err (refused.Mismatch m)) n k e = absurd cc
full-end (Err refused.NotFinal) n k e = absurd cc
full-end (Err (refused.Missing op)) n k e = absurd cc
full-end (Err (refused.TooLarge t)) n k e = absurd cc
full-end (Err (refused.Full m j)) n k e = cc
full-end (Err refused.NoMemory) n k e = absurd cc

module _ {X T O M : Type 0} (W : World X T O M) (others : List (Entry O M) → Type 0) {Y : Type 0} (s s' : Sitting Y O M) where
  tried-one : (event : Event O M) (answer : LineAnswer M) (a : Tried O M) → tried_line event a ≡ Some answer → OneEvent W rule_table s.session event (filter_map entered (try_of s.session event a ∷ [])) answer
  tried-one event answer (Replied r) is = inl (r, refl, is)
  tried-one event answer (Full n k) is = inr (n, k, refl, sym (some_inner is))

  -- an event is one event of the accounts
  pub event-one : (x : X) (event : Event O M) (answer : LineAnswer M) → (does : EventDoes (W.offered x) W.object_cells W.morphism_cells others s event answer s') → OneEvent W rule_table s.session event (filter_map entered (try_of s.session event does.tried ∷ [])) answer
  event-one x event answer does = tried-one event answer does.tried does.answered

  -- a call is one call of the accounts, on whatever history the seat's front is of
  pub call-one : (x : X) → Holds (W.offered x) W.object_cells W.morphism_cells s' → (op : OpId) (args : List (Arg M)) (answer : LineAnswer M) → (does : CallDoes (W.offered x) W.object_cells W.morphism_cells others s op.0 args answer s') → (later : List (Entry O M)) → OneCall W rule_table s.session x (told_in (objects (s'.seen ++ later))) op args (filter_map entered does.goes.more) answer
  call-one x H op args answer does later =
      let events = filter_map try_event does.goes.more in
      let stays : StaysTold (told_at s') (told_in (objects (s'.seen ++ later))) = λ h o e. told-longer s'.seen later h o (H.told h o e) in
      record {
        depth = does.depth;
        events = events;
        end = does.end;
        trace = trace-kept (W.offered x) rule_table (told_at s') (told_in (objects (s'.seen ++ later))) stays does.depth does.depth (omega arith) op.0 args events does.end does.trace;
        recorded = recorded s.session does.goes.more does.goes.calls (ends-last events does.end (trace-ends (W.offered x) rule_table (told_at s') does.depth op.0 args events does.end does.trace));
        answered = does.answered;
      }

  -- a call that is refused as full was refused by a front of what was seen
  pub call-full : (x : X) (op : OpId) (args : List (Arg M)) (n k : ℕ) → (does : CallDoes (W.offered x) W.object_cells W.morphism_cells others s op.0 args (line.Refused (refusal.Full n k)) s') → HasFullFront W.object_cells W.morphism_cells s'.seen n k
  call-full x op args n k does =
      let events = filter_map try_event does.goes.more in
      let ends : Ends events does.end = trace-ends (W.offered x) rule_table (told_at s') does.depth op.0 args events does.end does.trace in
      refused-front W.object_cells W.morphism_cells s'.seen does.goes.more n k does.goes.refused (subst (λ x. Ends events x) (full-end does.end n k does.answered) ends)
