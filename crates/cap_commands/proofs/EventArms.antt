-- A command of one event, at its seat, does what the accounts say.
use Rattle.std.proofs.Common.{◌≡◌, ℕ, List, [], ◌∷◌, ◌++◌, Option, Some, None, Result, Ok, Err, sym, subst, ap, ◌∙◌, refl, inl, inr, append_assoc}
use Rattle.std.specs.Prelude.{◌⊎◌}
use Rattle.std.specs.List.{filter_map}
use Rattle.std.proofs.lemmas.List.{append-nil}
use Rattle.std.proofs.lemmas.List.Elements.{All-nil}
use Rattle.cap_names.specs.declared.identifiers.Handle.{Handle}
use Rattle.cap_names.specs.declared.identifiers.OpId.{OpId}
use Rattle.cap_names.specs.declared.literals.MorLit.{MorLit}
use Rattle.cap_grammar.specs.declared.tree.Command.{Command}
use Rattle.cap_grammar.specs.declared.tree.Command.TheVariants as command
use Rattle.cap_checked.specs.declared.tree.CheckedObj.{CheckedObj}
use Rattle.cap_checked.specs.declared.tree.CheckedObj.TheVariants as checked
use Rattle.cap_ops.specs.Told.{told_in, StaysTold}
use Rattle.cap_rules.specs.Table.{rule_table}
use Rattle.cap_data.specs.declared.data.ObjData.{ObjData}
use Rattle.cap_data.specs.declared.data.MorData.{MorData}
use Rattle.cap_data.specs.Counts.{cells_in_object, cells_in_morphism}
use Rattle.cap_offer.specs.Labels.{Label, any_offer}
use Rattle.cap_history.specs.declared.entries.Event.{Event}
use Rattle.cap_history.specs.declared.entries.Event.TheVariants as event
use Rattle.cap_history.specs.declared.entries.Entry.{Entry}
use Rattle.cap_history.specs.Reading.{objects}
use Rattle.cap_report.specs.declared.lines.LineAnswer.{LineAnswer}
use Rattle.cap_report.specs.declared.lines.LineAnswer.TheVariants as line
use Rattle.cap_report.specs.declared.lines.LineRefusal.{LineRefusal}
use Rattle.cap_report.specs.declared.lines.LineRefusal.TheVariants as refusal
use Rattle.cap_report.specs.declared.situation.Made.{Made}
use Rattle.cap_accounts.specs.Commands.{OneEvent, DoesIn}
use Rattle.cap_desk.specs.Woven.{IsWoven, AreOthers}
use Rattle.cap_desk.proofs.Handing.{more-none}
use Rattle.cap_desk.proofs.Weaving.{woven-start}
use Rattle.cap_seat.specs.declared.tries.Tried.{Tried}
use Rattle.cap_seat.specs.declared.tries.Tried.TheVariants.{Replied, Full}
use Rattle.cap_seat.specs.Events.{try_of, entered}
use Rattle.cap_board.specs.Board.{ToldObjects}
use Rattle.cap_seat.specs.Seats.{told_among, told_at, known_by, told_by, Tries, Holds}
use Rattle.cap_seat.proofs.Among.{among-more}
use Rattle.cap_session_lines.specs.Doing.{EventDoes, GoesBy, weight_of}
use Rattle.cap_session_lines.proofs.Does.{event-one}
use Rattle.cap_session_lines.proofs.Goes.{event-goes, event-full}
use Rattle.cap_commands.specs.Kinds.{kinds, ObjectIs}
use Rattle.cap_commands.specs.Agreement.{Standing, IsToldAnswer}
use Rattle.cap_commands.specs.Seats.{AtSeat, OfData}
use Rattle.cap_commands.specs.Doing.{Saying, IsFullSeen, DoesAt, ObjectDoes, in_category}
use Rattle.cap_commands.proofs.ToldAnswers.{event-told, event-sort}

-- what an event tells is added to what was told
known-stays : (known : List (Handle × ObjData)) (ev : Event ObjData MorData) (a : Tried ObjData MorData) → StaysTold (told_among known) (told_among (known_by known ev a))
known-stays known ev (Replied r) h o e = among-more known (told_by ev r) h o e
known-stays known ev (Full n k) h o e = e

module _ (others : List OfData → Type 0) (are : AreOthers others) (s s' : AtSeat) where
  abbrev EventAt : Event ObjData MorData → LineAnswer MorData → Type 0
  EventAt ev answer = EventDoes (any_offer s.offer) cells_in_object cells_in_morphism others s ev answer s'

  full-seen : (ev : Event ObjData MorData) (answer : LineAnswer MorData) → EventAt ev answer → IsFullSeen s'.seen answer
  full-seen ev (line.Refused (refusal.Full n k)) does = event-full (any_offer s.offer) cells_in_object cells_in_morphism others s s' ev n k does
  full-seen ev _ does = tt

  -- its object, where it has one, is told
  told-seen : (ev : Event ObjData MorData) (answer : LineAnswer MorData) → EventAt ev answer → Holds (any_offer s'.offer) cells_in_object cells_in_morphism s' → IsToldAnswer (any_offer s'.offer) (told_at s') answer
  told-seen ev answer does holds =
      let known : s'.known ≡ known_by s.known ev does.tried = ap (λ (x : AtSeat). x.known) does.tries.is in
      subst (λ known. IsToldAnswer (any_offer s'.offer) (told_among known) answer) (sym known)
      (event-told (any_offer s'.offer) s.known ev does.tried answer does.answered (subst (λ known. ToldObjects (any_offer s'.offer) (told_among known)) known holds.objects))

  -- an event that is what the command does
  pub event-at : (says : Saying) (ev : Event ObjData MorData) (answer : LineAnswer MorData) → EventAt ev answer → Holds (any_offer s'.offer) cells_in_object cells_in_morphism s'
      → ((told : Handle → Option ObjData) (entries : List OfData) → OneEvent kinds rule_table s.session ev entries answer → says.said told entries answer) → says.sort answer → DoesAt others says s answer s'
  event-at says ev answer does holds said sort = record {
    more = try_of s.session ev does.tried ∷ [];
    goes = event-goes (any_offer s.offer) cells_in_object cells_in_morphism others s s' are ev answer does;
    does = λ later. said (told_in (objects (s'.seen ++ later))) (filter_map entered (try_of s.session ev does.tried ∷ [])) (event-one kinds others s s' s.offer ev answer does);
    sort = sort;
    told = told-seen ev answer does holds;
    full = full-seen ev answer does;
    stays = subst (λ known. StaysTold (told_among s.known) (told_among known)) (sym (ap (λ (x : AtSeat). x.known) does.tries.is)) (known-stays s.known ev does.tried);
  }

-- where nothing is done, nothing is seen
pub nothing-at : (others : List OfData → Type 0) → AreOthers others → (says : Saying) (s : AtSeat) (answer : LineAnswer MorData) → IsFullSeen s.seen answer
    → ((later : List OfData) → says.said (told_in (objects (s.seen ++ later))) [] answer) → says.sort answer → IsToldAnswer (any_offer s.offer) (told_at s) answer → DoesAt others says s answer s
nothing-at others are says s answer full said sort told = record {
  more = [];
  goes = record { offer = refl; session = refl; tries = sym (append-nil s.tries); own = All-nil (λ (e : OfData). e.session ≡ s.session); woven = woven-start others are s.seen; hand = more-none s.hand };
  does = said;
  sort = sort;
  told = told;
  full = full;
  stays = λ h o e. e;
}

module _ (others : List OfData → Type 0) (are : AreOthers others) (S : Standing) (made : Made Label) (s s' : AtSeat) (is : made.category ≡ s.offer) (holds : Holds (any_offer s'.offer) cells_in_object cells_in_morphism s') where
  pub register-at : (cat : List ℕ) (op : OpId) (weight : Option ℕ) (answer : LineAnswer MorData) → EventAt others are s s' (event.Register op (weight_of (any_offer s.offer) op.0 weight)) answer
      → DoesAt others (in_category s.session S made (command.Register cat op weight)) s answer s'
  register-at cat op weight answer does =
      event-at others are s s' (in_category s.session S made (command.Register cat op weight)) (event.Register op (weight_of (any_offer s.offer) op.0 weight)) answer does holds
      (λ told entries one. subst (λ x. OneEvent kinds rule_table s.session (event.Register op (weight_of (any_offer x) op.0 weight)) entries answer) (sym is) one) tt

  pub finalise-at : (cat : List ℕ) (answer : LineAnswer MorData) → EventAt others are s s' event.Finalise answer → DoesAt others (in_category s.session S made (command.Finalise cat)) s answer s'
  finalise-at cat answer does = event-at others are s s' (in_category s.session S made (command.Finalise cat)) event.Finalise answer does holds (λ told entries one. one) tt

  pub plan-at : (cat : List ℕ) (answer : LineAnswer MorData) → EventAt others are s s' event.PlanOf answer → DoesAt others (in_category s.session S made (command.Plan cat)) s answer s'
  plan-at cat answer does = event-at others are s s' (in_category s.session S made (command.Plan cat)) event.PlanOf answer does holds (λ told entries one. one) tt

  -- an object literal is not refused since a history is full
  object-not-full : (x : Label) (lit : CheckedObj) (why : LineRefusal) (seen : List OfData) → ObjectIs x lit (Err why) → IsFullSeen seen (line.Refused why)
  object-not-full x (checked.Lit lit) (refusal.Full n k) seen e = absurd e
  object-not-full x (checked.Paths dims maps) (refusal.Full n k) seen e = absurd e
  object-not-full x lit _ seen e = tt

  abbrev ReadsAt : List ℕ → List ℕ → CheckedObj → Saying
  ReadsAt cat name lit = in_category s.session S made (command.Object cat name lit)

  object-refused-at : (cat name : List ℕ) (lit : CheckedObj) (why : LineRefusal) → ObjectIs made.category lit (Err why) → DoesAt others (ReadsAt cat name lit) s (line.Refused why) s
  object-refused-at cat name lit why e = nothing-at others are (ReadsAt cat name lit) s (line.Refused why) (object-not-full made.category lit why s.seen e) (λ told. inl (why, e, (refl, refl))) refl tt

  pub object-at : (cat name : List ℕ) (lit : CheckedObj) (answer : LineAnswer MorData) → ObjectDoes others made.category name lit s answer s' → DoesAt others (ReadsAt cat name lit) s answer s'
  object-at cat name lit answer (inl (why, e, same, answered)) =
      subst (λ a. DoesAt others (ReadsAt cat name lit) s a s') (sym answered) (subst (λ t. DoesAt others (ReadsAt cat name lit) s (line.Refused why) t) (sym same) (object-refused-at cat name lit why e))
  object-at cat name lit answer (inr (object, e, does)) =
      event-at others are s s' (ReadsAt cat name lit) (event.Declare name object) answer
      (subst (λ x. EventDoes (any_offer x) cells_in_object cells_in_morphism others s (event.Declare name object) answer s') is does) holds (λ told entries one. inr (object, e, one))
      (event-sort name object does.tried answer does.answered)
