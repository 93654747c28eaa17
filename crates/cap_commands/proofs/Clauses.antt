-- What each arm ensures gives what its command does at the seat, whether it answers or wants memory.
use Rattle.std.proofs.Common.{◌≡◌, ℕ, List, Option, Some, Result, Ok, Err, sym, subst}
use Rattle.std.specs.Prelude.{IfOk}
use Rattle.cap_names.specs.declared.faults.NoMemory.{NoMemory as Wanting}
use Rattle.cap_names.specs.declared.identifiers.Handle.{Handle}
use Rattle.cap_names.specs.declared.identifiers.OpId.{OpId}
use Rattle.cap_names.specs.declared.literals.MorLit.{MorLit}
use Rattle.cap_grammar.specs.declared.tree.ArgTok.{ArgTok}
use Rattle.cap_grammar.specs.declared.tree.Command.{Command}
use Rattle.cap_grammar.specs.declared.tree.Command.TheVariants as command
use Rattle.cap_grammar.specs.declared.tree.RefTok.{RefTok}
use Rattle.cap_checked.specs.declared.tree.CheckedObj.{CheckedObj}
use Rattle.cap_data.specs.declared.data.ObjData.{ObjData}
use Rattle.cap_data.specs.declared.data.MorData.{MorData}
use Rattle.cap_data.specs.Counts.{cells_in_object, cells_in_morphism}
use Rattle.cap_offer.specs.Labels.{Label, any_offer}
use Rattle.cap_history.specs.declared.entries.Event.{Event}
use Rattle.cap_history.specs.declared.entries.Event.TheVariants as event
use Rattle.cap_report.specs.declared.lines.LineAnswer.{LineAnswer}
use Rattle.cap_report.specs.declared.situation.Made.{Made}
use Rattle.cap_accounts.specs.Commands as accounts
use Rattle.cap_desk.specs.Woven.{AreOthers}
use Rattle.cap_seat.specs.Seats.{told_at, Holds}
use Rattle.cap_session_lines.specs.Doing.{EventDoes, weight_of}
use Rattle.cap_commands.specs.Agreement.{Standing}
use Rattle.cap_commands.specs.Seats.{AtSeat, OfData}
use Rattle.cap_commands.specs.Doing.{DoesAt, ObjectDoes, MorphismDoes, CallGives, in_category}
use Rattle.cap_commands.proofs.EventArms.{register-at, finalise-at, plan-at, object-at}
use Rattle.cap_commands.proofs.LetArms.{let-at}
use Rattle.cap_commands.proofs.CallArms.{call-at}

abbrev Answered : Type 0
Answered = Result (LineAnswer MorData) Wanting

module _ (others : List OfData → Type 0) (are : AreOthers others) (S : Standing) (made : Made Label) (s s' : AtSeat) (is : made.category ≡ s.offer) (k : Command CheckedObj MorLit) where
  abbrev Does : AtSeat → LineAnswer MorData → Type 0
  Does t answer = DoesAt others (in_category s.session S made k) s answer t

  abbrev Event-does : Event ObjData MorData → LineAnswer MorData → Type 0
  Event-does ev answer = EventDoes (any_offer s.offer) cells_in_object cells_in_morphism others s ev answer s'

  as-command : (c : Command CheckedObj MorLit) → k ≡ c → (answer : LineAnswer MorData) (t : AtSeat) → DoesAt others (in_category s.session S made c) s answer t → Does t answer
  as-command c e answer t d = subst (λ x. DoesAt others (in_category s.session S made x) s answer t) (sym e) d

  pub register-clause : (cat : List ℕ) (op : OpId) (weight written : Option ℕ) → k ≡ command.Register cat op weight → written ≡ weight → Holds (any_offer s'.offer) cells_in_object cells_in_morphism s' → (r : Answered)
      → IfOk r (λ answer. Event-does (event.Register op (weight_of (any_offer s.offer) op.0 written)) answer) → IfOk r (λ answer. Does s' answer)
  register-clause cat op weight written e w holds (Ok answer) d =
      as-command (command.Register cat op weight) e answer s' (register-at others are S made s s' is holds cat op weight answer (subst (λ v. Event-does (event.Register op (weight_of (any_offer s.offer) op.0 v)) answer) w d))
  register-clause cat op weight written e w holds (Err x) d = tt

  pub finalise-clause : (cat : List ℕ) → k ≡ command.Finalise cat → Holds (any_offer s'.offer) cells_in_object cells_in_morphism s' → (r : Answered) → IfOk r (λ answer. Event-does event.Finalise answer) → IfOk r (λ answer. Does s' answer)
  finalise-clause cat e holds (Ok answer) d = as-command (command.Finalise cat) e answer s' (finalise-at others are S made s s' is holds cat answer d)
  finalise-clause cat e holds (Err x) d = tt

  pub plan-clause : (cat : List ℕ) → k ≡ command.Plan cat → Holds (any_offer s'.offer) cells_in_object cells_in_morphism s' → (r : Answered) → IfOk r (λ answer. Event-does event.PlanOf answer) → IfOk r (λ answer. Does s' answer)
  plan-clause cat e holds (Ok answer) d = as-command (command.Plan cat) e answer s' (plan-at others are S made s s' is holds cat answer d)
  plan-clause cat e holds (Err x) d = tt

  pub object-clause : (cat name : List ℕ) (lit : CheckedObj) → k ≡ command.Object cat name lit → Holds (any_offer s'.offer) cells_in_object cells_in_morphism s' → (r : Answered) → IfOk r (λ answer. ObjectDoes others made.category name lit s answer s') → IfOk r (λ answer. Does s' answer)
  object-clause cat name lit e holds (Ok answer) d = as-command (command.Object cat name lit) e answer s' (object-at others are S made s s' is holds cat name lit answer d)
  object-clause cat name lit e holds (Err x) d = tt

  pub let-clause : (cat name : List ℕ) (src tgt : RefTok) (lit : MorLit) (a b : Handle) → k ≡ command.Let name cat src tgt lit → accounts.object_at S src ≡ Some a → accounts.object_at S tgt ≡ Some b → Holds (any_offer s.offer) cells_in_object cells_in_morphism s
      → (r : Answered) → IfOk r (λ answer. MorphismDoes made.category (told_at s) a b lit answer) → IfOk r (λ answer. Does s answer)
  let-clause cat name src tgt lit a b e source target holds (Ok answer) d = as-command (command.Let name cat src tgt lit) e answer s (let-at others are S made s cat name src tgt lit a b source target holds is answer d)
  let-clause cat name src tgt lit a b e source target holds (Err x) d = tt

  pub call-clause : (cat name : List ℕ) (op : OpId) (tokens given : List ArgTok) → k ≡ command.Call name cat op tokens → given ≡ tokens → Holds (any_offer s'.offer) cells_in_object cells_in_morphism s'
      → (r : Answered) → IfOk r (λ answer. CallGives others S made.category op given s answer s') → IfOk r (λ answer. Does s' answer)
  call-clause cat name op tokens given e same holds (Ok answer) d =
      as-command (command.Call name cat op tokens) e answer s' (call-at others S made op tokens s s' cat name answer is holds (subst (λ ts. CallGives others S made.category op ts s answer s') same d))
  call-clause cat name op tokens given e same holds (Err x) d = tt
