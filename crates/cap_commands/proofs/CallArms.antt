-- A call at its seat: what it gives, and that it does what the accounts say.
use Rattle.std.proofs.Common.{◌≡◌, ℕ, List, ◌++◌, Option, Some, Result, Ok, Err, sym, subst, ◌∙◌, refl}
use Rattle.std.specs.Prelude.{IfOk, MatchResult}
use Rattle.std.specs.List.{filter_map}
use Rattle.cap_names.specs.declared.faults.NoMemory.{NoMemory as Wanting}
use Rattle.cap_names.specs.declared.identifiers.OpId.{OpId}
use Rattle.cap_grammar.specs.declared.tree.ArgTok.{ArgTok}
use Rattle.cap_grammar.specs.declared.tree.Command.TheVariants as command
use Rattle.cap_ops.specs.declared.keys.Arg.{Arg}
use Rattle.cap_ops.specs.Primitives.{prime_of}
use Rattle.cap_ops.specs.Told.{told_in}
use Rattle.cap_rules.specs.Table.{rule_table}
use Rattle.cap_data.specs.declared.data.ObjData.{ObjData}
use Rattle.cap_data.specs.declared.data.MorData.{MorData}
use Rattle.cap_data.specs.Counts.{cells_in_object, cells_in_morphism}
use Rattle.cap_offer.specs.Labels.{Label, any_offer}
use Rattle.cap_board.specs.declared.refusals.CallRefusal.TheVariants.{NoMemory}
use Rattle.cap_board.specs.Board.{Grows}
use Rattle.cap_board.specs.Call.{Ready, CallSays}
use Rattle.cap_board.specs.Trace.{CallEnd}
use Rattle.cap_history.specs.Reading.{objects}
use Rattle.cap_report.specs.declared.lines.LineAnswer.{LineAnswer}
use Rattle.cap_report.specs.declared.lines.LineAnswer.TheVariants as line
use Rattle.cap_report.specs.declared.lines.LineRefusal.TheVariants as refusal
use Rattle.cap_report.specs.declared.situation.Made.{Made}
use Rattle.cap_accounts.specs.Commands.{AreArguments, OneCall, end_line}
use Rattle.cap_desk.specs.Woven.{AreOthers}
use Rattle.cap_seat.specs.Events.{entered}
use Rattle.cap_seat.specs.Seats.{told_at, state_of, Holds}
use Rattle.cap_seat.specs.Onward.{GoesOn}
use Rattle.cap_seat.proofs.TheRules.{rules-run}
use Rattle.cap_session_lines.specs.Doing.{CallDoes}
use Rattle.cap_session_lines.proofs.Does.{call-does, call-one, call-full}
use Rattle.cap_session_lines.proofs.Goes.{call-goes}
use Rattle.cap_commands.specs.Kinds.{kinds}
use Rattle.cap_commands.specs.Agreement.{Standing, IsToldAnswer}
use Rattle.cap_commands.specs.Seats.{AtSeat, OfData}
use Rattle.cap_commands.specs.Doing.{IsFullSeen, DoesAt, CallGives, in_category}
use Rattle.cap_commands.proofs.ToldAnswers.{call-told}

-- a seat answers in its category by the rules
pub is_ready : (s : AtSeat) (x : Label) → x ≡ s.offer → Ready (state_of s) x rule_table
is_ready s x is = record { offers = sym is; by_rules = refl; are = rules-run }

module _ (others : List OfData → Type 0) (S : Standing) (x : Label) (op : OpId) (tokens : List ArgTok) (s s' : AtSeat) where
  -- a call gives its line, or wants memory
  pub call_gives : (goes : GoesOn cells_in_object cells_in_morphism others s s') → Grows (state_of s) (told_at s) (state_of s') (told_at s') → (given : List (Arg MorData)) → AreArguments S (prime_of (any_offer x)) tokens given → (end : CallEnd MorData)
      → CallSays (any_offer x) (state_of s) (state_of s') (told_at s') op.0 given end → (r : Result (LineAnswer MorData) Wanting) → MatchResult r (λ answer. end_line end ≡ Some answer) (λ e. end ≡ Err NoMemory) → IfOk r (λ answer. CallGives others S x op tokens s answer s')
  call_gives goes grows given are end says (Ok answer) is = record {
    given = given;
    are = are;
    does = call-does (any_offer x) cells_in_object cells_in_morphism others s s' goes op.0 given end answer says is;
    grows = grows;
    end = end;
    says = says;
    answered = is;
  }
  call_gives goes grows given are end says (Err e) is = tt

module _ (others : List OfData → Type 0) (S : Standing) (made : Made Label) (op : OpId) (tokens : List ArgTok) (s s' : AtSeat) where
  abbrev GivesAt : LineAnswer MorData → Type 0
  GivesAt answer = CallGives others S made.category op tokens s answer s'

  call-full-seen : (answer : LineAnswer MorData) → GivesAt answer → IsFullSeen s'.seen answer
  call-full-seen (line.Refused (refusal.Full n k)) g = call-full kinds others s s' made.category op g.given n k g.does
  call-full-seen _ g = tt

  pub call-at : (cat name : List ℕ) (answer : LineAnswer MorData) → made.category ≡ s.offer → Holds (any_offer s'.offer) cells_in_object cells_in_morphism s' → GivesAt answer → DoesAt others (in_category s.session S made (command.Call name cat op tokens)) s answer s'
  call-at cat name answer is holds g =
      let goes = call-goes (any_offer made.category) cells_in_object cells_in_morphism others s s' op.0 g.given answer g.does in
      let here : Holds (any_offer made.category) cells_in_object cells_in_morphism s' = subst (λ y. Holds (any_offer y) cells_in_object cells_in_morphism s') (goes.offer ∙ sym is) holds in
      let told = call-told (any_offer made.category) (state_of s) (state_of s') (told_at s') op.0 g.given g.end answer g.says g.answered in
      record {
        more = g.does.goes.more;
        goes = goes;
        does = λ later. (g.given, g.are, call-one kinds others s s' made.category here op g.given answer g.does later);
        sort = told.1;
        told = subst (λ y. IsToldAnswer (any_offer y) (told_at s') answer) (is ∙ sym goes.offer) told.0;
        full = call-full-seen answer g;
        stays = g.grows.stays;
      }
