-- What a command does over a seat, and the line that it answers.
use Rattle.std.specs.Prelude.{◌≡◌, ℕ, ◌≤◌, List, ◌++◌, length, Option, Some, unwrap_or}
use Rattle.std.specs.List.{All, filter_map}
use Rattle.cap_ops.specs.declared.keys.Arg.{Arg}
use Rattle.cap_ops.specs.declared.plans.TheConstants.{MOST_WEIGHT}
use Rattle.cap_ops.specs.Primitives.{OfferData}
use Rattle.cap_rules.specs.Table.{rule_table}
use Rattle.cap_board.specs.Trace.{CallEnd, TraceWithin}
use Rattle.cap_history.specs.declared.entries.Event.{Event}
use Rattle.cap_history.specs.declared.entries.Entry.{Entry}
use Rattle.cap_report.specs.declared.lines.LineAnswer.{LineAnswer}
use Rattle.cap_report.specs.declared.lines.LineAnswer.TheVariants as line
use Rattle.cap_report.specs.declared.lines.LineRefusal.TheVariants as refusal
use Rattle.cap_accounts.specs.Commands.{reply_line, end_line}
use Rattle.cap_desk.specs.Hands.{with_more}
use Rattle.cap_desk.specs.Woven.{IsWoven}
use Rattle.cap_seat.specs.declared.tries.Try.{Try}
use Rattle.cap_seat.specs.declared.tries.Tried.{Tried}
use Rattle.cap_seat.specs.declared.tries.Tried.TheVariants.{Replied, Full}
use Rattle.cap_seat.specs.Events.{try_event, entered}
use Rattle.cap_seat.specs.Seats.{Sitting, told_at, Tries}
use Rattle.cap_seat.specs.Onward.{GoesOn}

-- the line of what an event was answered
abbrev pub tried_line : {O M : Type 0} → Event O M → Tried O M → Option (LineAnswer M)
tried_line event (Replied reply) = reply_line event reply
tried_line event (Full entries cells) = Some (line.Refused (refusal.Full entries cells))

-- an event of the session, and the line of its answer
pub record EventDoes {X O M : Type 0} (D : OfferData O M) (object_cells : O → ℕ) (morphism_cells : M → ℕ) (others : List (Entry O M) → Type 0) (s : Sitting X O M) (event : Event O M) (answer : LineAnswer M) (s' : Sitting X O M) : Type 0 where
  pub tried : Tried O M
  pub tries : Tries D object_cells morphism_cells others s event tried s'
  pub answered : tried_line event tried ≡ Some answer

-- a call of the session: what it tried are the events of its key, and the line is that of its end
pub record CallDoes {X O M : Type 0} (D : OfferData O M) (object_cells : O → ℕ) (morphism_cells : M → ℕ) (others : List (Entry O M) → Type 0) (s : Sitting X O M) (op : ℕ) (args : List (Arg M)) (answer : LineAnswer M) (s' : Sitting X O M) : Type 0 where
  pub goes : GoesOn object_cells morphism_cells others s s'
  pub depth : ℕ
  pub end : CallEnd M
  pub trace : TraceWithin D rule_table (told_at s') depth op args (filter_map try_event goes.more) end
  pub answered : end_line end ≡ Some answer

-- the weight with which a primitive is registered: the written one, or its default, or 1 where it isn't offered
abbrev pub weight_of : {O M : Type 0} → OfferData O M → ℕ → Option ℕ → ℕ
weight_of D op written = unwrap_or written (unwrap_or (D.weight op) 1)

-- each default weight is one that may be registered
pub record HasWeights {O M : Type 0} (D : OfferData O M) : Type 0 where
  pub from : (op n : ℕ) → D.weight op ≡ Some n → 1 ≤ n
  pub to : (op n : ℕ) → D.weight op ≡ Some n → n ≤ MOST_WEIGHT

-- what a command tried stands behind what was tried before, and its entries, all of the session, in what was seen since; they are all that was added at the desk
pub record GoesBy {X O M : Type 0} (others : List (Entry O M) → Type 0) (s : Sitting X O M) (more : List (Try O M)) (s' : Sitting X O M) : Type 0 where
  pub offer : s'.offer ≡ s.offer
  pub session : s'.session ≡ s.session
  pub tries : s'.tries ≡ s.tries ++ more
  pub own : All (λ (e : Entry O M). e.session ≡ s.session) (filter_map entered more)
  pub woven : IsWoven others s.seen (filter_map entered more) s'.seen
  pub hand : s'.hand ≡ with_more s.hand (length (filter_map entered more))
