-- A step only adds to a history.
use Rattle.std.proofs.Common.{◌≡◌, ℕ, List, [], ◌∷◌, Result, Ok, Err, sym, subst, ap, ◌∙◌}
use Rattle.std.proofs.lemmas.List.{append-nil}
use Rattle.cap_names.specs.declared.identifiers.SessionNo.{SessionNo}
use Rattle.cap_ops.specs.Primitives.{OfferData}
use Rattle.cap_history.specs.declared.entries.Event.{Event}
use Rattle.cap_history.specs.declared.entries.Reply.{Reply}
use Rattle.cap_history.specs.declared.entries.Entry.{Entry}
use Rattle.cap_history.specs.Replies.{entry}
use Rattle.cap_store.specs.declared.refusals.StepRefusal.{StepRefusal}
use Rattle.cap_store.specs.declared.refusals.StepRefusal.TheVariants.{Full, NoMemory}
use Rattle.cap_store.specs.State.{Steps}
use Rattle.cap_desk.specs.Desks.{log_of}
use Rattle.cap_turn.specs.Line.{StartsWith}

module _ {O M : Type 0} (D : OfferData O M) (object_cells : O → ℕ) (morphism_cells : M → ℕ) (before after seen : List (Entry O M)) (session : SessionNo) (event : Event O M) where
  grown : (result : Result (Reply O M) StepRefusal) → Steps object_cells morphism_cells (log_of D before) session event result (log_of D after) → StartsWith after before
  grown (Ok reply) s = (entry session event reply ∷ [], s.1.is)
  grown (Err (Full n k)) s = ([], ap (λ l. l.entries) s.3 ∙ sym (append-nil before))
  grown (Err NoMemory) s = ([], ap (λ l. l.entries) s.1 ∙ sym (append-nil before))

  -- where all of it was seen before the step
  pub grown-by : (result : Result (Reply O M) StepRefusal) → seen ≡ before → Steps object_cells morphism_cells (log_of D before) session event result (log_of D after) → StartsWith after seen
  grown-by result e s = subst (StartsWith after) (sym e) (grown result s)
