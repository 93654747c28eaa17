-- What a session sees of a step that it makes: entries of others may have come before it.
use Rattle.std.specs.Prelude.{ℕ, List, ◌++◌, Result}
use Rattle.cap_names.specs.declared.identifiers.SessionNo.{SessionNo}
use Rattle.cap_ops.specs.Primitives.{OfferData}
use Rattle.cap_rules.specs.Table.{rule_table}
use Rattle.cap_history.specs.declared.entries.Event.{Event}
use Rattle.cap_history.specs.declared.entries.Reply.{Reply}
use Rattle.cap_history.specs.declared.entries.Entry.{Entry}
use Rattle.cap_store.specs.declared.refusals.StepRefusal.{StepRefusal}
use Rattle.cap_store.specs.State.{Log, Steps}
use Rattle.cap_legal.specs.Legal.{setup_of}

abbrev pub log_of : {O M : Type 0} → OfferData O M → List (Entry O M) → Log O M
log_of D entries = record { setup = setup_of D rule_table; entries = entries }

-- others' entries, as they may stand between, and then the step: what was seen grows by both
pub record DeskSteps {O M : Type 0} (D : OfferData O M) (object_cells : O → ℕ) (morphism_cells : M → ℕ) (others : List (Entry O M) → Type 0) (seen : List (Entry O M)) (session : SessionNo) (event : Event O M) (result : Result (Reply O M) StepRefusal) (seen' : List (Entry O M)) : Type 0 where
  pub between : List (Entry O M)
  pub allowed : others between
  pub steps : Steps object_cells morphism_cells (log_of D (seen ++ between)) session event result (log_of D seen')
