-- A step keeps a history legal, and is a desk's.
use Rattle.std.proofs.Common.{◌≡◌, ℕ, List, [], ◌∷◌, length, Result, Ok, Err, sym, subst, ap, ◌∙◌, refl, length-append}
use Rattle.std.proofs.lemmas.List.{append-nil}
use Rattle.cap_names.specs.declared.identifiers.SessionNo.{SessionNo}
use Rattle.cap_ops.specs.Primitives.{OfferData}
use Rattle.cap_rules.specs.Table.{rule_table}
use Rattle.cap_history.specs.declared.entries.Event.{Event}
use Rattle.cap_history.specs.declared.entries.Reply.{Reply}
use Rattle.cap_history.specs.declared.entries.Entry.{Entry}
use Rattle.cap_history.specs.Replies.{entry, Replies, Extends}
use Rattle.cap_store.specs.declared.refusals.StepRefusal.{StepRefusal}
use Rattle.cap_store.specs.declared.refusals.StepRefusal.TheVariants.{Full, NoMemory}
use Rattle.cap_store.specs.State.{Log, Steps}
use Rattle.cap_legal.specs.Legal.{setup_of, TrueEvent, Legal}
use Rattle.cap_legal.proofs.Longer.{legal-next}
use Rattle.cap_desk.specs.Books.{frame, IsLedger}
use Rattle.cap_desk.specs.Hands.{Hand, hand_behind}
use Rattle.cap_desk.specs.Woven.{IsNothing}
use Rattle.cap_desk.specs.Desks.{log_of, DeskSteps}

module _ {O M : Type 0} (D : OfferData O M) (object_cells : O → ℕ) (morphism_cells : M → ℕ) where
  -- the setup of a state that took a step
  pub setup-stays : (log log' : Log O M) (session : SessionNo) (event : Event O M) (result : Result (Reply O M) StepRefusal) → Steps object_cells morphism_cells log session event result log' → log'.setup ≡ log.setup
  setup-stays log log' session event (Ok reply) s = s.0
  setup-stays log log' session event (Err (Full n k)) s = ap (λ l. l.setup) s.3
  setup-stays log log' session event (Err NoMemory) s = ap (λ l. l.setup) s.1

  pub legal-after : (log log' : Log O M) (session : SessionNo) (event : Event O M) (result : Result (Reply O M) StepRefusal) → TrueEvent D rule_table log.entries event → IsLedger D object_cells morphism_cells log → Steps object_cells morphism_cells log session event result log' → Legal (frame D object_cells morphism_cells) log'.entries
  legal-after log log' session event (Ok reply) t L s = subst (Legal (frame D object_cells morphism_cells)) (sym s.1.is) (legal-next (frame D object_cells morphism_cells) log.entries (entry session event reply) L.legal (record { room = s.1.room; replies = subst (λ x. Replies x log.entries event reply) L.setup s.1.replies; is_true = t }))
  legal-after log log' session event (Err (Full n k)) t L s = subst (λ l. Legal (frame D object_cells morphism_cells) l.entries) (sym s.3) L.legal
  legal-after log log' session event (Err NoMemory) t L s = subst (λ l. Legal (frame D object_cells morphism_cells) l.entries) (sym s.1) L.legal

  pub ledger-after : (log log' : Log O M) (session : SessionNo) (event : Event O M) (result : Result (Reply O M) StepRefusal) → TrueEvent D rule_table log.entries event → IsLedger D object_cells morphism_cells log → Steps object_cells morphism_cells log session event result log' → IsLedger D object_cells morphism_cells log'
  ledger-after log log' session event result t L s = record { setup = setup-stays log log' session event result s ∙ L.setup; legal = legal-after log log' session event result t L s }

  -- the same step, with the category's setup
  pub steps-as : (log log' : Log O M) (session : SessionNo) (event : Event O M) (result : Result (Reply O M) StepRefusal) → log.setup ≡ setup_of D rule_table → Steps object_cells morphism_cells log session event result log' → Steps object_cells morphism_cells (log_of D log.entries) session event result (log_of D log'.entries)
  steps-as log log' session event (Ok reply) is s = (refl, subst (λ x. Extends object_cells morphism_cells x log.entries session event reply log'.entries) is s.1)
  steps-as log log' session event (Err (Full n k)) is s = (s.0, s.1, s.2, ap (λ l. log_of D l.entries) s.3)
  steps-as log log' session event (Err NoMemory) is s = (s.0, ap (λ l. log_of D l.entries) s.1)

  -- with nothing between
  pub own-steps : (seen seen' : List (Entry O M)) (session : SessionNo) (event : Event O M) (result : Result (Reply O M) StepRefusal) → Steps object_cells morphism_cells (log_of D seen) session event result (log_of D seen') → DeskSteps D object_cells morphism_cells IsNothing seen session event result seen'
  own-steps seen seen' session event result s = record { between = []; allowed = refl; steps = subst (λ es. Steps object_cells morphism_cells (log_of D es) session event result (log_of D seen')) (sym (append-nil seen)) s }

  -- with all entries added at one desk, a step adds what it enters
  abbrev own_hand : List (Entry O M) → Hand
  own_hand entries = record { place = []; added = length entries }

  pub own-hand : (seen seen' : List (Entry O M)) (session : SessionNo) (event : Event O M) (result : Result (Reply O M) StepRefusal) → Steps object_cells morphism_cells (log_of D seen) session event result (log_of D seen') → own_hand seen' ≡ hand_behind (own_hand seen) result
  own-hand seen seen' session event (Ok reply) s = ap own_hand s.1.is ∙ ap (λ n. record { place = []; added = n }) (length-append seen (entry session event reply ∷ []))
  own-hand seen seen' session event (Err (Full n k)) s = ap (λ l. own_hand l.entries) s.3
  own-hand seen seen' session event (Err NoMemory) s = ap (λ l. own_hand l.entries) s.1
