-- A step at a turn: others' entries may come before it.
use Rattle.std.proofs.Common.{◌≡◌, ℕ, ◌+◌, List, [], ◌∷◌, length, Result, Ok, Err, Some, sym, subst, ap, ◌∙◌, arith, length-append}
use Rattle.std.proofs.lemmas.List.{append-nil}
use Rattle.cap_names.specs.declared.identifiers.SessionNo.{SessionNo}
use Rattle.cap_ops.specs.Primitives.{OfferData}
use Rattle.cap_rules.specs.Table.{rule_table}
use Rattle.cap_history.specs.declared.entries.Event.{Event}
use Rattle.cap_history.specs.declared.entries.Reply.{Reply}
use Rattle.cap_history.specs.declared.entries.Entry.{Entry}
use Rattle.cap_history.specs.Replies.{entry}
use Rattle.cap_store.specs.declared.refusals.StepRefusal.{StepRefusal}
use Rattle.cap_store.specs.declared.refusals.StepRefusal.TheVariants.{Full, NoMemory}
use Rattle.cap_store.specs.State.{Steps}
use Rattle.cap_legal.specs.Legal.{TrueEvent}
use Rattle.cap_legal.proofs.Longer.{true-longer}
use Rattle.cap_desk.specs.Hands.{Hand, hand_behind}
use Rattle.cap_desk.specs.Desks.{log_of, DeskSteps}
use Rattle.cap_turn.specs.Line.{StartsWith}
use Rattle.cap_session.specs.Anything.{IsAnything}

pub same-label : {L : Type 0} (a b : L) → Some a ≡ Some b → a ≡ b
same-label a b e = cc

module _ {O M : Type 0} (D : OfferData O M) where
  -- what is true of what was seen is true of what begins with it
  pub true-at : (seen taken : List (Entry O M)) (event : Event O M) → StartsWith taken seen → TrueEvent D rule_table seen event → TrueEvent D rule_table taken event
  true-at seen taken event g t = subst (λ es. TrueEvent D rule_table es event) (sym g.1) (true-longer D rule_table seen g.0 event t)

  module _ (object_cells : O → ℕ) (morphism_cells : M → ℕ) (taken seen' : List (Entry O M)) (session : SessionNo) (event : Event O M) where
    -- a step behind what others have put
    pub steps-at : (seen : List (Entry O M)) (result : Result (Reply O M) StepRefusal) → StartsWith taken seen → Steps object_cells morphism_cells (log_of D taken) session event result (log_of D seen')
        → DeskSteps D object_cells morphism_cells IsAnything seen session event result seen'
    steps-at seen result g s = record { between = g.0; allowed = tt; steps = subst (λ es. Steps object_cells morphism_cells (log_of D es) session event result (log_of D seen')) g.1 s }

    -- the history only grows
    pub grown-at : (result : Result (Reply O M) StepRefusal) → Steps object_cells morphism_cells (log_of D taken) session event result (log_of D seen') → StartsWith seen' taken
    grown-at (Ok reply) s = (entry session event reply ∷ [], s.1.is)
    grown-at (Err (Full n k)) s = ([], ap (λ l. l.entries) s.3 ∙ sym (append-nil taken))
    grown-at (Err NoMemory) s = ([], ap (λ l. l.entries) s.1 ∙ sym (append-nil taken))

    -- one entry more was added, where there is one
    pub hand-at : (result : Result (Reply O M) StepRefusal) (place place' : List ℕ) (before after : ℕ) → Steps object_cells morphism_cells (log_of D taken) session event result (log_of D seen')
        → place' ≡ place → after + length taken ≡ before + length seen' → ◌≡◌ {A = Hand} (record { place = place'; added = after }) (hand_behind (record { place = place; added = before }) result)
    hand-at (Ok reply) place place' before after s p e =
        let n : length seen' ≡ length taken + 1 = ap length s.1.is ∙ length-append taken (entry session event reply ∷ []) in
        let m : after ≡ before + 1 = omega (arith, e, n) in
        λ i. record { place = p i; added = m i }
    hand-at (Err (Full n k)) place place' before after s p e =
        let l : length seen' ≡ length taken = ap (λ l. length l.entries) s.3 in
        let m : after ≡ before = omega (arith, e, l) in
        λ i. record { place = p i; added = m i }
    hand-at (Err NoMemory) place place' before after s p e =
        let l : length seen' ≡ length taken = ap (λ l. length l.entries) s.1 in
        let m : after ≡ before = omega (arith, e, l) in
        λ i. record { place = p i; added = m i }
