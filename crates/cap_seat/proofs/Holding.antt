-- What holds of a seat holds of it after each event that it tries, and where others' entries were seen.
use Rattle.std.proofs.Common.{◌≡◌, ℕ, ◌+◌, Bool, true, false, List, [], ◌∷◌, ◌++◌, ◌⊎◌, Option, Some, None, Result, Ok, Err, length, sym, subst, ap, ◌∙◌, refl, inl, inr, arith, append_assoc}
use Rattle.std.specs.Prelude.{◌==◌, if◌then◌else◌, IsSome}
use Rattle.std.specs.List.{All}
use Rattle.std.proofs.lemmas.Bool.{eq-eqb}
use Rattle.std.proofs.lemmas.List.Elements.{All-nil, All-cons, All-weaker}
use Rattle.cap_names.specs.declared.identifiers.Handle.{Handle}
use Rattle.cap_names.specs.declared.identifiers.SessionNo.{SessionNo}
use Rattle.cap_ops.specs.Primitives.{OfferData}
use Rattle.cap_ops.specs.Told.{told_in}
use Rattle.cap_ops.proofs.Places.{get-behind}
use Rattle.cap_rules.specs.Table.{rule_table}
use Rattle.cap_history.specs.declared.entries.Event.{Event}
use Rattle.cap_history.specs.declared.entries.Event.TheVariants.{Declare, Ask, Put}
use Rattle.cap_history.specs.declared.entries.Reply.{Reply}
use Rattle.cap_history.specs.declared.entries.Reply.TheVariants.{Object, Hit, Miss, Kept, Found}
use Rattle.cap_history.specs.declared.entries.Entry.{Entry}
use Rattle.cap_history.specs.declared.reading.Finality.{Finality}
use Rattle.cap_history.specs.Reading.{more_objects, objects, finality}
use Rattle.cap_history.specs.Replies.{entry, Replies, DeclareReplies}
use Rattle.cap_history.proofs.OneMore.{read-more, final-stays}
use Rattle.cap_legal.specs.Legal.{setup_of, Legal}
use Rattle.cap_legal.proofs.Histories.{legal-sound}
use Rattle.cap_legal.proofs.Longer.{told-longer}
use Rattle.cap_store.specs.declared.refusals.StepRefusal.{StepRefusal}
use Rattle.cap_store.specs.declared.refusals.StepRefusal.TheVariants.{Full, NoMemory}
use Rattle.cap_desk.specs.Books.{frame}
use Rattle.cap_desk.specs.Desks.{DeskSteps}
use Rattle.cap_seat.specs.declared.tries.Tried.{Tried}
use Rattle.cap_seat.specs.declared.tries.Tried.TheVariants.{Replied, Full as TriedFull}
use Rattle.cap_seat.specs.Seats.{Sitting, told_among, told_by, shows_plan, known_by, knows_by, Holds, Tries, Waits}
use Rattle.cap_seat.proofs.TheRules.{rules-run}
use Rattle.cap_seat.proofs.Among.{among-cases, among-all}

some-is : (f : Option Finality) (x : Finality) → f ≡ Some x → IsSome f
some-is f x e = subst IsSome (sym e) refl

module _ {O M : Type 0} where
  -- a history that is final stays final
  final-longer : (seen more : List (Entry O M)) (f : Option Finality) → finality seen ≡ f → IsSome f → IsSome (finality (seen ++ more))
  final-longer seen more None e is = let g : false ≡ true = is in absurd cc
  final-longer seen more (Some x) e is = some-is (finality (seen ++ more)) x (final-stays seen more x e)

  pub still-final : (seen more : List (Entry O M)) → IsSome (finality seen) → IsSome (finality (seen ++ more))
  still-final seen more is = final-longer seen more (finality seen) refl is

  -- the same finality in a longer history
  final-same : (seen more : List (Entry O M)) (f : Option Finality) → finality seen ≡ f → IsSome f → finality (seen ++ more) ≡ finality seen
  final-same seen more None e is = let g : false ≡ true = is in absurd cc
  final-same seen more (Some x) e is = final-stays seen more x e ∙ sym e

  pub same-finality : (seen more : List (Entry O M)) → IsSome (finality seen) → finality (seen ++ more) ≡ finality seen
  same-finality seen more is = final-same seen more (finality seen) refl is

either-knows : (b knows : Bool) → (if b then true else knows) ≡ true → (b ≡ true) ⊎ (knows ≡ true)
either-knows true knows e = inl refl
either-knows false knows e = inr e

module _ {O M : Type 0} (D : OfferData O M) (object_cells : O → ℕ) (morphism_cells : M → ℕ) where
  module _ (before : List (Entry O M)) (session : SessionNo) where
    declared-new : (name : List ℕ) (object : O) (h : Handle) → DeclareReplies (setup_of D rule_table) before name object (Object h) → told_in (objects (before ++ entry session (Declare name object) (Object h) ∷ [])) h ≡ Some object
    declared-new name object h (inl old) = told-longer before (entry session (Declare name object) (Object h) ∷ []) h object old.1
    declared-new name object h (inr new) =
        let all = objects before in
        let e : Entry O M = entry session (Declare name object) (Object h) in
        let same : (h.0 == length all) ≡ true = eq-eqb h.0 (length all) new.1 in
        let now : objects (before ++ e ∷ []) ≡ all ++ object ∷ [] = read-more more_objects [] before (e ∷ []) ∙ ap (λ (b : Bool). all ++ (if b then object ∷ [] else [])) same in
        ap (λ os. told_in os h) now ∙ get-behind all (object ∷ []) h.0 0 (new.1 ∙ plus-none (length all))
      where
        plus-none : (n : ℕ) → n ≡ n + 0
        plus-none n = omega arith

    -- the objects that a reply tells are told in the longer history
    pub told-new : (event : Event O M) (reply : Reply O M) → Replies (setup_of D rule_table) before event reply → All (λ x. told_in (objects (before ++ entry session event reply ∷ [])) x.0 ≡ Some x.1) (told_by event reply)
    told-new (Declare name object) (Object h) r =
        let P : Handle × O → Type 0 = λ x. told_in (objects (before ++ entry session (Declare name object) (Object h) ∷ [])) x.0 ≡ Some x.1 in
        All-cons P (h, object) [] (declared-new name object h r) (All-nil P)
    told-new (Ask key) (Hit t) r =
        let more : List (Entry O M) = entry session (Ask key) (Hit t) ∷ [] in
        All-weaker (λ x. told_in (objects before) x.0 ≡ Some x.1) (λ x. told_in (objects (before ++ more)) x.0 ≡ Some x.1) (λ x e. told-longer before more x.0 x.1 e) t.objects r.2.objects
    told-new (Put key out) (Found t) r =
        let more : List (Entry O M) = entry session (Put key out) (Found t) ∷ [] in
        All-weaker (λ x. told_in (objects before) x.0 ≡ Some x.1) (λ x. told_in (objects (before ++ more)) x.0 ≡ Some x.1) (λ x e. told-longer before more x.0 x.1 e) t.objects r.1.objects
    told-new (Put key out) (Kept t) r = subst (λ all. All (λ x. told_in all x.0 ≡ Some x.1) t.objects) (sym (read-more more_objects [] before (entry session (Put key out) (Kept t) ∷ []))) r.2.objects
    told-new event reply r = All-nil (λ x. told_in (objects (before ++ entry session event reply ∷ [])) x.0 ≡ Some x.1)

    -- a reply that shows a plan shows that the history is final
    pub plan-new : (event : Event O M) (reply : Reply O M) → Replies (setup_of D rule_table) before event reply → shows_plan event reply ≡ true → IsSome (finality before)
    plan-new (Ask key) (Hit t) r e = some-is (finality before) (record { at = r.0.0; plan = r.0.1 }) r.0.2.is
    plan-new (Ask key) (Miss c) r e = some-is (finality before) (record { at = r.0.0; plan = r.0.1 }) r.0.2.is
    plan-new _ _ r e = let g : false ≡ true = e in absurd cc

  -- what was seen grows by a step
  pub grown : (others : List (Entry O M) → Type 0) (seen : List (Entry O M)) (session : SessionNo) (event : Event O M) (r : Result (Reply O M) StepRefusal) (seen' : List (Entry O M)) → DeskSteps D object_cells morphism_cells others seen session event r seen' → (more : List (Entry O M)) × (seen' ≡ seen ++ more)
  grown others seen session event (Ok r) seen' s = (s.between ++ entry session event r ∷ [], s.steps.1.is ∙ append_assoc seen s.between (entry session event r ∷ []))
  grown others seen session event (Err (Full n k)) seen' s = (s.between, ap (λ l. l.entries) s.steps.3)
  grown others seen session event (Err NoMemory) seen' s = (s.between, ap (λ l. l.entries) s.steps.1)

  module _ (others : List (Entry O M) → Type 0) {X : Type 0} (s s' : Sitting X O M) (H : Holds D object_cells morphism_cells s) (legal : Legal (frame D object_cells morphism_cells) s'.seen) where
    -- what was told before is told in the longer history
    told-still : (more : List (Entry O M)) → s'.seen ≡ s.seen ++ more → (h : Handle) (o : O) → told_among s.known h ≡ Some o → told_in (objects s'.seen) h ≡ Some o
    told-still more long h o e = subst (λ es. told_in (objects es) h ≡ Some o) (sym long) (told-longer s.seen more h o (H.told h o e))

    plan-still : (more : List (Entry O M)) → s'.seen ≡ s.seen ++ more → s.knows ≡ true → IsSome (finality s'.seen)
    plan-still more long k = subst (λ es. IsSome (finality es)) (sym long) (still-final s.seen more (H.plan k))

    -- each told object of a legal history is the category's
    all-objects : (known : List (Handle × O)) → ((h : Handle) (o : O) → told_among known h ≡ Some o → told_in (objects s'.seen) h ≡ Some o) → (h : Handle) (o : O) → told_among known h ≡ Some o → D.category.is_object o
    all-objects known told h o e = (legal-sound (frame D object_cells morphism_cells) rules-run s'.seen legal).objects h o (told h o e)

    told-after : (event : Event O M) (a : Tried O M) → Tries D object_cells morphism_cells others s event a s' → (h : Handle) (o : O) → told_among (known_by s.known event a) h ≡ Some o → told_in (objects s'.seen) h ≡ Some o
    told-after event (Replied r) T h o e =
        let g = grown others s.seen s.session event (Ok r) s'.seen T.steps in
        let b = T.steps.between in
        elim (among-cases s.known (told_by event r) h o e) [
          | inl old ↦ told-still g.0 g.1 h o old
          | inr new ↦ subst (λ es. told_in (objects es) h ≡ Some o) (sym T.steps.steps.1.is) (among-all (told_in (objects ((s.seen ++ b) ++ entry s.session event r ∷ []))) (told_by event r) (told-new (s.seen ++ b) s.session event r T.steps.steps.1.replies) h o new)
        ]
    told-after event (TriedFull n k) T h o e = let g = grown others s.seen s.session event (Err (Full n k)) s'.seen T.steps in told-still g.0 g.1 h o e

    plan-after : (event : Event O M) (a : Tried O M) → Tries D object_cells morphism_cells others s event a s' → knows_by s.knows event a ≡ true → IsSome (finality s'.seen)
    plan-after event (Replied r) T e =
        let g = grown others s.seen s.session event (Ok r) s'.seen T.steps in
        let b = T.steps.between in
        elim (either-knows (shows_plan event r) s.knows e) [
          | inl new ↦ subst (λ es. IsSome (finality es)) (sym T.steps.steps.1.is) (still-final (s.seen ++ b) (entry s.session event r ∷ []) (plan-new (s.seen ++ b) s.session event r T.steps.steps.1.replies new))
          | inr old ↦ plan-still g.0 g.1 old
        ]
    plan-after event (TriedFull n k) T e = let g = grown others s.seen s.session event (Err (Full n k)) s'.seen T.steps in plan-still g.0 g.1 e

    pub tries-hold : (event : Event O M) (a : Tried O M) → Tries D object_cells morphism_cells others s event a s' → Holds D object_cells morphism_cells s'
    tries-hold event a T = subst (Holds D object_cells morphism_cells) (sym T.is) (record {
      legal = legal;
      told = told-after event a T;
      plan = plan-after event a T;
      objects = all-objects (known_by s.known event a) (told-after event a T);
    })

    pub waits-hold : Waits others s s' → Holds D object_cells morphism_cells s'
    waits-hold W = subst (Holds D object_cells morphism_cells) (sym W.is) (record {
      legal = legal;
      told = told-still W.sees.between W.sees.is;
      plan = plan-still W.sees.between W.sees.is;
      objects = all-objects s.known (told-still W.sees.between W.sees.is);
    })
