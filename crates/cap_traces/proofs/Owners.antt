-- The events of a session's commands are the session's own.
use Rattle.std.proofs.Common.{◌≡◌, ℕ, ◌==◌, if◌then◌else◌, Bool, true, false, List, [], ◌∷◌, inl, inr, Option, Some, None, Result, unwrap_or, refl, sym, subst}
use Rattle.std.specs.List.{All, cons_option}
use Rattle.std.proofs.lemmas.List.Elements.{All-nil, All-cons, All-head, All-tail, All-append, All-map}
use Rattle.cap_names.specs.declared.identifiers.CatNo.{CatNo}
use Rattle.cap_names.specs.declared.identifiers.Handle.{Handle}
use Rattle.cap_names.specs.declared.identifiers.SessionNo.{SessionNo}
use Rattle.cap_names.specs.declared.literals.MorLit.{MorLit}
use Rattle.cap_grammar.specs.declared.tree.Command.{Command}
use Rattle.cap_grammar.specs.declared.tree.Command.TheVariants as command
use Rattle.cap_grammar.specs.declared.tree.Item.{Item}
use Rattle.cap_grammar.specs.declared.tree.Item.TheVariants as top
use Rattle.cap_checked.specs.declared.tree.CheckedObj.{CheckedObj}
use Rattle.cap_ops.specs.Told.{told_in}
use Rattle.cap_terms.specs.declared.body.Rule.{Rule}
use Rattle.cap_board.specs.Board.{Event as BoardEvent}
use Rattle.cap_history.specs.declared.entries.Event.{Event}
use Rattle.cap_history.specs.declared.entries.Event.TheVariants as event
use Rattle.cap_history.specs.declared.entries.Entry.{Entry}
use Rattle.cap_history.specs.Reading.{objects}
use Rattle.cap_history.specs.Replies.{entry}
use Rattle.cap_report.specs.declared.lines.LineAnswer.{LineAnswer}
use Rattle.cap_report.specs.declared.lines.LineAnswer.TheVariants as line
use Rattle.cap_report.specs.declared.lines.LineRefusal.{LineRefusal}
use Rattle.cap_report.specs.declared.report.History.{History}
use Rattle.cap_report.specs.declared.report.Trace.{Trace}
use Rattle.cap_report.specs.declared.situation.Made.{Made}
use Rattle.cap_report.specs.declared.situation.Situation.{Situation}
use Rattle.cap_report.specs.Histories.{history_of}
use Rattle.cap_report.specs.Named.{bound_name}
use Rattle.cap_accounts.specs.Worlds.{World}
use Rattle.cap_accounts.specs.Commands.{lacking, Recorded, OneEvent, NoEvent, Reads, DoesIn}
use Rattle.cap_accounts.specs.Accounts.{of_category, with_bound, InCategory, DoesAll, DoesOrLacks, CommandsDo, ItemDoes, ItemsDo}

-- an entry of the session, and an event of it
abbrev pub IsOf : {O M : Type 0} → SessionNo → Entry O M → Type 0
IsOf session e = e.session ≡ session

abbrev pub IsEventOf : {O M : Type 0} → SessionNo → CatNo × Entry O M → Type 0
IsEventOf session e = e.1.session ≡ session

module _ {O M : Type 0} (session : SessionNo) where
  category-one : (b : Bool) (e : Entry O M) (es : List (Entry O M)) → e.session ≡ session → All (IsOf session) es → All (IsOf session) (cons_option (if b then Some e else None) es)
  category-one true e es p h = All-cons (IsOf session) e es p h
  category-one false e es p h = h

  -- so are those of a category
  pub category-own : (n : ℕ) (events : List (CatNo × Entry O M)) → All (IsEventOf session) events → All (IsOf session) (of_category n events)
  category-own n [] h = All-nil (IsOf session)
  category-own n (e ∷ events) h = category-one (e.0.0 == n) e.1 (of_category n events) (All-head (IsEventOf session) e events h) (category-own n events (All-tail (IsEventOf session) e events h))

  no-entries : (entries : List (Entry O M)) → entries ≡ [] → All (IsOf session) entries
  no-entries entries e = subst (All (IsOf session)) (sym e) (All-nil (IsOf session))

  no-events : (events : List (CatNo × Entry O M)) → events ≡ [] → All (IsEventOf session) events
  no-events events e = subst (All (IsEventOf session)) (sym e) (All-nil (IsEventOf session))

  recorded-own : (bs : List (BoardEvent O M)) (entries : List (Entry O M)) → Recorded session bs entries → All (IsOf session) entries
  recorded-own bs [] r = All-nil (IsOf session)
  recorded-own [] (e ∷ es) r = absurd r
  recorded-own (b ∷ bs) (e ∷ es) r = All-cons (IsOf session) e es r.0 (recorded-own bs es r.2)

module _ {X T O M : Type 0} (W : World X T O M) (rules : List Rule) (session : SessionNo) where
  one-own : (ev : Event O M) (entries : List (Entry O M)) (answer : LineAnswer M) → OneEvent W rules session ev entries answer → All (IsOf session) entries
  one-own ev entries answer (inl (r, is, a)) = subst (All (IsOf session)) (sym is) (All-cons (IsOf session) (entry session ev r) [] refl (All-nil (IsOf session)))
  one-own ev entries answer (inr (n, k, is, a)) = no-entries session entries is

  reads-own : {A : Type 0} (is : Result A LineRefusal → Type 0) (K : A → List (Entry O M) → LineAnswer M → Type 0) (entries : List (Entry O M)) (answer : LineAnswer M)
      → ((a : A) → K a entries answer → All (IsOf session) entries) → Reads W rules session is K entries answer → All (IsOf session) entries
  reads-own is K entries answer f (inl (why, e, none)) = no-entries session entries none.0
  reads-own is K entries answer f (inr (a, e, k)) = f a k

  does-own : (S : Situation X T M) (m : Made X) (told : Handle → Option O) (c : Command CheckedObj MorLit) (entries : List (Entry O M)) (answer : LineAnswer M) → DoesIn W rules session S m told c entries answer
      → All (IsOf session) entries
  does-own S m told (command.Register cat op weight) entries answer does = one-own (event.Register op (unwrap_or weight (unwrap_or ((W.offered m.category).weight op.0) 1))) entries answer does
  does-own S m told (command.Finalise cat) entries answer does = one-own event.Finalise entries answer does
  does-own S m told (command.Plan cat) entries answer does = one-own event.PlanOf entries answer does
  does-own S m told (command.Object cat x lit) entries answer does =
      reads-own (W.object_is m.category lit) (λ object. OneEvent W rules session (event.Declare x object)) entries answer (λ object. one-own (event.Declare x object) entries answer) does
  does-own S m told (command.Let x cat src tgt lit) entries answer does =
      reads-own (W.morphism_is m.category does.2 does.3 lit) (λ f es l. NoEvent W rules session es l (line.Morphism (record { src = does.0; tgt = does.1; value = f }))) entries answer
      (λ f none. no-entries session entries none.0) does.8
  does-own S m told (command.Call x cat op args) entries answer does = recorded-own session does.2.events entries does.2.recorded
  does-own S m told (command.Src x r) entries answer does = absurd does
  does-own S m told (command.Tgt x r) entries answer does = absurd does

module _ {X T O M : Type 0} (W : World X T O M) (rules : List Rule) (histories : List (History O M)) where
  in-category-own : (session : SessionNo) (S : Situation X T M) (c : Command CheckedObj MorLit) (events : List (CatNo × Entry O M)) (answer : LineAnswer M) → InCategory W rules histories session S c events answer
      → All (IsEventOf session) events
  in-category-own session S c events answer does =
      subst (All (IsEventOf session)) (sym does.events_are)
      (All-map (IsEventOf session) (λ (e : Entry O M). (does.made.number, e)) does.entries (does-own W rules session S does.made (told_in (objects (history_of histories does.made.number.0))) c does.entries answer does.does))

  all-own : (session : SessionNo) (S : Situation X T M) (c : Command CheckedObj MorLit) (events : List (CatNo × Entry O M)) (answer : LineAnswer M) → DoesAll W rules histories session S c events answer
      → All (IsEventOf session) events
  all-own session S (command.Src x r) events answer does = no-events session events does.0
  all-own session S (command.Tgt x r) events answer does = no-events session events does.0
  all-own session S c events answer does = in-category-own session S c events answer does

  or-own : (lacks : Option (List ℕ)) (session : SessionNo) (S : Situation X T M) (c : Command CheckedObj MorLit) (events : List (CatNo × Entry O M)) (answer : LineAnswer M)
      → DoesOrLacks W rules histories lacks session S c events answer → All (IsEventOf session) events
  or-own (Some name) session S c events answer does = no-events session events does.0
  or-own None session S c events answer does = all-own session S c events answer does

  pub commands-own : (session : SessionNo) (S : Situation X T M) (cs : List (Command CheckedObj MorLit)) (events : List (CatNo × Entry O M)) (answers : List (LineAnswer M))
      → CommandsDo W rules histories session S cs events answers → All (IsEventOf session) events
  commands-own session S [] events answers does = no-events session events does.0
  commands-own session S (c ∷ cs) events [] does = absurd does
  commands-own session S (c ∷ cs) events (a ∷ answers) (first, later, is, here, full, rest) =
      subst (All (IsEventOf session)) (sym is)
      (All-append (IsEventOf session) first later (or-own (lacking S c) session S c first a here) (commands-own session (with_bound S (bound_name c) a) cs later answers rest))

  item-own : (others : List (Trace O M)) (S : Situation X T M) (i : Item CheckedObj MorLit) (events : List (CatNo × Entry O M)) (answer : LineAnswer M) (later : List (CatNo × Entry O M)) (S' : Situation X T M)
      → ItemDoes W rules histories others S i events answer later S' → All (IsEventOf (record { 0 = 0 })) events
  item-own others S (top.Block b) events answer later S' does = no-events (record { 0 = 0 }) events does.0
  item-own others S (top.Category name o) events answer later S' does = no-events (record { 0 = 0 }) events does.0
  item-own others S (top.Command c) events answer later S' does = or-own (lacking S c) (record { 0 = 0 }) S c events answer does.0

  pub items-own : (others : List (Trace O M)) (S : Situation X T M) (items : List (Item CheckedObj MorLit)) (events : List (CatNo × Entry O M)) (answers : List (LineAnswer M)) (S' : Situation X T M)
      → ItemsDo W rules histories others S items events answers S' → All (IsEventOf (record { 0 = 0 })) events
  items-own others S [] events answers S' does = no-events (record { 0 = 0 }) events does.0
  items-own others S (i ∷ items) events [] S' does = absurd does
  items-own others S (i ∷ items) events (a ∷ answers) S' (first, later, next, is, here, rest) =
      subst (All (IsEventOf (record { 0 = 0 }))) (sym is)
      (All-append (IsEventOf (record { 0 = 0 })) first later (item-own others S i first a later next here) (items-own others next items later answers S' rest))
