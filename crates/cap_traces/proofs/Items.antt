-- The parts of a prelude one after another: what the seats see of them, and what they do.
use Rattle.std.proofs.Common.{◌≡◌, ℕ, zero, suc, List, [], ◌∷◌, ◌++◌, refl, sym, ap, ◌∙◌, subst, append_assoc}
use Rattle.std.specs.List.{All}
use Rattle.std.proofs.lemmas.List.{append-nil}
use Rattle.std.proofs.lemmas.List.Elements.{All-nil, All-cons}
use Rattle.cap_names.specs.declared.identifiers.CatNo.{CatNo}
use Rattle.cap_names.specs.declared.literals.MorLit.{MorLit}
use Rattle.cap_grammar.specs.declared.tree.Command.{Command}
use Rattle.cap_grammar.specs.declared.tree.Item.{Item}
use Rattle.cap_grammar.specs.declared.tree.Item.TheVariants as top
use Rattle.cap_grammar.specs.declared.tree.Over.{Over}
use Rattle.cap_grammar.specs.declared.tree.Over.TheVariants as over
use Rattle.cap_checked.specs.declared.tree.CheckedObj.{CheckedObj}
use Rattle.cap_ops.proofs.Places.{get-more}
use Rattle.cap_rules.specs.Table.{rule_table}
use Rattle.cap_data.specs.declared.data.ObjData.{ObjData}
use Rattle.cap_data.specs.declared.data.MorData.{MorData}
use Rattle.cap_desk.proofs.Weaving.{woven-alone}
use Rattle.cap_offer.specs.Labels.{Label}
use Rattle.cap_report.specs.declared.lines.LineAnswer.{LineAnswer}
use Rattle.cap_report.specs.declared.lines.LineAnswer.TheVariants as line
use Rattle.cap_report.specs.declared.lines.LineRefusal.TheVariants as refusal
use Rattle.cap_report.specs.declared.report.History.{History}
use Rattle.cap_report.specs.declared.report.Trace.{Trace}
use Rattle.cap_report.specs.Histories.{history_of}
use Rattle.cap_report.specs.Named.{bound_name}
use Rattle.cap_accounts.specs.Accounts.{of_category, with_bound, FullEnds, FullForAll, table_name, and_then_table, MakesOrLacks, ItemDoes, ItemsDo}
use Rattle.cap_commands.specs.Agreement.{Standing}
use Rattle.cap_commands.specs.Kinds.{kinds}
use Rattle.cap_commands.specs.Seats.{AtSeat, OfData, AreSeats, seen_at, AreWhole, FullIsWhole}
use Rattle.cap_traces.specs.Runs.{prelude_session, new_seat, CategoryRuns, ItemRuns, ItemsRun}
use Rattle.cap_traces.proofs.Growing.{of-both, seats-before}
use Rattle.cap_traces.proofs.Doing.{left-nil, right-nil, full-nothing}
use Rattle.cap_traces.proofs.Longer.{AreLonger, longer-self, longer-on, longer-seats, whole-longer}
use Rattle.cap_traces.proofs.Sharing.{together}

-- nothing is seen at a new seat
seen-new : (x : Label) (seats : List AtSeat) (n : ℕ) → seen_at (seats ++ new_seat x ∷ []) n ≡ seen_at seats n
seen-new x [] zero = refl
seen-new x [] (suc n) = refl
seen-new x (s ∷ seats) zero = refl
seen-new x (s ∷ seats) (suc n) = seen-new x seats n

item-grown : (S : Standing) (seats : List AtSeat) (i : Item CheckedObj MorLit) (events : List (CatNo × OfData)) (a : LineAnswer MorData) (S' : Standing) (seats' : List AtSeat)
    → ItemRuns S seats i events a S' seats' → (n : ℕ) → seen_at seats' n ≡ seen_at seats n ++ of_category n events
item-grown S seats (top.Block b) events a S' seats' runs n = absurd runs
item-grown S seats (top.Category name o) events a S' seats' runs n =
    ap (λ ss. seen_at ss n) runs.seat ∙ seen-new runs.category seats n ∙ sym (append-nil (seen_at seats n)) ∙ ap (λ es. seen_at seats n ++ of_category n es) (sym runs.silent)
item-grown S seats (top.Command c) events a S' seats' runs n = woven-alone (seen_at seats n) (of_category n events) (seen_at seats' n) (runs.0.grown n)

pub items-grown : (S : Standing) (seats : List AtSeat) (items : List (Item CheckedObj MorLit)) (events : List (CatNo × OfData)) (answers : List (LineAnswer MorData)) (S' : Standing) (seats' : List AtSeat)
    → ItemsRun S seats items events answers S' seats' → (n : ℕ) → seen_at seats' n ≡ seen_at seats n ++ of_category n events
items-grown S seats [] events answers S' seats' C n =
    ap (λ ss. seen_at ss n) C.3 ∙ sym (append-nil (seen_at seats n)) ∙ ap (λ es. seen_at seats n ++ of_category n es) (sym C.0)
items-grown S seats (i ∷ items) events answers S' seats' (first, later, a, rest, next, between, e, f, runs, are, more) n =
    items-grown next between items later rest S' seats' more n
    ∙ ap (λ es. es ++ of_category n later) (item-grown S seats i first a next between runs n)
    ∙ append_assoc (seen_at seats n) (of_category n first) (of_category n later)
    ∙ ap (λ es. seen_at seats n ++ es) (sym (of-both n first later))
    ∙ ap (λ es. seen_at seats n ++ of_category n es) (sym e)

pub items-stay : (S : Standing) (seats : List AtSeat) (items : List (Item CheckedObj MorLit)) (events : List (CatNo × OfData)) (answers : List (LineAnswer MorData)) (S' : Standing) (seats' : List AtSeat)
    → ItemsRun S seats items events answers S' seats' → AreSeats prelude_session S seats → AreSeats prelude_session S' seats'
items-stay S seats [] events answers S' seats' C A = subst (λ T. AreSeats prelude_session T seats') (sym C.2) (subst (AreSeats prelude_session S) (sym C.3) A)
items-stay S seats (i ∷ items) events answers S' seats' (first, later, a, rest, next, between, e, f, runs, are, more) A = items-stay next between items later rest S' seats' more are

-- behind a command the seats are still those of the categories before it
same-categories : (S S' : Standing) (c : Command CheckedObj MorLit) (a : LineAnswer MorData) (seats : List AtSeat) → S' ≡ with_bound S (bound_name c) a → AreSeats prelude_session S' seats
    → AreSeats prelude_session S seats
same-categories S S' c a seats is A = seats-before prelude_session S (bound_name c) a seats (subst (λ T. AreSeats prelude_session T seats) is A)

item-longer : (S : Standing) (seats : List AtSeat) (i : Item CheckedObj MorLit) (events : List (CatNo × OfData)) (a : LineAnswer MorData) (S' : Standing) (seats' : List AtSeat)
    → ItemRuns S seats i events a S' seats' → AreSeats prelude_session S seats → AreSeats prelude_session S' seats' → AreLonger seats seats'
item-longer S seats (top.Block b) events a S' seats' runs A B = absurd runs
item-longer S seats (top.Category name o) events a S' seats' runs A B =
    subst (AreLonger seats) (sym runs.seat) (λ n s is. (s, get-more seats (new_seat runs.category ∷ []) n s is, record { offer = refl; more = []; seen = sym (append-nil s.seen) }))
item-longer S seats (top.Command c) events a S' seats' runs A B =
    longer-seats prelude_session S seats seats' (λ n. of_category n events) A (same-categories S S' c a seats' runs.1 B) (item-grown S seats (top.Command c) events a S' seats' runs)

pub items-longer : (S : Standing) (seats : List AtSeat) (items : List (Item CheckedObj MorLit)) (events : List (CatNo × OfData)) (answers : List (LineAnswer MorData)) (S' : Standing) (seats' : List AtSeat)
    → ItemsRun S seats items events answers S' seats' → AreSeats prelude_session S seats → AreLonger seats seats'
items-longer S seats [] events answers S' seats' C A = subst (AreLonger seats) (sym C.3) (longer-self seats)
items-longer S seats (i ∷ items) events answers S' seats' (first, later, a, rest, next, between, e, f, runs, are, more) A =
    longer-on seats between seats' (item-longer S seats i first a next between runs A are) (items-longer next between items later rest S' seats' more are)

pub items-more : (S between S' : Standing) (seats middle seats' : List AtSeat) (items : List (Item CheckedObj MorLit)) (i : Item CheckedObj MorLit) (events own : List (CatNo × OfData))
    (answers : List (LineAnswer MorData)) (a : LineAnswer MorData) → ItemsRun S seats items events answers between middle → ItemRuns between middle i own a S' seats' → AreSeats prelude_session S' seats'
    → ItemsRun S seats (items ++ i ∷ []) (events ++ own) (answers ++ a ∷ []) S' seats'
items-more S between S' seats middle seats' [] i events own answers a C runs are = (
  own,
  [],
  a,
  [],
  S',
  seats',
  ap (λ es. es ++ own) C.0 ∙ sym (append-nil own),
  ap (λ answers. answers ++ a ∷ []) C.1,
  subst (λ ss. ItemRuns S ss i own a S' seats') C.3 (subst (λ T. ItemRuns T middle i own a S' seats') C.2 runs),
  are,
  (refl, refl, refl, refl),
)
items-more S between S' seats middle seats' (j ∷ items) i events own answers a (first, later, b, rest, next, step, e, f, first_runs, first_are, more) runs are = (
  first,
  later ++ own,
  b,
  rest ++ a ∷ [],
  next,
  step,
  ap (λ es. es ++ own) e ∙ append_assoc first later own,
  ap (λ answers. answers ++ a ∷ []) f,
  first_runs,
  first_are,
  items-more next between S' step middle seats' items i later own rest a more runs are,
)

none-together : (c : ℕ) (ts : List (Trace ObjData MorData)) → together c ts ≡ [] → All (λ (t : Trace ObjData MorData). of_category c t.events ≡ []) ts
none-together c [] e = All-nil (λ (t : Trace ObjData MorData). of_category c t.events ≡ [])
none-together c (t ∷ ts) e =
    All-cons (λ (t : Trace ObjData MorData). of_category c t.events ≡ []) t ts (left-nil (of_category c t.events) (together c ts) e) (none-together c ts (right-nil (of_category c t.events) (together c ts) e))

-- whole histories of a run: what was seen behind its prelude, and what came after; where nothing came, no session did anything
module _ (histories : List (History ObjData MorData)) (sessions : List (Trace ObjData MorData)) (after : ℕ → List OfData) (silent : (n : ℕ) → after n ≡ [] → together n sessions ≡ []) where
  abbrev Goes : List AtSeat → List (CatNo × OfData) → Type 0
  Goes seats later = (n : ℕ) → history_of histories n ≡ seen_at seats n ++ (of_category n later ++ after n)

  module _ (S : Standing) (c : Command CheckedObj MorLit) (between : List AtSeat) (later : List (CatNo × OfData)) (are : AreSeats prelude_session S between) (V : AreWhole histories between)
      (goes : Goes between later) where
    full-ends : (a : LineAnswer MorData) → ((whole : List (History ObjData MorData)) → AreWhole whole between → FullIsWhole whole S c a) → FullEnds kinds rule_table histories S c a later
    full-ends (line.Refused (refusal.Full n k)) full =
        let ends = full-nothing prelude_session S c n k between are full histories V (λ m. of_category m later ++ after m) goes in
        (ends.0, ends.1, left-nil (of_category ends.0.0 later) (after ends.0.0) ends.2)
    full-ends _ full = tt

    full-for-all : (a : LineAnswer MorData) → ((whole : List (History ObjData MorData)) → AreWhole whole between → FullIsWhole whole S c a) → FullForAll kinds rule_table histories S c a sessions
    full-for-all (line.Refused (refusal.Full n k)) full =
        let ends = full-nothing prelude_session S c n k between are full histories V (λ m. of_category m later ++ after m) goes in
        (ends.0, ends.1, none-together ends.0.0 sessions (silent ends.0.0 (right-nil (of_category ends.0.0 later) (after ends.0.0) ends.2)))
    full-for-all _ full = tt

  makes : (S : Standing) (seats : List AtSeat) (name : List ℕ) (o : Over) (events : List (CatNo × OfData)) (a : LineAnswer MorData) (S' : Standing) (seats' : List AtSeat)
      → CategoryRuns S seats name o events a S' seats' → MakesOrLacks kinds rule_table histories S name o (table_name kinds rule_table histories o) (and_then_table kinds rule_table histories S (table_name kinds rule_table histories o)) a S'
  makes S seats name (over.Vec p) events a S' seats' runs = record { category = runs.category; is = runs.is; answered = runs.answered; number = runs.number; numbered = runs.numbered; made = runs.made }
  makes S seats name (over.Add t) events a S' seats' runs = absurd runs.is
  makes S seats name (over.Freyd t) events a S' seats' runs = absurd runs.is
  makes S seats name (over.Rep t) events a S' seats' runs = absurd runs.is

  item-does : (S : Standing) (seats : List AtSeat) (i : Item CheckedObj MorLit) (events : List (CatNo × OfData)) (a : LineAnswer MorData) (S' : Standing) (seats' : List AtSeat) (later : List (CatNo × OfData))
      → ItemRuns S seats i events a S' seats' → AreSeats prelude_session S' seats' → AreWhole histories seats' → Goes seats' later → ItemDoes kinds rule_table histories sessions S i events a later S'
  item-does S seats (top.Block b) events a S' seats' later runs are V goes = absurd runs
  item-does S seats (top.Category name o) events a S' seats' later runs are V goes = (runs.silent, makes S seats name o events a S' seats' runs)
  item-does S seats (top.Command c) events a S' seats' later runs are V goes =
      let here = same-categories S S' c a seats' runs.1 are in
      (runs.0.does histories V, full-ends S c seats' later here V goes a runs.0.full, full-for-all S c seats' later here V goes a runs.0.full, runs.1)

  pub items-do : (S : Standing) (seats : List AtSeat) (items : List (Item CheckedObj MorLit)) (events : List (CatNo × OfData)) (answers : List (LineAnswer MorData)) (S' : Standing) (seats' : List AtSeat)
      → ItemsRun S seats items events answers S' seats' → AreWhole histories seats' → ((n : ℕ) → history_of histories n ≡ seen_at seats' n ++ after n)
      → ItemsDo kinds rule_table histories sessions S items events answers S'
  items-do S seats [] events answers S' seats' C W goes = (C.0, C.1, C.2)
  items-do S seats (i ∷ items) events answers S' seats' (first, later, a, rest, next, between, e, f, runs, are, more) W goes =
      let V = whole-longer between seats' (items-longer next between items later rest S' seats' more are) histories W in
      let here : Goes between later = λ n. goes n ∙ ap (λ es. es ++ after n) (items-grown next between items later rest S' seats' more n)
      ∙ append_assoc (seen_at between n) (of_category n later) (after n) in
      subst (λ answers. ItemsDo kinds rule_table histories sessions S (i ∷ items) events answers S') (sym f)
      (first, later, next, e, item-does S seats i first a next between later runs are V here, items-do next between items later rest S' seats' more W goes)
