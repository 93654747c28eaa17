-- The parts of a prelude one after another: what they make, their events and their answers are determined, but for sizes.
use Rattle.std.proofs.Common.{◌≡◌, ◌⊎◌, ℕ, Bool, List, [], ◌∷◌, ◌++◌, Option, Some, None, length, append_assoc, refl, sym, ap, subst, ◌∙◌, inl, inr, slice_get}
use Rattle.std.specs.Prelude.{find}
use Rattle.std.specs.Option.{option_or}
use Rattle.std.specs.List.{All}
use Rattle.std.proofs.lemmas.List.{append-nil}
use Rattle.std.proofs.lemmas.List.Elements.{filter_map-append}
use Rattle.std.proofs.lemmas.List.Folds.{find-append}
use Rattle.cap_names.specs.declared.identifiers.CatNo.{CatNo}
use Rattle.cap_names.specs.declared.identifiers.SessionNo.{SessionNo}
use Rattle.cap_names.specs.declared.literals.MorLit.{MorLit}
use Rattle.cap_grammar.specs.declared.tree.Item.{Item}
use Rattle.cap_grammar.specs.declared.tree.Item.TheVariants as top
use Rattle.cap_grammar.specs.declared.tree.Over.{Over}
use Rattle.cap_grammar.specs.declared.tree.Over.TheVariants.{Vec, Add, Freyd, Rep}
use Rattle.cap_block_faults.specs.Names.{same}
use Rattle.cap_faults.specs.declared.values.Value.{Value}
use Rattle.cap_fitting.specs.Values.{bound_in}
use Rattle.cap_checked.specs.declared.tree.CheckedObj.{CheckedObj}
use Rattle.cap_ops.specs.Told.{told_in, StaysTold}
use Rattle.cap_ops.proofs.Places.{slice_get-push}
use Rattle.cap_rules.specs.Table.{rule_table}
use Rattle.cap_data.specs.declared.data.ObjData.{ObjData}
use Rattle.cap_data.specs.declared.data.MorData.{MorData}
use Rattle.cap_offer.specs.Labels.{Label}
use Rattle.cap_history.specs.Reading.{objects}
use Rattle.cap_legal.proofs.Longer.{told-longer}
use Rattle.cap_report.specs.declared.report.Trace.{Trace}
use Rattle.cap_report.specs.declared.situation.Made.{Made}
use Rattle.cap_report.specs.Histories.{history_of}
use Rattle.cap_report.specs.Named.{bound_name}
use Rattle.cap_accounts.specs.Accounts.{of_category, with_bound, table_name, table_of, and_then_table, Makes, MakesOrLacks, ItemDoes, ItemsDo}
use Rattle.cap_commands.specs.Agreement.{Standing}
use Rattle.cap_commands.specs.Kinds.{kinds, CategoryIs}
use Rattle.cap_commands.specs.Seats.{OfData}
use Rattle.cap_one_report.specs.Sizes.{answer_without_size}
use Rattle.cap_one_report.proofs.Situations.{bare_situation}
use Rattle.cap_one_report.proofs.Doing.{Line}
use Rattle.cap_one_report.proofs.Commands.{Events, Histories}
use Rattle.cap_one_report.proofs.Agreeing.{AgreeTold, stand-longer}
use Rattle.cap_one_report.proofs.Chains.{LegalFor, StepSide, FitsBehind, step-one, bares}

abbrev pub AnItem : Type 0
AnItem = Item CheckedObj MorLit

abbrev pub prelude_no : SessionNo
prelude_no = record { 0 = 0 }

-- one more category
abbrev pub with_category : Standing → Made Label → Standing
with_category S m = record { tables = S.tables; categories = S.categories ++ m ∷ []; bound = S.bound }

abbrev made_of : List ℕ → CatNo → Label → Made Label
made_of name number x = record { name = name; number = number; category = x }

made-same : (name : List ℕ) (i j : CatNo) (x y : Label) → i.0 ≡ j.0 → x ≡ y → made_of name i x ≡ made_of name j y
made-same name i j x y e f = ap (λ n. made_of name (record { 0 = n }) x) e ∙ ap (made_of name j) f

-- categories stand in the order of their numbers
abbrev pub AreNumbered : List (Made Label) → Type 0
AreNumbered categories = (i : ℕ) (m : Made Label) → slice_get categories i ≡ Some m → m.number.0 ≡ i

numbered-push : (ms : List (Made Label)) (m : Made Label) → AreNumbered ms → m.number.0 ≡ length ms → AreNumbered (ms ++ m ∷ [])
numbered-push ms m old e i x is = elim (slice_get-push ms m x i is) [
  | inl h ↦ old i x h.1
  | inr h ↦ ap (λ (y : Made Label). y.number.0) (sym h.1) ∙ e ∙ sym h.0
]

found-longer : (p : Made Label → Bool) (xs ys : List (Made Label)) (m : Made Label) → find p xs ≡ Some m → find p (xs ++ ys) ≡ Some m
found-longer p xs ys m e = find-append p xs ys ∙ ap (λ o. option_or o (find p ys)) e

-- what a part that makes a category does on two sides
pub record CategoryOne (S T T' : Standing) (a a' : Line) : Type 0 where
  pub answer : answer_without_size a ≡ answer_without_size a'
  pub stands : bare_situation T ≡ bare_situation T'
  pub made : (T ≡ S) ⊎ ((m : Made Label) × (T ≡ with_category S m))

module _ (H H' : Histories) (name : List ℕ) (S S' : Standing) (q : bare_situation S ≡ bare_situation S') where
  makes-one : (p : ℕ) (a a' : Line) (T T' : Standing) → Makes kinds rule_table H S name (Vec p) None a T → Makes kinds rule_table H' S' name (Vec p) None a' T' → CategoryOne S T T' a a'
  makes-one p a a' T T' X X' =
      let m = made_of name X.number X.category in
      let m' = made_of name X'.number X'.category in
      let categories : S.categories ≡ S'.categories = ap (λ (U : Standing). U.categories) q in
      let number : X.number.0 ≡ X'.number.0 = X.numbered ∙ ap length categories ∙ sym X'.numbered in
      let e : m ≡ m' = made-same name X.number X'.number X.category X'.category number (X.is ∙ sym X'.is) in
      record {
        answer = ap answer_without_size (X.answered ∙ sym X'.answered);
        stands = ap bare_situation X.made ∙ (ap (λ (U : Standing). with_category U m) q ∙ (ap (with_category (bare_situation S')) e ∙ ap bare_situation (sym X'.made)));
        made = inr (m, X.made);
      }

  lacks-one : (o : Over) (t : List ℕ) → ((u : Unit {0}) (x : Label) → CategoryIs o (Some u) x → ⊥) → (u u' : Option (Unit {0})) (a a' : Line) (T T' : Standing) → MakesOrLacks kinds rule_table H S name o (Some t) u a T → MakesOrLacks kinds rule_table H' S' name o (Some t) u' a' T'
      → CategoryOne S T T' a a'
  lacks-one o t never None None a a' T T' X X' = record { answer = ap answer_without_size (X.0 ∙ sym X'.0); stands = ap bare_situation X.1 ∙ (q ∙ ap bare_situation (sym X'.1)); made = inl X.1 }
  lacks-one o t never (Some u) u' a a' T T' X X' = absurd (never u X.category X.is)
  lacks-one o t never None (Some u') a a' T T' X X' = absurd (never u' X'.category X'.is)

  category-one : (o : Over) (a a' : Line) (T T' : Standing) → MakesOrLacks kinds rule_table H S name o (table_name kinds rule_table H o) (and_then_table kinds rule_table H S (table_name kinds rule_table H o)) a T
      → MakesOrLacks kinds rule_table H' S' name o (table_name kinds rule_table H' o) (and_then_table kinds rule_table H' S' (table_name kinds rule_table H' o)) a' T' → CategoryOne S T T' a a'
  category-one (Vec p) a a' T T' X X' = makes-one p a a' T T' X X'
  category-one (Add t) a a' T T' X X' = lacks-one (Add t) t (λ u x is. is) (table_of kinds rule_table H S t) (table_of kinds rule_table H' S' t) a a' T T' X X'
  category-one (Freyd t) a a' T T' X X' = lacks-one (Freyd t) t (λ u x is. is) (table_of kinds rule_table H S t) (table_of kinds rule_table H' S' t) a a' T T' X X'
  category-one (Rep t) a a' T T' X X' = lacks-one (Rep t) t (λ u x is. is) (table_of kinds rule_table H S t) (table_of kinds rule_table H' S' t) a a' T T' X X'

-- categories are only added, in the order of their numbers
abbrev pub Adds : Standing → Standing → Type 0
Adds S T = (more : List (Made Label)) × (T.categories ≡ S.categories ++ more)

adds-none : (S T : Standing) → T.categories ≡ S.categories → Adds S T
adds-none S T e = ([], e ∙ sym (append-nil S.categories))

kept-categories : (S : Standing) (name : Option (List ℕ)) (a : Line) → (with_bound S name a).categories ≡ S.categories
kept-categories S None a = refl
kept-categories S (Some name) a = refl

module _ (H : Histories) (traces : List (Trace ObjData MorData)) where
  -- a part adds a category of the next number, or none
  abbrev Next : Standing → Standing → Type 0
  Next S T = (T.categories ≡ S.categories) ⊎ ((m : Made Label) × (T.categories ≡ S.categories ++ m ∷ []) × (m.number.0 ≡ length S.categories))

  makes-next : (S T : Standing) (name : List ℕ) (o : Over) (t : Option (List ℕ)) (u : Option (Unit {0})) (a : Line) → MakesOrLacks kinds rule_table H S name o t u a T → Next S T
  makes-next S T name o (Some t) None a X = inl (ap (λ (U : Standing). U.categories) X.1)
  makes-next S T name o None u a X = inr (made_of name X.number X.category, ap (λ (U : Standing). U.categories) X.made, X.numbered)
  makes-next S T name o (Some t) (Some u) a X = inr (made_of name X.number X.category, ap (λ (U : Standing). U.categories) X.made, X.numbered)

  item-next : (i : AnItem) (S T : Standing) (events : Events) (a : Line) (later : Events) → ItemDoes kinds rule_table H traces S i events a later T → Next S T
  item-next (top.Block b) S T events a later (e, inl d) = absurd d.1
  item-next (top.Block b) S T events a later (e, inr d) = absurd d.1
  item-next (top.Category name o) S T events a later d = makes-next S T name o (table_name kinds rule_table H o) (and_then_table kinds rule_table H S (table_name kinds rule_table H o)) a d.1
  item-next (top.Command c) S T events a later d = inl (ap (λ (U : Standing). U.categories) d.3 ∙ kept-categories S (bound_name c) a)

  item-adds : (S T : Standing) → Next S T → Adds S T
  item-adds S T (inl e) = adds-none S T e
  item-adds S T (inr n) = (n.0 ∷ [], n.1)

  item-numbered : (S T : Standing) → Next S T → AreNumbered S.categories → AreNumbered T.categories
  item-numbered S T (inl e) old = subst AreNumbered (sym e) old
  item-numbered S T (inr n) old = subst AreNumbered (sym n.1) (numbered-push S.categories n.0 old n.2)

  pub items-add : (items : List AnItem) (S T : Standing) (events : Events) (answers : List Line) → ItemsDo kinds rule_table H traces S items events answers T → Adds S T
  items-add [] S T events answers d = adds-none S T (ap (λ (U : Standing). U.categories) d.2)
  items-add (i ∷ items) S T events [] d = absurd d
  items-add (i ∷ items) S T events (a ∷ answers) (first, later, next, e, one, more) =
      let x = item-adds S next (item-next i S next first a later one) in
      let y = items-add items next T later answers more in
      (x.0 ++ y.0, y.1 ∙ ap (λ cs. cs ++ y.0) x.1 ∙ append_assoc S.categories x.0 y.0)

  pub items-numbered : (items : List AnItem) (S T : Standing) (events : Events) (answers : List Line) → ItemsDo kinds rule_table H traces S items events answers T → AreNumbered S.categories → AreNumbered T.categories
  items-numbered [] S T events answers d old = subst AreNumbered (sym (ap (λ (U : Standing). U.categories) d.2)) old
  items-numbered (i ∷ items) S T events [] d old = absurd d
  items-numbered (i ∷ items) S T events (a ∷ answers) (first, later, next, e, one, more) old =
      items-numbered items next T later answers more (item-numbered S next (item-next i S next first a later one) old)

legal-before : (H : Histories) (S T : Standing) → Adds S T → LegalFor H T.categories → LegalFor H S.categories
legal-before H S T adds legal name m e = legal name m (ap (find (λ (m : Made Label). same m.name name)) adds.1 ∙ found-longer (λ m. same m.name name) S.categories adds.0 m e)

-- each command among the parts fits where these values are bound
abbrev pub ItemFits : List Value → AnItem → Type 0
ItemFits values (top.Block b) = Unit {0}
ItemFits values (top.Category name o) = Unit {0}
ItemFits values (top.Command c) = FitsBehind values c

abbrev pub ItemsFit : List Value → List AnItem → Type 0
ItemsFit values [] = Unit {0}
ItemsFit values (i ∷ items) = ItemFits values i × ItemsFit (values ++ bound_in values i) items

abbrev pub values_after : List Value → List AnItem → List Value
values_after values [] = values
values_after values (i ∷ items) = values_after (values ++ bound_in values i) items

-- the rest of a prelude, and what comes later
pub record ItemsSide (H : Histories) (S : Standing) (done : ℕ → List OfData) (events : Events) (rest : ℕ → List OfData) (traces : List (Trace ObjData MorData)) (items : List AnItem) (answers : List Line) (end : Standing) : Type 0 where
  pub whole : (n : ℕ) → history_of H n ≡ done n ++ (of_category n events ++ rest n)
  pub legal : LegalFor H end.categories
  pub none : (n : ℕ) → All (λ (t : Trace ObjData MorData). of_category n t.events ≡ []) traces → rest n ≡ []
  pub does : ItemsDo kinds rule_table H traces S items events answers end

-- what a part makes of two sides that agree before it
pub record ItemOne (values : List Value) (done : ℕ → List OfData) (i : AnItem) (first first' : Events) (a a' : Line) (next next' : Standing) : Type 0 where
  pub events : first ≡ first'
  pub answer : answer_without_size a ≡ answer_without_size a'
  pub stands : bare_situation next ≡ bare_situation next'
  pub agrees : AgreeTold next (λ n. done n ++ of_category n first) (values ++ bound_in values i)

-- a part on one side
pub record PartSide (H : Histories) (S : Standing) (done : ℕ → List OfData) (events : Events) (rest : ℕ → List OfData) (traces : List (Trace ObjData MorData)) (i : AnItem) (first later : Events) (a : Line) (next : Standing) : Type 0 where
  pub whole : (n : ℕ) → history_of H n ≡ done n ++ (of_category n events ++ rest n)
  pub legal : LegalFor H S.categories
  pub none : (n : ℕ) → All (λ (t : Trace ObjData MorData). of_category n t.events ≡ []) traces → rest n ≡ []
  pub splits : events ≡ first ++ later
  pub does : ItemDoes kinds rule_table H traces S i first a later next

-- events in two parts, in each category
joined : (done : ℕ → List OfData) (events first later : Events) → events ≡ first ++ later → (n : ℕ) → (done n ++ of_category n first) ++ of_category n later ≡ done n ++ of_category n events
joined done events first later e n = append_assoc (done n) (of_category n first) (of_category n later) ∙ ap (λ y. done n ++ y) (sym (ap (of_category n) e ∙ filter_map-append _ first later))

parted : (H : Histories) (done : ℕ → List OfData) (events first later : Events) (rest : ℕ → List OfData) → events ≡ first ++ later → ((n : ℕ) → history_of H n ≡ done n ++ (of_category n events ++ rest n))
    → (n : ℕ) → history_of H n ≡ (done n ++ of_category n first) ++ (of_category n later ++ rest n)
parted H done events first later rest e whole n =
    whole n ∙ sym (append_assoc (done n) (of_category n events) (rest n)) ∙ ap (λ y. y ++ rest n) (sym (joined done events first later e n)) ∙ append_assoc (done n ++ of_category n first) (of_category n later) (rest n)

module _ (H H' : Histories) (rest rest' : ℕ → List OfData) (traces traces' : List (Trace ObjData MorData)) where
  category-agrees : (S next : Standing) (values : List Value) (done : ℕ → List OfData) (first : Events) → (next ≡ S) ⊎ ((m : Made Label) × (next ≡ with_category S m)) → AgreeTold S done values → AgreeTold next (λ n. done n ++ of_category n first) (values ++ [])
  category-agrees S next values done first made agree = subst (λ vs. AgreeTold next (λ n. done n ++ of_category n first) vs) (sym (append-nil values)) (go made)
    where
      go : (next ≡ S) ⊎ ((m : Made Label) × (next ≡ with_category S m)) → AgreeTold next (λ n. done n ++ of_category n first) values
      go (inl e) = subst (λ (T : Standing). AgreeTold T (λ n. done n ++ of_category n first) values) (sym e) (stand-longer S S done (λ n. done n ++ of_category n first) (λ cat m is. is) (λ n. told-longer (done n) (of_category n first)) values S.bound agree)
      go (inr x) = subst (λ (T : Standing). AgreeTold T (λ n. done n ++ of_category n first) values) (sym x.1)
          (stand-longer S (with_category S x.0) done (λ n. done n ++ of_category n first) (λ cat m is. found-longer (λ m. same m.name cat) S.categories (x.0 ∷ []) m is) (λ n. told-longer (done n) (of_category n first)) values S.bound agree)

  item-one : (i : AnItem) (S S' : Standing) → bare_situation S ≡ bare_situation S' → (values : List Value) (done : ℕ → List OfData) → AgreeTold S done values → ItemFits values i → (events events' first first' later later' : Events) (a a' : Line) (next next' : Standing)
      → PartSide H S done events rest traces i first later a next → PartSide H' S' done events' rest' traces' i first' later' a' next' → ItemOne values done i first first' a a' next next'
  item-one (top.Block b) S S' q values done agree fit events events' first first' later later' a a' next next' A B = absurd (block-none A.does)
    where
      block-none : ItemDoes kinds rule_table H traces S (top.Block b) first a later next → ⊥
      block-none (e, inl d) = d.1
      block-none (e, inr d) = d.1
  item-one (top.Category name o) S S' q values done agree fit events events' first first' later later' a a' next next' A B =
      let R = category-one H H' name S S' q o a a' next next' A.does.1 B.does.1 in
      record { events = A.does.0 ∙ sym B.does.0; answer = R.answer; stands = R.stands; agrees = category-agrees S next values done first R.made agree }
  item-one (top.Command c) S S' q values done agree fit events events' first first' later later' a a' next next' A B =
      let X : StepSide prelude_no H S done events rest traces c first later a = record { whole = A.whole; legal = A.legal; none = A.none; splits = A.splits; does = A.does.0; ends = A.does.1; others = A.does.2 } in
      let X' : StepSide prelude_no H' S' done events' rest' traces' c first' later' a' = record { whole = B.whole; legal = B.legal; none = B.none; splits = B.splits; does = B.does.0; ends = B.does.1; others = B.does.2 } in
      let R = step-one prelude_no H H' S S' done events events' rest rest' traces traces' c first first' later later' a a' X X' q values agree fit in
      record {
        events = R.events;
        answer = R.answer;
        stands = ap bare_situation A.does.3 ∙ (R.stands ∙ ap bare_situation (sym B.does.3));
        agrees = subst (λ (T : Standing). AgreeTold T (λ n. done n ++ of_category n first) (values ++ bound_in values (top.Command c))) (sym A.does.3) R.agrees;
      }

  -- what several parts make of both sides
  pub record ItemsOne (values : List Value) (done : ℕ → List OfData) (items : List AnItem) (events events' : Events) (answers answers' : List Line) (end end' : Standing) : Type 0 where
    pub same_events : events ≡ events'
    pub same_answers : bares answers ≡ bares answers'
    pub stands : bare_situation end ≡ bare_situation end'
    pub agrees : AgreeTold end (λ n. done n ++ of_category n events) (values_after values items)

  nothing-one : (S S' : Standing) → bare_situation S ≡ bare_situation S' → (values : List Value) (done : ℕ → List OfData) → AgreeTold S done values → (events events' : Events) (answers answers' : List Line) (end end' : Standing)
      → ItemsDo kinds rule_table H traces S [] events answers end → ItemsDo kinds rule_table H' traces' S' [] events' answers' end' → ItemsOne values done [] events events' answers answers' end end'
  nothing-one S S' q values done agree events events' answers answers' end end' d d' = record {
    same_events = d.0 ∙ sym d'.0;
    same_answers = ap bares (d.1 ∙ sym d'.1);
    stands = ap bare_situation d.2 ∙ (q ∙ ap bare_situation (sym d'.2));
    agrees = subst (λ (T : Standing). AgreeTold T (λ n. done n ++ of_category n events) values) (sym d.2)
        (stand-longer S S done (λ n. done n ++ of_category n events) (λ cat m is. is) (λ n. told-longer (done n) (of_category n events)) values S.bound agree);
  }

  pub items-one : (items : List AnItem) (S S' : Standing) → bare_situation S ≡ bare_situation S' → (values : List Value) (done : ℕ → List OfData) → AgreeTold S done values → ItemsFit values items → (events events' : Events) (answers answers' : List Line) (end end' : Standing)
      → ItemsSide H S done events rest traces items answers end → ItemsSide H' S' done events' rest' traces' items answers' end' → ItemsOne values done items events events' answers answers' end end'
  items-one [] S S' q values done agree fit events events' answers answers' end end' A B = nothing-one S S' q values done agree events events' answers answers' end end' A.does B.does
  items-one (i ∷ items) S S' q values done agree fit events events' [] answers' end end' A B = absurd A.does
  items-one (i ∷ items) S S' q values done agree fit events events' (a ∷ answers) [] end end' A B = absurd B.does
  items-one (i ∷ items) S S' q values done agree fit events events' (a ∷ answers) (a' ∷ answers') end end' A B =
      let (first, later, next, e, d, more) = A.does in
      let (first', later', next', e', d', more') = B.does in
      let legal : LegalFor H next.categories = legal-before H next end (items-add H traces items next end later answers more) A.legal in
      let legal' : LegalFor H' next'.categories = legal-before H' next' end' (items-add H' traces' items next' end' later' answers' more') B.legal in
      let X : PartSide H S done events rest traces i first later a next = record { whole = A.whole; legal = legal-before H S next (item-adds H traces S next (item-next H traces i S next first a later d)) legal; none = A.none; splits = e; does = d } in
      let X' : PartSide H' S' done events' rest' traces' i first' later' a' next' = record { whole = B.whole; legal = legal-before H' S' next' (item-adds H' traces' S' next' (item-next H' traces' i S' next' first' a' later' d')) legal'; none = B.none; splits = e'; does = d' } in
      let R = item-one i S S' q values done agree fit.0 events events' first first' later later' a a' next next' X X' in
      let C : ItemsSide H next (λ n. done n ++ of_category n first) later rest traces items answers end = record { whole = parted H done events first later rest e A.whole; legal = A.legal; none = A.none; does = more } in
      let D : ItemsSide H' next' (λ n. done n ++ of_category n first') later' rest' traces' items answers' end' = record { whole = parted H' done events' first' later' rest' e' B.whole; legal = B.legal; none = B.none; does = more' } in
      let D2 = subst (λ (y : Events). ItemsSide H' next' (λ n. done n ++ of_category n y) later' rest' traces' items answers' end') (sym R.events) D in
      let Q = items-one items next next' R.stands (values ++ bound_in values i) (λ n. done n ++ of_category n first) R.agrees fit.1 later later' answers answers' end end' C D2 in
      record {
        same_events = e ∙ ap (λ y. y ++ later) R.events ∙ ap (λ y. first' ++ y) Q.same_events ∙ sym e';
        same_answers = ap (λ b. b ∷ bares answers) R.answer ∙ ap (λ bs. answer_without_size a' ∷ bs) Q.same_answers;
        stands = Q.stands;
        agrees = stand-longer end end (λ n. (done n ++ of_category n first) ++ of_category n later) (λ n. done n ++ of_category n events) (λ cat m is. is)
            (λ n. subst (λ y. StaysTold (told_in (objects ((done n ++ of_category n first) ++ of_category n later))) (told_in (objects y))) (joined done events first later e n) (λ h o is. is)) (values_after values (i ∷ items)) end.bound Q.agrees;
      }
