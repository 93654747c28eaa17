-- The parts of a prelude, one after another.
use Rattle.std.proofs.Common.{◌≡◌, ℕ, ◌+◌, ◌<◌, ◌≤◌, ◌^◌, List, [], ◌∷◌, ◌++◌, length, map, take, get_or, Bool, Option, Some, None, refl, sym, ap, ◌∙◌, subst, find, arith}
use Rattle.std.specs.Prelude.{if◌then◌else◌, option_map, option_to_list, count_by}
use Rattle.std.specs.List.{AllZip}
use Rattle.std.proofs.lemmas.List.{append-nil, take_all, length-append, length-take, map-append}
use Rattle.std.proofs.lemmas.List.Sums.{count_by_more_yes, count_by_more_no, sum_by-take-le}
use Rattle.cap_names.specs.declared.literals.MorLit.{MorLit}
use Rattle.cap_grammar.specs.declared.tree.Command.{Command}
use Rattle.cap_grammar.specs.declared.tree.Item.{Item}
use Rattle.cap_grammar.specs.declared.tree.Item.TheVariants as top
use Rattle.cap_grammar.specs.declared.tree.Over.{Over}
use Rattle.cap_grammar.specs.declared.tree.Over.TheVariants.{Vec, Add, Freyd, Rep}
use Rattle.cap_block_faults.specs.Names.{same}
use Rattle.cap_checked.specs.declared.tree.CheckedObj.{CheckedObj}
use Rattle.cap_check.specs.Unbuilt.{CheckedPart, unbuilt_part, unbuilt_at, unbuilt_token, unbuilt_kind}
use Rattle.cap_fitting.specs.Categories.{category_over, is_category, is_category_named, number_of_categories}
use Rattle.cap_fitting.specs.Commands.{CommandFits}
use Rattle.cap_fitting.specs.Forms.{behind_parts, behind_commands, PartFits, OverFits}
use Rattle.cap_fitting.specs.Literals.{LiteralFits, PartLiteralFits}
use Rattle.cap_fitting.specs.Values.{bound_in, bound_by_part, values_of_parts}
use Rattle.cap_ops.proofs.Places.{none≢some}
use Rattle.cap_fitting.proofs.Places.{front_more, values_more, part_here, part_literal_here}
use Rattle.cap_data.specs.declared.data.MorData.{MorData}
use Rattle.cap_desk.specs.Woven.{IsNothing}
use Rattle.cap_offer.specs.Labels.{Label, vec}
use Rattle.cap_report.specs.declared.lines.LineAnswer.{LineAnswer}
use Rattle.cap_report.specs.declared.lines.LineAnswer.TheVariants as line
use Rattle.cap_report.specs.declared.report.Done.{Done}
use Rattle.cap_report.specs.declared.situation.Made.{Made}
use Rattle.cap_report.specs.Named.{bound_name}
use Rattle.cap_accounts.specs.Commands.{category_of}
use Rattle.cap_accounts.specs.Accounts.{CountFrom, at_first, with_bound}
use Rattle.cap_commands.specs.Agreement.{Standing, Stands, IsMadeOver, Agrees}
use Rattle.cap_commands.specs.Running.{behind_command}
use Rattle.cap_commands.specs.Seats.{AtSeat, AreSeats, telling}
use Rattle.cap_traces.specs.Runs.{prelude_session, new_seat, ItemRuns, ItemsRun}
use Rattle.cap_traces.specs.Laws.{ItemsGoOn}
use Rattle.cap_traces.proofs.Growing.{seats-behind}
use Rattle.cap_session.specs.declared.course.Course.{Course}
use Rattle.cap_session.specs.Courses.{RunsOne}
use Rattle.cap_session.specs.Preludes.{MakesOne, CategoryComes, ItemComes, MakesOver, PartComes, RunsPart, PreludeComes, RunsParts}
use Rattle.cap_session.proofs.Counting.{counts-on}
use Rattle.cap_session.proofs.Going.{agrees-in}
use Rattle.cap_session.proofs.Parts.{none-there, none-apart}
use Rattle.cap_session.proofs.Making.{NoOthers, is_named, over-beside, all-made, no-others, all-stand, seats-more, more-stays}

abbrev node_of : CheckedPart → Item CheckedObj MorLit
node_of p = p.node

abbrev answer_of_done : Done MorData → LineAnswer MorData
answer_of_done d = d.answer

-- what a prelude behind these parts has made and bound
pub record Stood (before : List CheckedPart) (C : Course AtSeat) : Type 0 where
  pub runs : ItemsRun at_first [] (map node_of before) C.events.items (map answer_of_done C.done.items) C.standing C.seats.items
  pub counted : CountFrom 0 C.done.items
  pub long : length C.done.items ≡ length before
  pub are : AreSeats prelude_session C.standing C.seats.items
  pub agrees : Agrees (behind_parts before) C.standing (telling C.seats.items)
  pub others : NoOthers before C.standing
  pub made : length C.standing.categories ≡ number_of_categories before

stood-first : (C : Course AtSeat) → C.standing ≡ at_first → C.seats.items ≡ [] → C.events.items ≡ [] → C.done.items ≡ [] → Stood [] C
stood-first C standing seats silent idle = record {
  runs = (silent, ap (map answer_of_done) idle, standing, seats);
  counted = subst (CountFrom 0) (sym idle) tt;
  long = ap length idle;
  are = rw (standing, seats) (record { numbered = λ i m e. absurd (none≢some e); all = tt });
  agrees = rw (standing) (record { bound = tt; made = λ cat over e. absurd (none≢some e) });
  others = λ cat e. ap (λ (S : Standing). category_of S cat) standing;
  made = ap (λ (S : Standing). length S.categories) standing;
}

pub stands-first : (C : Course AtSeat) (parts : List CheckedPart) → PreludeComes C parts → Stood (take 0 parts) C
stands-first C parts come = stood-first C come.first.standing come.first.seats come.first.silent come.first.idle

-- what is bound makes no category
bound-makes-none : (S : Standing) (name : Option (List ℕ)) (a : LineAnswer MorData) → (with_bound S name a).categories ≡ S.categories
bound-makes-none S None a = refl
bound-makes-none S (Some name) a = refl

count-front : {X : Type 0} (p : X → Bool) (xs : List X) (i : ℕ) → count_by p (take i xs) ≤ count_by p xs
count-front p xs i = sum_by-take-le (λ x. if p x then 1 else 0) xs i

module _ (go : ItemsGoOn) (C0 : Course AtSeat) (parts : List CheckedPart) (come : PreludeComes C0 parts) (i : ℕ) (C : Course AtSeat) (p : CheckedPart) (h : i < length parts) (at : p ≡ get_or parts i p) (s : Stood (take i parts) C) where
  abbrev before : List CheckedPart
  before = take i parts

  in-form : i < length come.form.prelude
  in-form = subst (λ ps. i < length ps) (sym come.is_form) h

  at-form : p ≡ get_or come.form.prelude i p
  at-form = subst (λ ps. p ≡ get_or ps i p) (sym come.is_form) at

  part-fits : PartFits before p.node
  part-fits = subst (λ ps. PartFits (take i ps) p.node) come.is_form (part_here come.form come.fits i p in-form at-form)

  part-literal : PartLiteralFits (category_over before) p.node
  part-literal = subst (λ ps. PartLiteralFits (category_over (take i ps)) p.node) come.is_form (part_literal_here come.form come.literals i p in-form at-form)

  part-built : option_to_list (unbuilt_part p) ≡ []
  part-built = none-there (λ (q : CheckedPart). option_to_list (unbuilt_part q)) come.form.prelude come.built i p in-form at-form

  front-long : length before ≡ i
  front-long = omega (arith, length-take i parts, h)

  few : length C.done.items < 2 ^ 32
  few = omega (arith, s.long, front-long, in-form, come.fits.few_commands)

  few-categories : length C.standing.categories < 256
  few-categories =
      let all : number_of_categories parts ≤ 16 = subst (λ ps. number_of_categories ps ≤ 16) come.is_form come.fits.few_categories in
      omega (arith, s.made, count-front (λ (q : CheckedPart). is_category q.node) parts i, all)

  over-comes : (over : Over) → OverFits before over → option_to_list (option_map (unbuilt_at p.places) (unbuilt_kind over)) ≡ [] → CategoryComes C over
  over-comes (Vec prime) f b = (f, few-categories)
  over-comes (Add t) f b = absurd (cc)
  over-comes (Freyd t) f b = absurd (cc)
  over-comes (Rep t) f b = absurd (cc)

  item-comes : (node : Item CheckedObj MorLit) → PartFits before node → PartLiteralFits (category_over before) node → option_to_list (option_map (unbuilt_at p.places) (unbuilt_token node)) ≡ [] → ItemComes C node
  item-comes (top.Block b) f l e = absurd (cc)
  item-comes (top.Category n over) f l e = over-comes over f.fits e
  item-comes (top.Command c) f l e = record { session = prelude_session; are = s.are; scope = behind_parts before; agrees = s.agrees; fits = f; literal = l }

  pub part-comes : PartComes C p.node
  part-comes = record { few = few; comes = item-comes p.node part-fits part-literal part-built }

  abbrev next : List CheckedPart
  next = take (i + 1) parts

  longer : next ≡ before ++ p ∷ []
  longer = front_more parts i p h at

  nodes : map node_of next ≡ map node_of before ++ p.node ∷ []
  nodes = ap (map node_of) longer ∙ map-append node_of before (p ∷ [])

  module _ (C' : Course AtSeat) where
    answers-on : (a : LineAnswer MorData) → C'.done.items ≡ C.done.items ++ record { command = length C.done.items; answer = a } ∷ [] → map answer_of_done C'.done.items ≡ map answer_of_done C.done.items ++ a ∷ []
    answers-on a done = ap (map answer_of_done) done ∙ map-append answer_of_done C.done.items (record { command = length C.done.items; answer = a } ∷ [])

    counted-on : (a : LineAnswer MorData) → C'.done.items ≡ C.done.items ++ record { command = length C.done.items; answer = a } ∷ [] → CountFrom 0 C'.done.items
    counted-on a done = subst (CountFrom 0) (sym done) (counts-on 0 C.done.items (record { command = length C.done.items; answer = a }) s.counted (omega arith))

    long-on : (a : LineAnswer MorData) → C'.done.items ≡ C.done.items ++ record { command = length C.done.items; answer = a } ∷ [] → length C'.done.items ≡ length next
    long-on a done = ap length done ∙ length-append C.done.items (record { command = length C.done.items; answer = a } ∷ []) ∙ ap (λ n. n + 1) s.long ∙ sym (ap length longer ∙ length-append before (p ∷ []))

    stood-made : (name : List ℕ) (prime : ℕ) → p.node ≡ top.Category name (Vec prime) → MakesOne C name prime C' → Stood next C'
    stood-made name prime node r =
        let made : Made Label = record { name = name; number = record { 0 = length C.standing.categories }; category = vec prime } in
        let S = record C.standing { categories = C.standing.categories ++ made ∷ [] } in
        let seats = C.seats.items ++ new_seat (vec prime) ∷ [] in
        let t' = telling seats in
        let are = seats-more C.standing name prime made refl refl C.seats.items refl s.are in
        let item : ItemRuns C.standing C.seats.items p.node [] line.Category S seats =
        subst (λ n. ItemRuns C.standing C.seats.items n [] line.Category S seats) (sym node) (record { category = vec prime; is = refl; silent = refl; answered = refl; number = made.number; numbered = refl; made = refl; seat = refl }) in
        let runs = go at_first C.standing S [] C.seats.items seats (map node_of before) p.node C.events.items [] (map answer_of_done C.done.items) line.Category s.runs item are in
        let values : values_of_parts next ≡ values_of_parts before =
        values_more bound_by_part [] parts i p h at ∙ ap (λ vs. values_of_parts before ++ vs) (ap (bound_in (values_of_parts before)) node) ∙ append-nil (values_of_parts before) in
        let known : (cat : List ℕ) (over : Over) → category_over next cat ≡ Some over → IsMadeOver S cat over = λ cat over e.
        all-made C.standing name prime made refl refl before p node s.others s.agrees.made cat over (ap (λ ps. category_over ps cat) (sym longer) ∙ e) in
        let agrees : Agrees (behind_parts next) S t' = record {
          bound = subst (λ vs. AllZip (Stands S t') vs C.standing.bound) (sym values) (all-stand C.standing name prime made refl refl (telling C.seats.items) t' (more-stays C.seats.items (new_seat (vec prime))) (values_of_parts before) C.standing.bound s.agrees.bound);
          made = known;
        } in
        let events : C'.events.items ≡ C.events.items ++ [] = ap (λ v. v.items) r.events ∙ sym (append-nil C.events.items) in
        record {
          runs = rw (nodes, events, answers-on line.Category r.done, r.standing, r.seats) runs;
          counted = counted-on line.Category r.done;
          long = long-on line.Category r.done;
          are = rw (r.standing, r.seats) are;
          agrees = rw (r.standing, r.seats) agrees;
          others = subst (λ T. NoOthers next T) (sym r.standing) (subst (λ ps. NoOthers ps S) (sym longer) (no-others C.standing name prime made refl refl before p node s.others));
          made = ap (λ (T : Standing). length T.categories) r.standing ∙ length-append C.standing.categories (made ∷ []) ∙ ap (λ n. n + 1) s.made
              ∙ sym (count_by_more_yes (λ (q : CheckedPart). is_category q.node) parts i p h (ap (λ (q : CheckedPart). is_category q.node) (sym at) ∙ ap is_category node));
        }

    stood-ran : (c : Command CheckedObj MorLit) → p.node ≡ top.Command c → CommandFits (behind_parts before) c → LiteralFits (category_over before) c → RunsOne IsNothing C c C' → Stood next C'
    stood-ran c node fits literal r =
        let here = behind_parts before in
        let S = with_bound C.standing (bound_name c) r.answer in
        let seats = C'.seats.items in
        let are : AreSeats prelude_session C'.standing seats = subst (λ T. AreSeats prelude_session T seats) (sym r.standing) (seats-behind prelude_session C.standing (bound_name c) r.answer seats (r.runs.are prelude_session s.are)) in
        let item : ItemRuns C.standing C.seats.items p.node r.runs.own r.answer C'.standing seats =
        subst (λ n. ItemRuns C.standing C.seats.items n r.runs.own r.answer C'.standing seats) (sym node) (r.runs.runs prelude_session s.are, r.standing) in
        let runs = go at_first C.standing C'.standing [] C.seats.items seats (map node_of before) p.node C.events.items r.runs.own (map answer_of_done C.done.items) r.answer s.runs item are in
        let values : values_of_parts next ≡ (behind_command here c).values =
        values_more bound_by_part [] parts i p h at ∙ ap (λ vs. values_of_parts before ++ vs) (ap (bound_in (values_of_parts before)) node) in
        let over : (cat : List ℕ) → category_over next cat ≡ category_over before cat = λ cat. ap (λ ps. category_over ps cat) longer ∙ over-beside before p cat (ap (is_category_named cat) node) in
        let agrees = r.runs.agrees prelude_session s.are here s.agrees fits literal in
        record {
          runs = rw (nodes, r.runs.added, answers-on r.answer r.done) runs;
          counted = counted-on r.answer r.done;
          long = long-on r.answer r.done;
          are = are;
          agrees = subst (λ T. Agrees (behind_parts next) T (telling seats)) (sym r.standing) (agrees-in (behind_command here c) (behind_parts next) S (telling seats) values over agrees);
          others = λ cat e. ap (find (λ (m : Made Label). same m.name cat)) (ap (λ (T : Standing). T.categories) r.standing ∙ bound-makes-none C.standing (bound_name c) r.answer) ∙ s.others cat (none-apart (is_named cat) before (p ∷ []) (ap (find (is_named cat)) (sym longer) ∙ e)).0;
          made = ap length (ap (λ (T : Standing). T.categories) r.standing ∙ bound-makes-none C.standing (bound_name c) r.answer) ∙ s.made
              ∙ sym (count_by_more_no (λ (q : CheckedPart). is_category q.node) parts i p h (ap (λ (q : CheckedPart). is_category q.node) (sym at) ∙ ap is_category node));
        }

    stood-over : (name : List ℕ) (over : Over) → p.node ≡ top.Category name over → MakesOver C name over C' → Stood next C'
    stood-over name (Vec prime) node r = stood-made name prime node r
    stood-over name (Add t) node r = absurd r
    stood-over name (Freyd t) node r = absurd r
    stood-over name (Rep t) node r = absurd r

    stood-by : (node : Item CheckedObj MorLit) → p.node ≡ node → PartFits before node → PartLiteralFits (category_over before) node → RunsPart C node C' → Stood next C'
    stood-by (top.Block b) e f l r = absurd r
    stood-by (top.Category n over) e f l r = stood-over n over e r
    stood-by (top.Command c) e f l r = stood-ran c e f l r

    pub stands-on-part : RunsPart C p.node C' → Stood next C'
    stands-on-part r = stood-by p.node refl part-fits part-literal r

pub stood-all : (parts : List CheckedPart) (i : ℕ) (C : Course AtSeat) → length parts ≤ i → Stood (take i parts) C → RunsParts parts C
stood-all parts i C h s =
    let t : Stood parts C = subst (λ ps. Stood ps C) (take_all i parts h) s in
    record { runs = t.runs; counted = t.counted; are = t.are; agrees = agrees-in (behind_parts parts) (behind_commands parts []) C.standing (telling C.seats.items) refl (λ cat. refl) t.agrees; made = t.made }
