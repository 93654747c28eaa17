-- Commands one after another: their events and answers are determined by what stands before the first, but for sizes.
use Rattle.std.proofs.Common.{◌≡◌, ℕ, List, [], ◌∷◌, ◌++◌, Option, Some, None, append_assoc, refl, sym, ap, subst, ◌∙◌, map}
use Rattle.std.specs.Prelude.{find, option_map}
use Rattle.std.specs.List.{All}
use Rattle.std.proofs.lemmas.List.Elements.{filter_map-append}
use Rattle.cap_names.specs.declared.identifiers.CatNo.{CatNo}
use Rattle.cap_names.specs.declared.identifiers.Handle.{Handle}
use Rattle.cap_names.specs.declared.identifiers.SessionNo.{SessionNo}
use Rattle.cap_names.specs.declared.literals.MorLit.{MorLit}
use Rattle.cap_grammar.specs.declared.tree.Command.{Command}
use Rattle.cap_grammar.specs.declared.tree.Command.TheVariants.{Register, Finalise, Plan, Object, Src, Tgt, Let, Call}
use Rattle.cap_block_faults.specs.Names.{same}
use Rattle.cap_faults.specs.declared.values.Value.{Value}
use Rattle.cap_fitting.specs.Commands.{Scope, CommandFits}
use Rattle.cap_fitting.specs.Values.{bound_by}
use Rattle.cap_checked.specs.declared.tree.CheckedObj.{CheckedObj}
use Rattle.cap_ops.specs.declared.arrows.Arrow.{Arrow}
use Rattle.cap_ops.specs.Primitives.{prime_of}
use Rattle.cap_ops.proofs.Places.{some_inner}
use Rattle.cap_rules.specs.Table.{rule_table}
use Rattle.cap_data.specs.declared.data.ObjData.{ObjData}
use Rattle.cap_data.specs.declared.data.MorData.{MorData}
use Rattle.cap_offer.specs.Labels.{Label, any_offer}
use Rattle.cap_report.specs.declared.lines.LineAnswer.TheVariants as line
use Rattle.cap_report.specs.declared.lines.LineRefusal.TheVariants as refusal
use Rattle.cap_report.specs.declared.report.Trace.{Trace}
use Rattle.cap_report.specs.declared.situation.Made.{Made}
use Rattle.cap_report.specs.Histories.{history_of}
use Rattle.cap_report.specs.Named.{category_name, bound_name}
use Rattle.cap_accounts.specs.Commands.{category_of, lacking, DoesIn}
use Rattle.cap_accounts.specs.Accounts.{of_category, with_bound, InCategory, DoesAll, DoesOrLacks, FullEnds, FullForAll, CommandsDo}
use Rattle.cap_commands.specs.Agreement.{Standing}
use Rattle.cap_commands.specs.Kinds.{kinds}
use Rattle.cap_commands.specs.Seats.{OfData}
use Rattle.cap_one_report.specs.Sizes.{answer_without_size}
use Rattle.cap_one_report.specs.InTurn.{StayFull}
use Rattle.cap_one_report.proofs.Situations.{bare_situation, object-bare, arrow-bare, lacking-bare, arguments-bare, bound-bare}
use Rattle.cap_one_report.proofs.Doing.{Line, TellsEnds}
use Rattle.cap_one_report.proofs.Commands.{Events, Histories, LegalIn, CommandSide, EndsThere, full-line, command-one}
use Rattle.cap_one_report.proofs.Agreeing.{AgreeTold, knows-ends, agree-next}

-- the same command before what stands but for sizes
module _ (S : Standing) where
  in-bare : (session : SessionNo) (m : Made Label) (told : Handle → Option ObjData) (c : Command CheckedObj MorLit) (es : List OfData) (a : Line) → DoesIn kinds rule_table session S m told c es a → DoesIn kinds rule_table session (bare_situation S) m told c es a
  in-bare session m told (Register cat op weight) es a d = d
  in-bare session m told (Finalise cat) es a d = d
  in-bare session m told (Plan cat) es a d = d
  in-bare session m told (Object cat x lit) es a d = d
  in-bare session m told (Src x r) es a d = d
  in-bare session m told (Tgt x r) es a d = d
  in-bare session m told (Let x cat src tgt lit) es a (f, g, from, to, is, it, source, target, read) = (f, g, from, to, object-bare S src ∙ is, object-bare S tgt ∙ it, source, target, read)
  in-bare session m told (Call x cat op args) es a (given, are, call) = (given, arguments-bare S (prime_of (any_offer m.category)) args given are, call)

  category-bare : (H : Histories) (session : SessionNo) (c : Command CheckedObj MorLit) (events : Events) (a : Line) → InCategory kinds rule_table H session S c events a → InCategory kinds rule_table H session (bare_situation S) c events a
  category-bare H session c events a d = record { name = d.name; named = d.named; made = d.made; is = d.is; entries = d.entries; events_are = d.events_are; does = in-bare session d.made _ c d.entries a d.does }

  all-bare : (H : Histories) (session : SessionNo) (c : Command CheckedObj MorLit) (events : Events) (a : Line) → DoesAll kinds rule_table H session S c events a → DoesAll kinds rule_table H session (bare_situation S) c events a
  all-bare H session (Register cat op weight) events a d = category-bare H session (Register cat op weight) events a d
  all-bare H session (Finalise cat) events a d = category-bare H session (Finalise cat) events a d
  all-bare H session (Plan cat) events a d = category-bare H session (Plan cat) events a d
  all-bare H session (Object cat x lit) events a d = category-bare H session (Object cat x lit) events a d
  all-bare H session (Src x r) events a d = (d.0, ap (option_map (λ (f : Arrow MorData). line.Object f.src)) (arrow-bare S r) ∙ d.1)
  all-bare H session (Tgt x r) events a d = (d.0, ap (option_map (λ (f : Arrow MorData). line.Object f.tgt)) (arrow-bare S r) ∙ d.1)
  all-bare H session (Let x cat src tgt lit) events a d = category-bare H session (Let x cat src tgt lit) events a d
  all-bare H session (Call x cat op args) events a d = category-bare H session (Call x cat op args) events a d

  or-bare : (H : Histories) (session : SessionNo) (c : Command CheckedObj MorLit) (events : Events) (a : Line) (o : Option (List ℕ)) → DoesOrLacks kinds rule_table H o session S c events a → DoesOrLacks kinds rule_table H o session (bare_situation S) c events a
  or-bare H session c events a None d = all-bare H session c events a d
  or-bare H session c events a (Some name) d = d

  side-bare : (session : SessionNo) (H : Histories) (c : Command CheckedObj MorLit) (done : ℕ → List OfData) (first : Events) (later : ℕ → List OfData) (a : Line) → CommandSide session H S c done first later a → CommandSide session H (bare_situation S) c done first later a
  side-bare session H c done first later a A = record {
    whole = A.whole;
    legal = A.legal;
    full = A.full;
    does = subst (λ o. DoesOrLacks kinds rule_table H o session (bare_situation S) c first a) (sym (lacking-bare S c)) (or-bare H session c first a (lacking S c) A.does);
  }

  ends-bare : (done : List OfData) (c : Command CheckedObj MorLit) → TellsEnds done S c → TellsEnds done (bare_situation S) c
  ends-bare done (Let y cat src tgt lit) t = (λ h q. t.0 h (sym (object-bare S src) ∙ q), λ h q. t.1 h (sym (object-bare S tgt) ∙ q))
  ends-bare done (Register cat op weight) t = tt
  ends-bare done (Finalise cat) t = tt
  ends-bare done (Plan cat) t = tt
  ends-bare done (Object cat x lit) t = tt
  ends-bare done (Src x r) t = tt
  ends-bare done (Tgt x r) t = tt
  ends-bare done (Call x cat op args) t = tt

-- where a refusal tells a full history, nothing comes later in the session, nor in later ones
module _ (H : Histories) (S : Standing) (c : Command CheckedObj MorLit) (later : Events) (traces : List (Trace ObjData MorData)) (rest : ℕ → List OfData) (none : (n : ℕ) → All (λ (t : Trace ObjData MorData). of_category n t.events ≡ []) traces → rest n ≡ []) where
  abbrev pub and_rest : ℕ → List OfData
  and_rest n = of_category n later ++ rest n

  pub ends-there : (a : Line) → FullEnds kinds rule_table H S c a later → FullForAll kinds rule_table H S c a traces → EndsThere H S c and_rest a
  ends-there (line.Refused (refusal.Full n k)) (category, F, e) (other, G, all) =
      let names : F.name ≡ G.name = some_inner (sym F.named ∙ G.named) in
      let made : F.made ≡ G.made = some_inner (sym F.is ∙ ap (category_of S) names ∙ G.is) in
      let number : other ≡ category = sym G.number ∙ ap (λ (m : Made Label). m.number) (sym made) ∙ F.number in
      let rest-none : rest category.0 ≡ [] = ap (λ (y : CatNo). rest y.0) (sym number) ∙ none other.0 all in
      (category, F, ap (λ y. y ++ rest category.0) e ∙ rest-none)
  ends-there _ f g = tt

abbrev pub LegalFor : Histories → List (Made Label) → Type 0
LegalFor H categories = (name : List ℕ) (m : Made Label) → find (λ m. same m.name name) categories ≡ Some m → LegalIn m (history_of H m.number.0)

same-categories : (S : Standing) (name : Option (List ℕ)) (a : Line) → (with_bound S name a).categories ≡ S.categories
same-categories S None a = refl
same-categories S (Some name) a = refl

-- one command of a session with what it does, before what the session does later, and before the rest of the histories
pub record StepSide (session : SessionNo) (H : Histories) (S : Standing) (done : ℕ → List OfData) (events : Events) (rest : ℕ → List OfData) (traces : List (Trace ObjData MorData)) (c : Command CheckedObj MorLit) (first later : Events) (a : Line) : Type 0 where
  pub whole : (n : ℕ) → history_of H n ≡ done n ++ (of_category n events ++ rest n)
  pub legal : LegalFor H S.categories
  pub none : (n : ℕ) → All (λ (t : Trace ObjData MorData). of_category n t.events ≡ []) traces → rest n ≡ []
  pub splits : events ≡ first ++ later
  pub does : DoesOrLacks kinds rule_table H (lacking S c) session S c first a
  pub ends : FullEnds kinds rule_table H S c a later
  pub others : FullForAll kinds rule_table H S c a traces

module _ (session : SessionNo) (H : Histories) (S : Standing) (done : ℕ → List OfData) (events : Events) (rest : ℕ → List OfData) (traces : List (Trace ObjData MorData)) (c : Command CheckedObj MorLit) (first later : Events) (a : Line)
    (A : StepSide session H S done events rest traces c first later a) where
  parted : (n : ℕ) → history_of H n ≡ done n ++ (of_category n first ++ (of_category n later ++ rest n))
  parted n =
      let apart : of_category n events ≡ of_category n first ++ of_category n later = ap (of_category n) A.splits ∙ filter_map-append _ first later in
      A.whole n ∙ ap (λ y. done n ++ (y ++ rest n)) apart ∙ ap (λ y. done n ++ y) (append_assoc (of_category n first) (of_category n later) (rest n))

  -- the command in the histories
  command-side : CommandSide session H S c done first (λ n. of_category n later ++ rest n) a
  command-side = record {
    whole = parted;
    legal = A.legal;
    full = full-line H S c done first (λ n. of_category n later ++ rest n) parted a (ends-there H S c later traces rest A.none a A.ends A.others);
    does = A.does;
  }

  -- and the histories behind it
  pub whole-behind : (n : ℕ) → history_of H n ≡ (done n ++ of_category n first) ++ (of_category n later ++ rest n)
  whole-behind n = parted n ∙ sym (append_assoc (done n) (of_category n first) (of_category n later ++ rest n))

  pub legal-behind : LegalFor H (with_bound S (bound_name c) a).categories
  legal-behind = subst (LegalFor H) (sym (same-categories S (bound_name c) a)) A.legal

-- what one command makes of two sides that agree before it
pub record StepOne (S S' : Standing) (values : List Value) (done : ℕ → List OfData) (c : Command CheckedObj MorLit) (first first' : Events) (a a' : Line) : Type 0 where
  pub events : first ≡ first'
  pub answer : answer_without_size a ≡ answer_without_size a'
  pub stands : bare_situation (with_bound S (bound_name c) a) ≡ bare_situation (with_bound S' (bound_name c) a')
  pub agrees : AgreeTold (with_bound S (bound_name c) a) (λ n. done n ++ of_category n first) (values ++ bound_by values c)

-- a command fits where these values are bound
abbrev pub FitsBehind : List Value → Command CheckedObj MorLit → Type 0
FitsBehind values c = (scope : Scope) × (scope.values ≡ values) × CommandFits scope c

module _ (session : SessionNo) (H H' : Histories) (S S' : Standing) (done : ℕ → List OfData) (events events' : Events) (rest rest' : ℕ → List OfData) (traces traces' : List (Trace ObjData MorData)) (c : Command CheckedObj MorLit)
    (first first' later later' : Events) (a a' : Line) (A : StepSide session H S done events rest traces c first later a) (B : StepSide session H' S' done events' rest' traces' c first' later' a') where
  pub step-one : bare_situation S ≡ bare_situation S' → (values : List Value) → AgreeTold S done values → FitsBehind values c → StepOne S S' values done c first first' a a'
  step-one q values agree fit =
      let X = command-side session H S done events rest traces c first later a A in
      let X' = command-side session H' S' done events' rest' traces' c first' later' a' B in
      let Y = side-bare S session H c done first (λ n. of_category n later ++ rest n) a X in
      let Y' : CommandSide session H' (bare_situation S) c done first' (λ n. of_category n later' ++ rest' n) a'
      = subst (λ (T : Standing). CommandSide session H' T c done first' (λ n. of_category n later' ++ rest' n) a') (sym q) (side-bare S' session H' c done first' (λ n. of_category n later' ++ rest' n) a' X') in
      let knows = λ (name : List ℕ) (m : Made Label) (named : category_name c ≡ Some name) (is : category_of S name ≡ Some m).
      ends-bare S (done m.number.0) c (knows-ends session H S done first (λ n. of_category n later ++ rest n) a values agree fit.0 fit.1 c fit.2 name m named is) in
      let R = command-one session (bare_situation S) done first first' H H' (λ n. of_category n later ++ rest n) (λ n. of_category n later' ++ rest' n) a a' c Y Y' knows in
      record {
        events = R.0;
        answer = R.1;
        stands = bound-bare S (bound_name c) a ∙ (ap (λ (U : Standing). with_bound U (bound_name c) (answer_without_size a)) q
            ∙ (ap (λ b. with_bound (bare_situation S') (bound_name c) b) R.1 ∙ sym (bound-bare S' (bound_name c) a')));
        agrees = agree-next session H S done first (λ n. of_category n later ++ rest n) a values agree fit.0 fit.1 c fit.2 X;
      }

abbrev pub bares : List Line → List Line
bares answers = map answer_without_size answers

-- each command fits where these values are bound
abbrev pub AllFit : List Value → List (Command CheckedObj MorLit) → Type 0
AllFit values [] = Unit {0}
AllFit values (c ∷ cs) = FitsBehind values c × AllFit (values ++ bound_by values c) cs

-- the rest of a session's commands, and what comes later
pub record ChainSide (session : SessionNo) (H : Histories) (S : Standing) (done : ℕ → List OfData) (events : Events) (rest : ℕ → List OfData) (traces : List (Trace ObjData MorData)) (cs : List (Command CheckedObj MorLit)) (answers : List Line) : Type 0 where
  pub whole : (n : ℕ) → history_of H n ≡ done n ++ (of_category n events ++ rest n)
  pub legal : LegalFor H S.categories
  pub none : (n : ℕ) → All (λ (t : Trace ObjData MorData). of_category n t.events ≡ []) traces → rest n ≡ []
  pub does : CommandsDo kinds rule_table H session S cs events answers
  pub stay : StayFull kinds rule_table H S cs answers traces

module _ (session : SessionNo) (H H' : Histories) (rest rest' : ℕ → List OfData) (traces traces' : List (Trace ObjData MorData)) where
  pub chain-one : (cs : List (Command CheckedObj MorLit)) (S S' : Standing) → bare_situation S ≡ bare_situation S' → (values : List Value) (done : ℕ → List OfData) → AgreeTold S done values → AllFit values cs → (events events' : Events) (answers answers' : List Line)
      → ChainSide session H S done events rest traces cs answers → ChainSide session H' S' done events' rest' traces' cs answers' → (events ≡ events') × (bares answers ≡ bares answers')
  chain-one [] S S' q values done agree fit events events' answers answers' A B = (A.does.0 ∙ sym B.does.0, ap bares (A.does.1 ∙ sym B.does.1))
  chain-one (c ∷ cs) S S' q values done agree fit events events' [] answers' A B = absurd A.does
  chain-one (c ∷ cs) S S' q values done agree fit events events' (a ∷ answers) [] A B = absurd B.does
  chain-one (c ∷ cs) S S' q values done agree fit events events' (a ∷ answers) (a' ∷ answers') A B =
      let (first, later, e, d, f, more) = A.does in
      let (first', later', e', d', f', more') = B.does in
      let X : StepSide session H S done events rest traces c first later a = record { whole = A.whole; legal = A.legal; none = A.none; splits = e; does = d; ends = f; others = A.stay.0 } in
      let X' : StepSide session H' S' done events' rest' traces' c first' later' a' = record { whole = B.whole; legal = B.legal; none = B.none; splits = e'; does = d'; ends = f'; others = B.stay.0 } in
      let R = step-one session H H' S S' done events events' rest rest' traces traces' c first first' later later' a a' X X' q values agree fit.0 in
      let T = with_bound S (bound_name c) a in
      let T' = with_bound S' (bound_name c) a' in
      let C : ChainSide session H T (λ n. done n ++ of_category n first) later rest traces cs answers = record {
        whole = whole-behind session H S done events rest traces c first later a X;
        legal = legal-behind session H S done events rest traces c first later a X;
        none = A.none;
        does = more;
        stay = A.stay.1;
      } in
      let D : ChainSide session H' T' (λ n. done n ++ of_category n first') later' rest' traces' cs answers' = record {
        whole = whole-behind session H' S' done events' rest' traces' c first' later' a' X';
        legal = legal-behind session H' S' done events' rest' traces' c first' later' a' X';
        none = B.none;
        does = more';
        stay = B.stay.1;
      } in
      let D2 = subst (λ (y : Events). ChainSide session H' T' (λ n. done n ++ of_category n y) later' rest' traces' cs answers') (sym R.events) D in
      let Q = chain-one cs T T' R.stands (values ++ bound_by values c) (λ n. done n ++ of_category n first) R.agrees fit.1 later later' answers answers' C D2 in
      (e ∙ ap (λ y. y ++ later) R.events ∙ ap (λ y. first' ++ y) Q.0 ∙ sym e', ap (λ b. b ∷ bares answers) R.answer ∙ ap (λ bs. answer_without_size a' ∷ bs) Q.1)
