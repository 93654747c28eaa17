-- A whole run: what its parts need of each other, and what its report is.
use Rattle.std.proofs.Common.{◌≡◌, ◌≤◌, List, [], ◌∷◌, ◌++◌, length, Result, Ok, Err, refl, sym, ap, ◌∙◌, subst, arith}
use Rattle.std.specs.Prelude.{IfOk}
use Rattle.std.specs.List.{AllZip}
use Rattle.cap_checked.specs.declared.tree.Checked.{Checked}
use Rattle.cap_check.specs.Unbuilt.{CheckedPart}
use Rattle.cap_fitting.specs.Categories.{number_of_categories}
use Rattle.cap_fitting.specs.Forms.{CheckedSession, behind_commands, FormFits}
use Rattle.cap_fitting.specs.Literals.{LiteralsFit}
use Rattle.cap_data.specs.declared.data.ObjData.{ObjData}
use Rattle.cap_data.specs.declared.data.MorData.{MorData}
use Rattle.cap_report.specs.declared.report.Done.{Done}
use Rattle.cap_report.specs.declared.report.Report.{Report}
use Rattle.cap_report.specs.declared.report.Trace.{Trace}
use Rattle.cap_accounts.specs.Accounts.{CountFrom}
use Rattle.cap_commands.specs.Agreement.{Agrees}
use Rattle.cap_commands.specs.Seats.{AtSeat, IsSeat, telling}
use Rattle.cap_traces.specs.Runs.{prelude_session, SessionsRun, HasRun}
use Rattle.cap_one_report.proofs.Runs.{runs-in-turn}
use Rattle.cap_right_laws.proofs.Rightness.{accounts-right}
use Rattle.cap_session.specs.declared.course.Course.{Course}
use Rattle.cap_session.specs.Courses.{Hands}
use Rattle.cap_session.specs.Preludes.{RunsParts}
use Rattle.cap_session.specs.Sessions.{SessionsCome, RunsSessions}
use Rattle.cap_session.specs.Reports.{IsReport, IsPlainReport}

abbrev CountDone : List (Done MorData) → Type 0
CountDone ds = CountFrom 0 ds

module _ (form : Checked) (parts : List CheckedPart) (sessions : List CheckedSession) (is_prelude : parts ≡ form.prelude) (are_sessions : sessions ≡ form.sessions) (C1 C2 : Course AtSeat) (prelude : Trace ObjData MorData)
    (ran : RunsParts parts C1) (hands : Hands prelude_session C1 prelude C2) where
  seats-same : C2.seats.items ≡ C1.seats.items
  seats-same = ap (λ v. v.items) hands.seats

  -- the sessions come behind the prelude
  pub sessions-come : FormFits form → LiteralsFit form → (traces : List (Trace ObjData MorData)) → length traces ≡ 1 → SessionsCome C2 sessions traces
  sessions-come fits literals traces one = record {
    form = form;
    are_form = sym are_sessions;
    fits = fits;
    literals = literals;
    silent = hands.silent;
    idle = hands.idle;
    last = prelude_session;
    are = rw (hands.standing, seats-same) ran.are;
    agrees = rw (hands.standing, seats-same) (subst (λ ps. Agrees (behind_commands ps []) C1.standing (telling C1.seats.items)) is_prelude ran.agrees);
    prelude_alone = one;
  }

  module _ (C3 : Course AtSeat) (traces0 traces : List (Trace ObjData MorData)) (alone : traces0 ≡ prelude ∷ []) (run : RunsSessions C2 sessions traces0 C3 traces) where
    same-length : {A B : Type 0} (R : A → B → Type 0) (xs : List A) (ys : List B) → AllZip R xs ys → length ys ≡ length xs
    same-length R [] [] a = refl
    same-length R [] (y ∷ ys) a = absurd a
    same-length R (x ∷ xs) [] a = absurd a
    same-length R (x ∷ xs) (y ∷ ys) a = omega (arith, same-length R xs ys a.1)

    -- there are as many seats as categories
    pub few-seats : FormFits form → length C3.seats.items ≤ 256
    few-seats fits =
        let many : length C3.seats.items ≡ length C2.standing.categories = same-length (IsSeat run.last) C2.standing.categories C3.seats.items run.are.all in
        let made : length C2.standing.categories ≡ number_of_categories form.prelude = ap (λ S. length S.categories) hands.standing ∙ ran.made ∙ ap number_of_categories is_prelude in
        omega (arith, many, made, fits.few_categories)

    has-run : HasRun form C1.standing prelude run.own C3.seats.items
    has-run = record {
      number = ap (λ (t : Trace ObjData MorData). t.session) hands.trace;
      counted = subst CountDone (sym (ap (λ (t : Trace ObjData MorData). t.done) hands.trace)) ran.counted;
      between = C1.seats.items;
      prelude_runs = rw (ap (λ (t : Trace ObjData MorData). t.events) hands.trace, ap (λ (t : Trace ObjData MorData). t.done) hands.trace, sym is_prelude) ran.runs;
      sessions_run = subst (λ ps. SessionsRun 1 C1.standing C1.seats.items ps run.own C3.seats.items) are_sessions
          (subst (λ ss. SessionsRun 1 C1.standing ss sessions run.own C3.seats.items) seats-same (subst (λ S. SessionsRun 1 S C2.seats.items sessions run.own C3.seats.items) hands.standing run.runs));
    }

    pub plain-report : (r : Report ObjData MorData) → IsReport C3.seats.items traces r → IsPlainReport form r
    plain-report r is =
        let all : r.traces ≡ prelude ∷ run.own = is.are_traces ∙ run.added ∙ ap (λ ts. ts ++ run.own) alone in
        let turn = runs-in-turn form C1.standing prelude run.own C3.seats.items has-run r (record { histories = is.histories; traces = all; plans = is.plans }) in
        record { turn = turn; right = accounts-right form r turn.accounts }

-- what holds of an answer that is there
pub if-ok : {A E : Type 0} (P Q : A → Type 0) → ((x : A) → P x → Q x) → (r : Result A E) → IfOk r P → IfOk r Q
if-ok P Q f (Ok x) p = f x p
if-ok P Q f (Err e) p = tt
