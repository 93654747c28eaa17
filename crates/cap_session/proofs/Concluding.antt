-- A whole run of sessions at once: what its parts need of each other, and what its report is.
use Rattle.std.proofs.Common.{◌≡◌, ℕ, zero, suc, ◌+◌, ◌<◌, ◌≤◌, List, [], ◌∷◌, length, map, Some, refl, sym, ap, ◌∙◌, subst, arith}
use Rattle.std.specs.Prelude.{slice_get, option_map}
use Rattle.std.specs.List.{All, AllZip, filter_map, cons_option}
use Rattle.std.proofs.lemmas.List.{length-map}
use Rattle.std.proofs.lemmas.List.Elements.{All-nil, All-cons}
use Rattle.cap_names.specs.declared.identifiers.CatNo.{CatNo}
use Rattle.cap_names.specs.declared.identifiers.SessionNo.{SessionNo}
use Rattle.cap_names.specs.declared.literals.MorLit.{MorLit}
use Rattle.cap_grammar.specs.declared.tree.Command.{Command}
use Rattle.cap_checked.specs.declared.tree.Checked.{Checked}
use Rattle.cap_checked.specs.declared.tree.CheckedObj.{CheckedObj}
use Rattle.cap_check.specs.Unbuilt.{CheckedPart}
use Rattle.cap_data.specs.declared.data.ObjData.{ObjData}
use Rattle.cap_data.specs.declared.data.MorData.{MorData}
use Rattle.cap_fitting.specs.Categories.{number_of_categories}
use Rattle.cap_fitting.specs.Forms.{CheckedSession, behind_commands, FormFits}
use Rattle.cap_fitting.specs.Literals.{LiteralsFit}
use Rattle.cap_history.specs.declared.reading.Finality.{Finality}
use Rattle.cap_history.specs.Reading.{finality}
use Rattle.cap_ops.proofs.Places.{some_inner}
use Rattle.cap_report.specs.declared.lines.LineAnswer.{LineAnswer}
use Rattle.cap_report.specs.declared.report.Done.{Done}
use Rattle.cap_report.specs.declared.report.History.{History}
use Rattle.cap_report.specs.declared.report.Report.{Report}
use Rattle.cap_report.specs.declared.report.Trace.{Trace}
use Rattle.cap_report.specs.Named.{bound_name}
use Rattle.cap_accounts.specs.Accounts.{CountFrom, with_bound, at_first}
use Rattle.cap_commands.specs.Agreement.{Standing, Agrees}
use Rattle.cap_commands.specs.Seats.{AtSeat, OfData, IsSeat, AreSeats, telling, hand_at}
use Rattle.cap_right_laws.proofs.Rightness.{accounts-right}
use Rattle.cap_shares.specs.Shares.{Shared, AtTurn, given}
use Rattle.cap_shares.specs.Rows.{Belongs}
use Rattle.cap_thread_laws.specs.AtOnce.{IsAnything, SessionsRan, AreAtEnd}
use Rattle.cap_thread_laws.proofs.Accounting.{run-at-once-accounts}
use Rattle.cap_traces.specs.Chains.{Chain}
use Rattle.cap_traces.specs.Runs.{prelude_session, seated, ItemsRun, histories_from}
use Rattle.cap_session.specs.declared.course.Course.{Course}
use Rattle.cap_session.specs.declared.jobs.Job.{Job}
use Rattle.cap_session.specs.declared.jobs.Ended.{Ended}
use Rattle.cap_session.specs.declared.jobs.Seated.{Seated}
use Rattle.cap_session.specs.Courses.{Hands}
use Rattle.cap_session.specs.Jobs.{Ready, Ran, CanSit, SatDown, MayRun, HasRunAs, seats_of}
use Rattle.cap_session.specs.Places.{sat_down, stood}
use Rattle.cap_session.specs.Preludes.{RunsParts}
use Rattle.cap_session.specs.Reports.{IsReport, IsRunReport}
use Rattle.cap_session.specs.Shares.{IsSharedOf, fewer_by, IsJob, JobsFrom, rows_of, traces_of, Returns, JoinAll, IsWholeAgain, IsClosedAs}
use Rattle.cap_session.proofs.Ends.{zip-long}
use Rattle.cap_session.proofs.Jobbing.{IsNumbered, all-can-sit, all-numbered, all-may-run, all-ran-as}
use Rattle.cap_session.proofs.Reseating.{all-ready, job-seats}
use Rattle.cap_session.proofs.AtOnce.{AllRan, rows_at_end, all-ran, as-many, at-end, whole-again, hand-seated}

-- the seats before the states stay where they are
chain-places : (others : List OfData → Type 0) (session : SessionNo) (S : Standing) (seats : List AtSeat) (cs : List (Command CheckedObj MorLit)) (events : List (CatNo × OfData)) (answers : List (LineAnswer MorData)) (S' : Standing) (seats' : List AtSeat)
    → Chain others session S seats cs events answers S' seats' → (n : ℕ) → (hand_at seats' n).place ≡ (hand_at seats n).place
chain-places others session S seats [] events answers S' seats' C n = ap (λ ss. (hand_at ss n).place) C.3
chain-places others session S seats (c ∷ cs) events answers S' seats' (first, later, a, rest, between, e, f, runs, are, chain) n =
    chain-places others session (with_bound S (bound_name c) a) between cs later rest S' seats' chain n ∙ ap (λ h. h.place) (runs.hands n)

-- where a session sat down at given seats
sat-place : (session : SessionNo) (left : ℕ) (ks : List Shared) (c : ℕ) (k : Shared) → slice_get (map (fewer_by left) ks) c ≡ Some k → (hand_at (sat_down session (map (fewer_by left) ks) (map given ks)) c).place ≡ k.place
sat-place session left [] c k e = absurd cc
sat-place session left (x ∷ ks) zero k e = ap (λ (y : Shared). y.place) (some_inner e)
sat-place session left (x ∷ ks) (suc c) k e = sat-place session left ks c k e

-- what holds of all pairs at one place
zip-from : {A B : Type 0} (R : A → B → Type 0) (xs : List A) (ys : List B) → length ys ≡ length xs → ((c : ℕ) (x : A) (y : B) → slice_get xs c ≡ Some x → slice_get ys c ≡ Some y → R x y) → AllZip R xs ys
zip-from R [] [] same at = tt
zip-from R [] (y ∷ ys) same at = absurd (omega (arith, same))
zip-from R (x ∷ xs) [] same at = absurd (omega (arith, same))
zip-from R (x ∷ xs) (y ∷ ys) same at = (at zero x y refl refl, zip-from R xs ys (omega (arith, same)) (λ c. at (suc c)))

stood-there : (seats : List AtSeat) (c : ℕ) (s : AtTurn) → slice_get (map stood seats) c ≡ Some s → s.place ≡ (hand_at seats c).place
stood-there [] c s e = absurd cc
stood-there (a ∷ seats) zero s e = ap (λ (t : AtTurn). t.place) (sym (some_inner e))
stood-there (a ∷ seats) (suc c) s e = stood-there seats c s e

pub all-from-get : {A : Type 0} (P : A → Type 0) (xs : List A) → ((c : ℕ) (x : A) → slice_get xs c ≡ Some x → P x) → All P xs
all-from-get P [] at = All-nil P
all-from-get P (x ∷ xs) at = All-cons P x xs (at zero x refl) (all-from-get P xs (λ c. at (suc c)))

-- the row of a session that has run belongs to the categories
module _ (S : Standing) (between : List AtSeat) (are : AreSeats prelude_session S between) (all left : ℕ) (ks : List Shared) (shared : AllZip (IsSharedOf all) between ks) where
  abbrev Left : List Shared
  Left = map (fewer_by left) ks

  many-left : length Left ≡ length S.categories
  many-left = length-map ks (fewer_by left) ∙ zip-long (IsSharedOf all) between ks shared ∙ zip-long (IsSeat prelude_session) S.categories between are.all

  one-returns : (n : ℕ) (p : CheckedSession) (job : Job) (e : Ended) → IsJob n ks p job → Ran S Left job e → Returns Left e.row.items
  one-returns n p job e is r =
      let start = seated job.session (seats_of Left job) in
      let place : (c : ℕ) (k : Shared) → slice_get Left c ≡ Some k → (hand_at r.ended c).place ≡ k.place = λ c k at.
      chain-places IsAnything job.session S start (map (λ c. c.node) job.commands.now) e.trace.events (map (λ d. d.answer) e.trace.done) r.behind r.ended r.chain c
      ∙ ap (λ h. h.place) (hand-seated job.session (seats_of Left job) c)
      ∙ ap (λ row. (hand_at (sat_down job.session Left row) c).place) is.row ∙ sat-place job.session left ks c k at in
      let long : length (map stood r.ended) ≡ length Left = length-map r.ended stood ∙ zip-long (IsSeat job.session) S.categories r.ended r.are.all ∙ sym many-left in
      subst (AllZip Belongs Left) (sym r.row) (zip-from Belongs Left (map stood r.ended) long (λ c k s at there. stood-there r.ended c s there ∙ place c k at))

  pub all-return : (n : ℕ) (ps : List CheckedSession) (jobs : List Job) (es : List Ended) → JobsFrom n ks ps jobs → AllZip (Ran S Left) jobs es → All (Returns Left) (rows_of es)
  all-return n [] [] [] made ran = All-nil (Returns Left)
  all-return n [] [] (e ∷ es) made ran = absurd ran
  all-return n [] (job ∷ jobs) es made ran = absurd made
  all-return n (p ∷ ps) [] es made ran = absurd made
  all-return n (p ∷ ps) (job ∷ jobs) [] made ran = absurd ran
  all-return n (p ∷ ps) (job ∷ jobs) (e ∷ es) made ran = All-cons (Returns Left) e.row.items (rows_of es) (one-returns n p job e made.0 ran.0) (all-return (suc n) ps jobs es made.1 ran.1)

-- enough shares
pub enough-shares : (n : ℕ) (between : List AtSeat) (ks : List Shared) → AllZip (IsSharedOf (n + 1)) between ks → All (λ (k : Shared). n < k.shares) ks
enough-shares n [] [] shared = All-nil (λ (k : Shared). n < k.shares)
enough-shares n [] (k ∷ ks) shared = absurd shared
enough-shares n (a ∷ between) [] shared = absurd shared
enough-shares n (a ∷ between) (k ∷ ks) shared = All-cons (λ (k : Shared). n < k.shares) k ks (omega (arith, ap (λ (x : Shared). x.shares) shared.0)) (enough-shares n between ks shared.1)

plans-of : (n : ℕ) (seats : List AtSeat) → filter_map (λ (s : AtSeat). option_map (λ (f : Finality). f.plan) (finality s.seen)) seats
    ≡ filter_map (λ (h : History ObjData MorData). option_map (λ (f : Finality). f.plan) (finality h.entries)) (histories_from n seats)
plans-of n [] = refl
plans-of n (s ∷ seats) = ap (cons_option (option_map (λ (f : Finality). f.plan) (finality s.seen))) (plans-of (suc n) seats)

abbrev CountDone : List (Done MorData) → Type 0
CountDone ds = CountFrom 0 ds

module _ (form : Checked) (fits : FormFits form) (literals : LiteralsFit form) (parts : List CheckedPart) (sessions : List CheckedSession) (is_prelude : parts ≡ form.prelude) (are_sessions : sessions ≡ form.sessions)
    (C1 C2 : Course AtSeat) (prelude : Trace ObjData MorData) (ran : RunsParts parts C1) (hands : Hands prelude_session C1 prelude C2) where
  abbrev S : Standing
  S = C2.standing

  abbrev between : List AtSeat
  between = C2.seats.items

  seats-same : between ≡ C1.seats.items
  seats-same = ap (λ v. v.items) hands.seats

  pub are-behind : AreSeats prelude_session S between
  are-behind = rw (hands.standing, seats-same) ran.are

  agrees-behind : Agrees (behind_commands form.prelude []) S (telling between)
  agrees-behind = rw (hands.standing, seats-same) (subst (λ ps. Agrees (behind_commands ps []) C1.standing (telling C1.seats.items)) is_prelude ran.agrees)

  pub few-between : length between ≤ 16
  few-between =
      let many : length between ≡ length S.categories = zip-long (IsSeat prelude_session) S.categories between are-behind.all in
      let made : length S.categories ≡ number_of_categories form.prelude = ap (λ (T : Standing). length T.categories) hands.standing ∙ ran.made ∙ ap number_of_categories is_prelude in
      omega (arith, many, made, fits.few_categories)

  pub few-sessions : length sessions ≤ 16
  few-sessions = subst (λ (ps : List CheckedSession). length ps ≤ 16) (sym are_sessions) fits.few_sessions

  module _ (n : ℕ) (many : n ≡ length sessions) (ks : List Shared) (shared : AllZip (IsSharedOf (n + 1)) between ks) where
    abbrev Rest : List Shared
    Rest = map (fewer_by (length sessions)) ks

    module _ (jobs : List Job) (made : JobsFrom 1 ks sessions jobs) where
      pub jobs-ready : All (Ready S Rest) jobs
      jobs-ready = all-ready form fits literals S between are-behind agrees-behind (omega (arith, few-between)) (n + 1) (length sessions) ks shared [] form.sessions refl 1 jobs (subst (λ ps. JobsFrom 1 ks ps jobs) are_sessions made)

      pub jobs-can-sit : All (CanSit Rest) jobs
      jobs-can-sit = all-can-sit sessions S Rest jobs jobs-ready

      numbered : All (IsNumbered sessions) jobs
      numbered = all-numbered ks [] sessions jobs made

      module _ (seats : List (Seated AtSeat)) (sat : AllZip (SatDown Rest) jobs seats) where
        pub sessions-may-run : All (MayRun sessions S) seats
        sessions-may-run = all-may-run sessions S Rest jobs seats numbered jobs-ready sat

        pub sessions-ran : (ended : List Ended) → AllZip (HasRunAs sessions S) seats ended → AllZip (Ran S Rest) jobs ended
        sessions-ran ended has = all-ran-as sessions S Rest jobs seats ended numbered sat has

      module _ (ended : List Ended) (did : AllZip (Ran S Rest) jobs ended) where
        pub rows-return : All (Returns Rest) (rows_of ended)
        rows-return = all-return S between are-behind (n + 1) (length sessions) ks shared 1 sessions jobs ended made did

        whole-ran : AllRan 1 S between sessions ended
        whole-ran = all-ran S between are-behind Rest ks (job-seats form fits literals S between are-behind agrees-behind (omega (arith, few-between)) (n + 1) (length sessions) ks shared) 1 sessions jobs ended made did

        many-ended : length whole-ran.ends ≡ length sessions
        many-ended = sym (length-map whole-ran.ends (λ (seats : List AtSeat). map stood seats)) ∙ ap length (sym whole-ran.rows) ∙ as-many S between are-behind Rest ks 1 sessions jobs ended made did

        module _ (ks2 : List Shared) (joins : JoinAll Rest (rows_of ended) ks2) where
          joins-there : JoinAll Rest (rows_at_end whole-ran.ends) ks2
          joins-there = subst (λ rows. JoinAll Rest rows ks2) whole-ran.rows joins

          pub few-joined : length ks2 ≤ 256
          few-joined = omega (arith, joins.0, length-map ks (fewer_by (length sessions)), zip-long (IsSharedOf (n + 1)) between ks shared, few-between)

          pub all-whole : All IsWholeAgain ks2
          all-whole = all-from-get IsWholeAgain ks2 (whole-again between (n + 1) (length sessions) ks ks2 shared whole-ran.ends joins-there (omega (arith, many)) many-ended)

          module _ (zs : List AtSeat) (closed : AllZip IsClosedAs ks2 zs) where
            pub few-closed : length zs ≤ 256
            few-closed = omega (arith, zip-long IsClosedAs ks2 zs closed, few-joined)

            pub run-report : (traces : List (Trace ObjData MorData)) → traces ≡ prelude ∷ traces_of ended → (r : Report ObjData MorData) → IsReport zs traces r → IsRunReport form r
            run-report traces all r is =
                let counted : CountDone prelude.done = subst CountDone (sym (ap (λ (t : Trace ObjData MorData). t.done) hands.trace)) ran.counted in
                let items : ItemsRun at_first [] (map (λ i. i.node) form.prelude) prelude.events (map (λ d. d.answer) prelude.done) S between =
                rw (ap (λ (t : Trace ObjData MorData). t.events) hands.trace, ap (λ (t : Trace ObjData MorData). t.done) hands.trace, sym is_prelude, hands.standing, seats-same) ran.runs in
                let accounts = run-at-once-accounts form S prelude between (traces_of ended) whole-ran.ends
                (record {
                  number = ap (λ (t : Trace ObjData MorData). t.session) hands.trace;
                  counted = counted;
                  prelude_runs = items;
                  sessions_ran = subst (λ ps. SessionsRan 1 S between ps (traces_of ended) whole-ran.ends) are_sessions whole-ran.ran;
                })
                r
                (record {
                  histories = subst (λ hs. AreAtEnd S between whole-ran.ends hs) (sym is.histories) (at-end S between are-behind (n + 1) (length sessions) ks ks2 shared whole-ran.ends whole-ran.long joins-there zs closed);
                  traces = is.are_traces ∙ all;
                  plans = is.plans ∙ plans-of 0 zs ∙ ap (filter_map (λ (h : History ObjData MorData). option_map (λ (f : Finality). f.plan) (finality h.entries))) (sym is.histories);
                }) in
                record { accounts = accounts; right = accounts-right form r accounts }
