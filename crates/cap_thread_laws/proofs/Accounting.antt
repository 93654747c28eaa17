-- The report of a run of sessions at once accounts for its script.
use Rattle.std.proofs.Common.{◌≡◌, ℕ, ◌+◌, ◌<◌, List, [], ◌∷◌, ◌++◌, length, map, refl, sym, ap, ◌∙◌, subst, arith}
use Rattle.std.specs.List.{All}
use Rattle.std.proofs.lemmas.List.{length-append, nil_from_length}
use Rattle.std.proofs.lemmas.List.Elements.{All-cons, All-head, All-weaker}
use Rattle.cap_names.specs.declared.identifiers.SessionNo.{SessionNo}
use Rattle.cap_checked.specs.declared.tree.Checked.{Checked}
use Rattle.cap_rules.specs.Table.{rule_table}
use Rattle.cap_data.specs.declared.data.ObjData.{ObjData}
use Rattle.cap_data.specs.declared.data.MorData.{MorData}
use Rattle.cap_report.specs.declared.report.History.{History}
use Rattle.cap_report.specs.declared.report.Report.{Report}
use Rattle.cap_report.specs.declared.report.Trace.{Trace}
use Rattle.cap_report.specs.Histories.{history_of}
use Rattle.cap_accounts.specs.Accounts.{of_category, of_session, at_first, ItemsDo, AreTraces, Accounts}
use Rattle.cap_commands.specs.Agreement.{Standing}
use Rattle.cap_commands.specs.Kinds.{kinds}
use Rattle.cap_commands.specs.Seats.{AtSeat, OfData, AreSeats, seen_at, AreWhole}
use Rattle.cap_traces.specs.Runs.{prelude_session}
use Rattle.cap_traces.proofs.Accounting.{each-history, nobody}
use Rattle.cap_traces.proofs.Items.{items-grown, items-stay, items-do}
use Rattle.cap_traces.proofs.Owners.{IsEventOf, items-own}
use Rattle.cap_traces.proofs.Sessions.{traces-apart}
use Rattle.cap_traces.proofs.Sharing.{together, AreApart, IsBelow, IsShared}
use Rattle.cap_traces.proofs.Within.{IsWithin, within-self, within-front}
use Rattle.cap_thread_laws.specs.AtOnce.{HasRunAtOnce}
use Rattle.cap_thread_laws.specs.Laws.{IsReportAtEnd}
use Rattle.cap_thread_laws.proofs.Counting.{StandsIn, IsShare, shares, no-others}
use Rattle.cap_thread_laws.proofs.Sessions.{begun-whole, sessions-added, sessions-stand, sessions-do}

module _ (form : Checked) (behind : Standing) (prelude : Trace ObjData MorData) (between : List AtSeat) (sessions : List (Trace ObjData MorData)) (ends : List (List AtSeat))
    (H : HasRunAtOnce form behind prelude between sessions ends) (r : Report ObjData MorData) (R : IsReportAtEnd behind prelude between sessions ends r) where
  after-prelude : AreSeats prelude_session behind between
  after-prelude = items-stay at_first [] (map (λ i. i.node) form.prelude) prelude.events (map (λ d. d.answer) prelude.done) behind between H.prelude_runs nobody

  -- what came behind the prelude
  abbrev after : ℕ → List OfData
  after c = (R.histories.prelude c).0

  prelude-seen : (c : ℕ) → seen_at between c ≡ of_category c prelude.events
  prelude-seen c = items-grown at_first [] (map (λ i. i.node) form.prelude) prelude.events (map (λ d. d.answer) prelude.done) behind between H.prelude_runs c

  prelude-begins : (c : ℕ) → history_of r.histories c ≡ of_category c prelude.events ++ after c
  prelude-begins c = (R.histories.prelude c).1 ∙ ap (λ es. es ++ after c) (prelude-seen c)

  many : (c : ℕ) → length (history_of r.histories c) ≡ length (together c (prelude ∷ sessions))
  many c =
      omega (
        arith,
        R.histories.many c,
        ap length (prelude-seen c),
        sessions-added behind 1 between form.sessions sessions ends H.sessions_ran c,
        length-append (of_category c prelude.events) (together c sessions),
      )

  silent : (c : ℕ) → after c ≡ [] → together c sessions ≡ []
  silent c none =
      nil_from_length (together c sessions)
      (omega (arith, many c, ap length (prelude-begins c), length-append (of_category c prelude.events) (after c), length-append (of_category c prelude.events) (together c sessions), ap length none))

  prelude-does : ItemsDo kinds rule_table r.histories sessions at_first (map (λ i. i.node) form.prelude) prelude.events (map (λ d. d.answer) prelude.done) behind
  prelude-does =
      items-do r.histories sessions after silent at_first [] (map (λ i. i.node) form.prelude) prelude.events (map (λ d. d.answer) prelude.done) behind between H.prelude_runs
      (begun-whole behind r.histories R.histories.are prelude_session between after-prelude R.histories.prelude) (λ c. (R.histories.prelude c).1)

  traces-do : AreTraces kinds rule_table r.histories 1 behind form.sessions sessions
  traces-do = sessions-do behind r.histories R.histories.are 1 between form.sessions sessions ends H.sessions_ran R.histories.sessions

  first : prelude.session.0 ≡ 0
  first = ap (λ (s : SessionNo). s.0) H.number

  apart : AreApart 0 (prelude ∷ sessions)
  apart = (
    first,
    subst (λ s. All (IsEventOf s) prelude.events) (sym H.number)
        (items-own kinds rule_table r.histories sessions at_first (map (λ i. i.node) form.prelude) prelude.events (map (λ d. d.answer) prelude.done) behind prelude-does),
    traces-apart r.histories 1 behind form.sessions sessions traces-do,
  )

  stand : (c : ℕ) → All (StandsIn c (history_of r.histories c)) (prelude ∷ sessions)
  stand c =
      let own = of_category c prelude.events in
      All-cons (StandsIn c (history_of r.histories c)) prelude sessions (subst (IsWithin own) (sym (prelude-begins c)) (within-front own own (after c) (within-self own)))
      (sessions-stand behind r.histories R.histories.are 1 between form.sessions sessions ends H.sessions_ran R.histories.sessions c)

  each : (c : ℕ) → All (IsShare c (history_of r.histories c)) (prelude ∷ sessions)
  each c = shares c (history_of r.histories c) (prelude ∷ sessions) apart (stand c) (many c)

  shared : All (IsShared (λ c. history_of r.histories c)) r.traces
  shared = subst (All (IsShared (λ c. history_of r.histories c))) (sym R.traces) (λ k d lt c. each c k d lt)

  own : All (λ (h : History ObjData MorData). All (IsBelow (length r.traces)) h.entries) r.histories
  own =
      each-history (All (IsBelow (length r.traces))) r.histories
      (λ c. subst (λ n. All (IsBelow n) (history_of r.histories c)) (sym (ap length R.traces)) (no-others c (history_of r.histories c) (prelude ∷ sessions) apart (stand c) (many c)))

  prelude-first : All (λ (h : History ObjData MorData). (rest : List OfData) × (h.entries ≡ of_session 0 h.entries ++ rest)) r.histories
  prelude-first =
      each-history (λ es. (rest : List OfData) × (es ≡ of_session 0 es ++ rest)) r.histories
      (λ c. (
        after c,
        prelude-begins c
            ∙ ap (λ es. es ++ after c) (All-head (IsShare c (history_of r.histories c)) prelude sessions (each c) ∙ ap (λ s. of_session s (history_of r.histories c)) first),
      ))

  pub run-at-once-accounts : Accounts kinds rule_table form r
  run-at-once-accounts = record {
    behind = behind;
    histories = R.histories.are;
    prelude = prelude;
    sessions = sessions;
    traces = R.traces;
    first = first;
    counted = H.counted;
    prelude_does = prelude-does;
    sessions_do = traces-do;
    shares = shared;
    own = own;
    prelude_first = prelude-first;
    plans = R.plans;
  }
