-- The report of a whole run accounts for its script.
use Rattle.std.proofs.Common.{◌≡◌, ℕ, zero, suc, ◌+◌, List, [], ◌∷◌, ◌++◌, length, map, option_map, filter_map, slice_get, Some, refl, sym, ap, ◌∙◌, subst, arith}
use Rattle.std.specs.List.{All, AllZip, cons_option}
use Rattle.std.specs.List.Sorted.{IsNonDecreasing}
use Rattle.std.proofs.lemmas.List.Elements.{All-nil, All-cons, All-weaker}
use Rattle.cap_names.specs.declared.identifiers.CatNo.{CatNo}
use Rattle.cap_names.specs.declared.identifiers.SessionNo.{SessionNo}
use Rattle.cap_checked.specs.declared.tree.Checked.{Checked}
use Rattle.cap_ops.proofs.Places.{none≢some}
use Rattle.cap_rules.specs.Table.{rule_table}
use Rattle.cap_data.specs.declared.data.ObjData.{ObjData}
use Rattle.cap_data.specs.declared.data.MorData.{MorData}
use Rattle.cap_data.specs.Counts.{cells_in_object, cells_in_morphism}
use Rattle.cap_desk.specs.Books.{frame}
use Rattle.cap_history.specs.declared.reading.Finality.{Finality}
use Rattle.cap_history.specs.Reading.{finality}
use Rattle.cap_legal.specs.Legal.{Legal}
use Rattle.cap_offer.specs.Labels.{Label, any_offer}
use Rattle.cap_report.specs.declared.report.History.{History}
use Rattle.cap_report.specs.declared.report.Report.{Report}
use Rattle.cap_report.specs.declared.report.Trace.{Trace}
use Rattle.cap_report.specs.declared.situation.Made.{Made}
use Rattle.cap_report.specs.Histories.{history_of}
use Rattle.cap_accounts.specs.Accounts.{of_session, at_first, IsHistory, ItemsDo, AreTraces}
use Rattle.cap_commands.specs.Agreement.{Standing}
use Rattle.cap_commands.specs.Kinds.{kinds}
use Rattle.cap_commands.specs.Seats.{AtSeat, OfData, IsSeat, AreSeats, seen_at, AreWhole}
use Rattle.cap_traces.specs.Runs.{prelude_session, HasRun, histories_from, IsReportOf}
use Rattle.cap_traces.specs.Laws.{IsAccounted}
use Rattle.cap_traces.proofs.Longer.{whole-longer, whole-seen}
use Rattle.cap_traces.proofs.Owners.{IsEventOf, items-own}
use Rattle.cap_traces.proofs.Sharing.{together, AreApart, IsBelow, IsShared, below, shared, first-part}
use Rattle.cap_traces.proofs.InTurn.{numbers, in-turn}
use Rattle.cap_traces.proofs.Items.{items-grown, items-stay, items-do}
use Rattle.cap_traces.proofs.Sessions.{sessions-grown, sessions-end, sessions-longer, sessions-do, traces-apart}

abbrev number_of : ℕ → CatNo
number_of n = record { 0 = n }

-- the histories of seats are what was seen, and legal
seen-from : (n : ℕ) (seats : List AtSeat) (i : ℕ) → history_of (histories_from n seats) i ≡ seen_at seats i
seen-from n [] i = refl
seen-from n (s ∷ seats) zero = refl
seen-from n (s ∷ seats) (suc i) = seen-from (suc n) seats i

plans-from : (n : ℕ) (seats : List AtSeat) → filter_map (λ (s : AtSeat). option_map (λ (f : Finality). f.plan) (finality s.seen)) seats
    ≡ filter_map (λ (h : History ObjData MorData). option_map (λ (f : Finality). f.plan) (finality h.entries)) (histories_from n seats)
plans-from n [] = refl
plans-from n (s ∷ seats) = ap (cons_option (option_map (λ (f : Finality). f.plan) (finality s.seen))) (plans-from (suc n) seats)

module _ (histories : List (History ObjData MorData)) (session : SessionNo) where
  are-histories : (n : ℕ) (ms : List (Made Label)) (seats : List AtSeat) → ((i : ℕ) (m : Made Label) → slice_get ms i ≡ Some m → m.number.0 ≡ n + i) → AllZip (IsSeat session) ms seats
      → AllZip (IsHistory kinds rule_table histories) ms (histories_from n seats)
  are-histories n [] [] numbered all = tt
  are-histories n [] (s ∷ seats) numbered all = absurd all
  are-histories n (m ∷ ms) [] numbered all = absurd all
  are-histories n (m ∷ ms) (s ∷ seats) numbered all =
      let same : n ≡ m.number.0 = omega (arith, numbered 0 m refl) in (
        record {
          number = ap number_of same;
          legal = subst (λ x. Legal (frame (any_offer x) cells_in_object cells_in_morphism) s.seen) all.0.offer all.0.holds.legal;
        },
        are-histories (suc n) ms seats (λ i m e. omega (arith, numbered (suc i) m e)) all.1,
      )

-- what holds of the entries of each category holds of each history
pub each-history : (P : List OfData → Type 0) (hs : List (History ObjData MorData)) → ((c : ℕ) → P (history_of hs c)) → All (λ (h : History ObjData MorData). P h.entries) hs
each-history P [] f = All-nil (λ (h : History ObjData MorData). P h.entries)
each-history P (h ∷ hs) f = All-cons (λ (h : History ObjData MorData). P h.entries) h hs (f 0) (each-history P hs (λ c. f (suc c)))

-- nobody sits before no category
pub nobody : AreSeats prelude_session at_first []
nobody = record { numbered = λ i m e. absurd (none≢some e); all = tt }

module _ (form : Checked) (behind : Standing) (prelude : Trace ObjData MorData) (sessions : List (Trace ObjData MorData)) (seats' : List AtSeat) (H : HasRun form behind prelude sessions seats')
    (r : Report ObjData MorData) (R : IsReportOf prelude sessions seats' r) where
  after-prelude : AreSeats prelude_session behind H.between
  after-prelude = items-stay at_first [] (map (λ i. i.node) form.prelude) prelude.events (map (λ d. d.answer) prelude.done) behind H.between H.prelude_runs nobody

  at-end : (last : SessionNo) × AreSeats last behind seats'
  at-end = sessions-end prelude_session 1 behind H.between form.sessions sessions seats' H.sessions_run after-prelude

  histories-are : (c : ℕ) → history_of r.histories c ≡ seen_at seats' c
  histories-are c = ap (λ hs. history_of hs c) R.histories ∙ seen-from 0 seats' c

  behind-prelude : (c : ℕ) → history_of r.histories c ≡ seen_at H.between c ++ together c sessions
  behind-prelude c = histories-are c ∙ sessions-grown 1 behind H.between form.sessions sessions seats' H.sessions_run c

  blocks : (c : ℕ) → history_of r.histories c ≡ together c (prelude ∷ sessions)
  blocks c = behind-prelude c
      ∙ ap (λ es. es ++ together c sessions) (items-grown at_first [] (map (λ i. i.node) form.prelude) prelude.events (map (λ d. d.answer) prelude.done) behind H.between H.prelude_runs c)

  whole : AreWhole r.histories seats'
  whole = whole-seen at-end.0 behind seats' at-end.1 r.histories histories-are

  prelude-does : ItemsDo kinds rule_table r.histories sessions at_first (map (λ i. i.node) form.prelude) prelude.events (map (λ d. d.answer) prelude.done) behind
  prelude-does =
      items-do r.histories sessions (λ n. together n sessions) (λ n e. e) at_first [] (map (λ i. i.node) form.prelude) prelude.events (map (λ d. d.answer) prelude.done) behind H.between H.prelude_runs
      (whole-longer H.between seats' (sessions-longer prelude_session 1 behind H.between form.sessions sessions seats' H.sessions_run after-prelude) r.histories whole) behind-prelude

  traces-do : AreTraces kinds rule_table r.histories 1 behind form.sessions sessions
  traces-do = sessions-do prelude_session 1 behind H.between form.sessions sessions seats' H.sessions_run after-prelude r.histories whole

  apart : AreApart 0 (prelude ∷ sessions)
  apart = (
    ap (λ (s : SessionNo). s.0) H.number,
    subst (λ s. All (IsEventOf s) prelude.events) (sym H.number)
        (items-own kinds rule_table r.histories sessions at_first (map (λ i. i.node) form.prelude) prelude.events (map (λ d. d.answer) prelude.done) behind prelude-does),
    traces-apart r.histories 1 behind form.sessions sessions traces-do,
  )

  -- what holds of the blocks of each category
  each-block : (P : List OfData → Type 0) → ((c : ℕ) → P (together c (prelude ∷ sessions))) → All (λ (h : History ObjData MorData). P h.entries) r.histories
  each-block P f = each-history P r.histories (λ c. subst P (sym (blocks c)) (f c))

  shares : All (IsShared (λ c. history_of r.histories c)) r.traces
  shares =
      subst (All (IsShared (λ c. history_of r.histories c))) (sym R.traces)
      (All-weaker (IsShared (λ c. together c (prelude ∷ sessions))) (IsShared (λ c. history_of r.histories c)) (λ t is c. is c ∙ ap (of_session t.session.0) (sym (blocks c))) (prelude ∷ sessions)
      (shared 0 (prelude ∷ sessions) apart))

  own : All (λ (h : History ObjData MorData). All (IsBelow (length r.traces)) h.entries) r.histories
  own =
      let many : 0 + length (prelude ∷ sessions) ≡ length r.traces = let long = ap length R.traces in omega arith in
      each-block (All (IsBelow (length r.traces))) (λ c. subst (λ n. All (IsBelow n) (together c (prelude ∷ sessions))) many (below 0 c (prelude ∷ sessions) apart))

  prelude-first : All (λ (h : History ObjData MorData). (rest : List OfData) × (h.entries ≡ of_session 0 h.entries ++ rest)) r.histories
  prelude-first = each-block (λ es. (rest : List OfData) × (es ≡ of_session 0 es ++ rest)) (λ c. first-part 0 c prelude sessions apart)

  in-order : All (λ (h : History ObjData MorData). IsNonDecreasing (numbers h.entries)) r.histories
  in-order = each-block (λ es. IsNonDecreasing (numbers es)) (λ c. in-turn 0 c (prelude ∷ sessions) apart)

  legal : AllZip (IsHistory kinds rule_table r.histories) behind.categories r.histories
  legal =
      subst (AllZip (IsHistory kinds rule_table r.histories) behind.categories) (sym R.histories)
      (are-histories r.histories at-end.0 0 behind.categories seats' (λ i m e. omega (arith, at-end.1.numbered i m e)) at-end.1.all)

  planned : r.plans ≡ filter_map (λ (h : History ObjData MorData). option_map (λ (f : Finality). f.plan) (finality h.entries)) r.histories
  planned = R.plans ∙ plans-from 0 seats' ∙ ap (filter_map (λ (h : History ObjData MorData). option_map (λ (f : Finality). f.plan) (finality h.entries))) (sym R.histories)

  pub run-accounts : IsAccounted form behind r
  run-accounts = record {
    accounts = record {
      behind = behind;
      histories = legal;
      prelude = prelude;
      sessions = sessions;
      traces = R.traces;
      first = ap (λ (s : SessionNo). s.0) H.number;
      counted = H.counted;
      prelude_does = prelude-does;
      sessions_do = traces-do;
      shares = shares;
      own = own;
      prelude_first = prelude-first;
      plans = planned;
    };
    same = refl;
    in_turn = in-order;
  }
