-- The report of a whole run is one of sessions that run one after another.
use Rattle.std.proofs.Common.{◌≡◌, ℕ, zero, suc, List, [], ◌∷◌, ◌++◌, map, append_assoc, refl, sym, ap, subst, ◌∙◌}
use Rattle.std.specs.List.{All}
use Rattle.std.proofs.lemmas.List.Elements.{All-nil, All-cons}
use Rattle.cap_names.specs.declared.identifiers.CatNo.{CatNo}
use Rattle.cap_names.specs.declared.identifiers.SessionNo.{SessionNo}
use Rattle.cap_names.specs.declared.literals.MorLit.{MorLit}
use Rattle.cap_grammar.specs.declared.tree.Command.{Command}
use Rattle.cap_grammar.specs.declared.tree.Placed.{Placed}
use Rattle.cap_grammar.specs.declared.tree.SessionPart.{SessionPart}
use Rattle.cap_checked.specs.declared.tree.CheckedObj.{CheckedObj}
use Rattle.cap_rules.specs.Table.{rule_table}
use Rattle.cap_data.specs.declared.data.ObjData.{ObjData}
use Rattle.cap_data.specs.declared.data.MorData.{MorData}
use Rattle.cap_desk.specs.Woven.{IsNothing}
use Rattle.cap_report.specs.declared.lines.LineAnswer.{LineAnswer}
use Rattle.cap_report.specs.declared.lines.LineAnswer.TheVariants as line
use Rattle.cap_report.specs.declared.lines.LineRefusal.TheVariants as refusal
use Rattle.cap_report.specs.declared.report.History.{History}
use Rattle.cap_report.specs.declared.report.Trace.{Trace}
use Rattle.cap_report.specs.Histories.{history_of}
use Rattle.cap_report.specs.Named.{bound_name}
use Rattle.cap_ops.proofs.Places.{none≢some}
use Rattle.cap_accounts.specs.Accounts.{of_category, at_first, with_bound, FullForAll}
use Rattle.cap_commands.specs.Agreement.{Standing}
use Rattle.cap_commands.specs.Kinds.{kinds}
use Rattle.cap_commands.specs.Seats.{AtSeat, OfData, AreSeats, seen_at, AreWhole, FullIsWhole}
use Rattle.cap_traces.specs.Chains.{Chain}
use Rattle.cap_traces.specs.Runs.{prelude_session, SessionsRun, seated, histories_from}
use Rattle.cap_traces.proofs.Accounting.{run-accounts}
use Rattle.cap_traces.proofs.Doing.{left-nil, right-nil, full-nothing}
use Rattle.cap_traces.proofs.Growing.{seats-behind, seats-before, grown, seats-stay, whole-before}
use Rattle.cap_traces.proofs.Items.{items-stay}
use Rattle.cap_traces.proofs.Longer.{whole-longer, whole-seen, seats-seated}
use Rattle.cap_traces.proofs.Sessions.{sessions-grown, sessions-end, sessions-longer}
use Rattle.cap_traces.proofs.Sharing.{together}
use Rattle.cap_one_report.specs.InTurn.{StayFull, AllStayFull}
use Rattle.cap_one_report.specs.Laws.{RunsAreInTurn, OneRun}
use Rattle.cap_one_report.proofs.Reports.{one-report}

abbrev ATrace : Type 0
ATrace = Trace ObjData MorData

abbrev APart : Type 0
APart = Placed (SessionPart CheckedObj MorLit)

none-together : (c : ℕ) (ts : List ATrace) → together c ts ≡ [] → All (λ (t : ATrace). of_category c t.events ≡ []) ts
none-together c [] e = All-nil (λ (t : ATrace). of_category c t.events ≡ [])
none-together c (t ∷ ts) e =
    All-cons (λ (t : ATrace). of_category c t.events ≡ []) t ts (left-nil (of_category c t.events) (together c ts) e) (none-together c ts (right-nil (of_category c t.events) (together c ts) e))

-- where a history refuses a command since it is full, no later session has an event in it
module _ (histories : List (History ObjData MorData)) (session : SessionNo) (traces : List ATrace) where
  for-all : (S : Standing) (c : Command CheckedObj MorLit) (between : List AtSeat) (later : List (CatNo × OfData)) → AreSeats session S between → AreWhole histories between
      → ((n : ℕ) → history_of histories n ≡ seen_at between n ++ (of_category n later ++ together n traces)) → (a : LineAnswer MorData)
      → ((whole : List (History ObjData MorData)) → AreWhole whole between → FullIsWhole whole S c a) → FullForAll kinds rule_table histories S c a traces
  for-all S c between later are V goes (line.Refused (refusal.Full n k)) full =
      let ends = full-nothing session S c n k between are full histories V (λ m. of_category m later ++ together m traces) goes in
      (ends.0, ends.1, none-together ends.0.0 traces (right-nil (of_category ends.0.0 later) (together ends.0.0 traces) ends.2))
  for-all S c between later are V goes _ full = tt

  chain-stays : (S S' : Standing) (seats seats' : List AtSeat) (cs : List (Command CheckedObj MorLit)) (events : List (CatNo × OfData)) (answers : List (LineAnswer MorData)) → Chain IsNothing session S seats cs events answers S' seats'
      → AreWhole histories seats' → ((n : ℕ) → history_of histories n ≡ seen_at seats' n ++ together n traces) → StayFull kinds rule_table histories S cs answers traces
  chain-stays S S' seats seats' [] events answers C W goes = tt
  chain-stays S S' seats seats' (c ∷ cs) events answers (first, later, a, rest, between, e, f, runs, are, chain) W goes =
      let T = with_bound S (bound_name c) a in
      let behind = seats-behind session S (bound_name c) a between are in
      let stay = seats-stay session T between cs later rest S' seats' chain behind in
      let here = seats-before session S (bound_name c) a seats' stay in
      let more : (n : ℕ) → seen_at seats' n ≡ seen_at between n ++ of_category n later = grown session T between cs later rest S' seats' chain in
      let V = whole-before session S between seats' (λ n. of_category n later) are here more histories W in
      let goes2 : (n : ℕ) → history_of histories n ≡ seen_at between n ++ (of_category n later ++ together n traces)
      = λ n. goes n ∙ ap (λ y. y ++ together n traces) (more n) ∙ append_assoc (seen_at between n) (of_category n later) (together n traces) in
      subst (λ answers. StayFull kinds rule_table histories S (c ∷ cs) answers traces) (sym f) (for-all S c between later are V goes2 a runs.full, chain-stays T S' between seats' cs later rest chain W goes)

sessions-stay : (histories : List (History ObjData MorData)) (before : SessionNo) (n : ℕ) (S : Standing) (seats : List AtSeat) (parts : List APart) (traces : List ATrace) (seats' : List AtSeat) → SessionsRun n S seats parts traces seats'
    → AreSeats before S seats → AreWhole histories seats' → ((m : ℕ) → history_of histories m ≡ seen_at seats' m) → AllStayFull kinds rule_table histories S parts traces
sessions-stay histories before n S seats [] traces seats' C A W goes = tt
sessions-stay histories before n S seats (p ∷ parts) traces seats' (t, rest, between, is, run, more) A W goes =
    let B = seats-stay t.session S (seated t.session seats) (map (λ c. c.node) p.node.commands) t.events (map (λ d. d.answer) t.done) run.behind between run.runs (seats-seated before t.session S seats A) in
    let V = whole-longer between seats' (sessions-longer t.session (suc n) S between parts rest seats' more B) histories W in
    let here : (m : ℕ) → history_of histories m ≡ seen_at between m ++ together m rest = λ m. goes m ∙ sessions-grown (suc n) S between parts rest seats' more m in
    subst (AllStayFull kinds rule_table histories S (p ∷ parts)) (sym is) (
      chain-stays histories t.session rest S run.behind (seated t.session seats) between (map (λ c. c.node) p.node.commands) t.events (map (λ d. d.answer) t.done) run.runs V here,
      sessions-stay histories t.session (suc n) S between parts rest seats' more B W goes,
    )

seen-from : (n : ℕ) (seats : List AtSeat) (i : ℕ) → history_of (histories_from n seats) i ≡ seen_at seats i
seen-from n [] i = refl
seen-from n (s ∷ seats) zero = refl
seen-from n (s ∷ seats) (suc i) = seen-from (suc n) seats i

nobody : AreSeats prelude_session at_first []
nobody = record { numbered = λ i m e. absurd (none≢some e); all = tt }

tails : (s t : ATrace) (ss ts : List ATrace) → s ∷ ss ≡ t ∷ ts → ss ≡ ts
tails s t ss ts e = cc

pub runs-in-turn : RunsAreInTurn
runs-in-turn form behind prelude sessions seats' H r R =
    let I = run-accounts form behind prelude sessions seats' H r R in
    let after = items-stay at_first [] (map (λ i. i.node) form.prelude) prelude.events (map (λ d. d.answer) prelude.done) behind H.between H.prelude_runs nobody in
    let end = sessions-end prelude_session 1 behind H.between form.sessions sessions seats' H.sessions_run after in
    let are : (c : ℕ) → history_of r.histories c ≡ seen_at seats' c = λ c. ap (λ hs. history_of hs c) R.histories ∙ seen-from 0 seats' c in
    let whole = whole-seen end.0 behind seats' end.1 r.histories are in
    let stay = sessions-stay r.histories prelude_session 1 behind H.between form.sessions sessions seats' H.sessions_run after whole are in
    let same : sessions ≡ I.accounts.sessions = tails prelude I.accounts.prelude sessions I.accounts.sessions (sym R.traces ∙ I.accounts.traces) in
    record {
      accounts = I.accounts;
      in_turn = I.in_turn;
      full = subst (λ (S : Standing). AllStayFull kinds rule_table r.histories S form.sessions I.accounts.sessions) (sym I.same)
          (subst (λ ts. AllStayFull kinds rule_table r.histories behind form.sessions ts) same stay);
    }

pub one-run : OneRun
one-run form fits behind behind' prelude prelude' sessions sessions' seats seats' H H' r s R R' =
    one-report form fits r s (runs-in-turn form behind prelude sessions seats H r R) (runs-in-turn form behind' prelude' sessions' seats' H' s R')
