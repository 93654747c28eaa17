-- The sessions of a script one after another: what the seats see of them, and what they do.
use Rattle.std.proofs.Common.{◌≡◌, ℕ, suc, ◌+◌, List, [], ◌∷◌, ◌++◌, length, map, refl, sym, ap, ◌∙◌, subst, append_assoc, arith}
use Rattle.std.proofs.lemmas.List.{append-nil}
use Rattle.cap_names.specs.declared.identifiers.SessionNo.{SessionNo}
use Rattle.cap_names.specs.declared.literals.MorLit.{MorLit}
use Rattle.cap_grammar.specs.declared.tree.Placed.{Placed}
use Rattle.cap_grammar.specs.declared.tree.SessionPart.{SessionPart}
use Rattle.cap_checked.specs.declared.tree.CheckedObj.{CheckedObj}
use Rattle.cap_rules.specs.Table.{rule_table}
use Rattle.cap_data.specs.declared.data.ObjData.{ObjData}
use Rattle.cap_data.specs.declared.data.MorData.{MorData}
use Rattle.cap_desk.specs.Woven.{IsNothing}
use Rattle.cap_desk.proofs.Weaving.{nothing-others}
use Rattle.cap_report.specs.declared.report.History.{History}
use Rattle.cap_report.specs.declared.report.Trace.{Trace}
use Rattle.cap_accounts.specs.Accounts.{of_category, IsTrace, AreTraces}
use Rattle.cap_commands.specs.Agreement.{Standing}
use Rattle.cap_commands.specs.Kinds.{kinds}
use Rattle.cap_commands.specs.Seats.{AtSeat, AreSeats, seen_at, AreWhole}
use Rattle.cap_traces.specs.Runs.{seated, SessionRuns, SessionsRun}
use Rattle.cap_traces.proofs.Growing.{grown, seats-stay}
use Rattle.cap_traces.proofs.Doing.{chain-does}
use Rattle.cap_traces.proofs.Longer.{AreLonger, longer-self, longer-on, longer-seats, longer-seated, whole-longer, seen-seated, seats-seated}
use Rattle.cap_traces.proofs.Owners.{commands-own}
use Rattle.cap_traces.proofs.Sharing.{together, AreApart}

-- one session
module _ (n : ℕ) (S : Standing) (seats : List AtSeat) (p : Placed (SessionPart CheckedObj MorLit)) (t : Trace ObjData MorData) (seats' : List AtSeat) (run : SessionRuns n S seats p t seats') where
  chain-grown : (c : ℕ) → seen_at seats' c ≡ seen_at (seated t.session seats) c ++ of_category c t.events
  chain-grown c = grown t.session S (seated t.session seats) (map (λ c. c.node) p.node.commands) t.events (map (λ d. d.answer) t.done) run.behind seats' run.runs c

  session-grown : (c : ℕ) → seen_at seats' c ≡ seen_at seats c ++ of_category c t.events
  session-grown c = chain-grown c ∙ ap (λ es. es ++ of_category c t.events) (seen-seated t.session seats c)

  session-stays : (before : SessionNo) → AreSeats before S seats → AreSeats t.session S seats'
  session-stays before A =
      seats-stay t.session S (seated t.session seats) (map (λ c. c.node) p.node.commands) t.events (map (λ d. d.answer) t.done) run.behind seats' run.runs (seats-seated before t.session S seats A)

  session-longer : (before : SessionNo) → AreSeats before S seats → AreLonger seats seats'
  session-longer before A =
      longer-on seats (seated t.session seats) seats' (longer-seated t.session seats)
      (longer-seats t.session S (seated t.session seats) seats' (λ c. of_category c t.events) (seats-seated before t.session S seats A) (session-stays before A) chain-grown)

  session-does : (histories : List (History ObjData MorData)) → AreWhole histories seats' → IsTrace kinds rule_table histories S p t
  session-does histories W = record {
    does = chain-does IsNothing (nothing-others ObjData MorData) t.session S run.behind (seated t.session seats) seats' (map (λ c. c.node) p.node.commands) t.events (map (λ d. d.answer) t.done) run.runs histories W;
    counted = run.counted;
  }

pub sessions-grown : (n : ℕ) (S : Standing) (seats : List AtSeat) (parts : List (Placed (SessionPart CheckedObj MorLit))) (traces : List (Trace ObjData MorData)) (seats' : List AtSeat)
    → SessionsRun n S seats parts traces seats' → (c : ℕ) → seen_at seats' c ≡ seen_at seats c ++ together c traces
sessions-grown n S seats [] traces seats' C c =
    ap (λ ss. seen_at ss c) C.1 ∙ sym (append-nil (seen_at seats c)) ∙ ap (λ ts. seen_at seats c ++ together c ts) (sym C.0)
sessions-grown n S seats (p ∷ parts) traces seats' (t, rest, between, is, run, more) c =
    sessions-grown (suc n) S between parts rest seats' more c
    ∙ ap (λ es. es ++ together c rest) (session-grown n S seats p t between run c)
    ∙ append_assoc (seen_at seats c) (of_category c t.events) (together c rest)
    ∙ ap (λ ts. seen_at seats c ++ together c ts) (sym is)

-- at the end the seats are those of the last session, or of whoever sat there before
pub sessions-end : (before : SessionNo) (n : ℕ) (S : Standing) (seats : List AtSeat) (parts : List (Placed (SessionPart CheckedObj MorLit))) (traces : List (Trace ObjData MorData)) (seats' : List AtSeat)
    → SessionsRun n S seats parts traces seats' → AreSeats before S seats → (last : SessionNo) × AreSeats last S seats'
sessions-end before n S seats [] traces seats' C A = (before, subst (AreSeats before S) (sym C.1) A)
sessions-end before n S seats (p ∷ parts) traces seats' (t, rest, between, is, run, more) A =
    sessions-end t.session (suc n) S between parts rest seats' more (session-stays n S seats p t between run before A)

pub sessions-longer : (before : SessionNo) (n : ℕ) (S : Standing) (seats : List AtSeat) (parts : List (Placed (SessionPart CheckedObj MorLit))) (traces : List (Trace ObjData MorData)) (seats' : List AtSeat)
    → SessionsRun n S seats parts traces seats' → AreSeats before S seats → AreLonger seats seats'
sessions-longer before n S seats [] traces seats' C A = subst (AreLonger seats) (sym C.1) (longer-self seats)
sessions-longer before n S seats (p ∷ parts) traces seats' (t, rest, between, is, run, more) A =
    longer-on seats between seats' (session-longer n S seats p t between run before A)
    (sessions-longer t.session (suc n) S between parts rest seats' more (session-stays n S seats p t between run before A))

pub sessions-do : (before : SessionNo) (n : ℕ) (S : Standing) (seats : List AtSeat) (parts : List (Placed (SessionPart CheckedObj MorLit))) (traces : List (Trace ObjData MorData)) (seats' : List AtSeat)
    → SessionsRun n S seats parts traces seats' → AreSeats before S seats → (histories : List (History ObjData MorData)) → AreWhole histories seats' → AreTraces kinds rule_table histories n S parts traces
sessions-do before n S seats [] traces seats' C A histories W = subst (AreTraces kinds rule_table histories n S []) (sym C.0) tt
sessions-do before n S seats (p ∷ parts) traces seats' (t, rest, between, is, run, more) A histories W =
    let B = session-stays n S seats p t between run before A in
    let V = whole-longer between seats' (sessions-longer t.session (suc n) S between parts rest seats' more B) histories W in
    subst (AreTraces kinds rule_table histories n S (p ∷ parts)) (sym is)
    (run.number, session-does n S seats p t between run histories V, sessions-do t.session (suc n) S between parts rest seats' more B histories W)

-- the traces of sessions are apart
pub traces-apart : (histories : List (History ObjData MorData)) (n : ℕ) (S : Standing) (parts : List (Placed (SessionPart CheckedObj MorLit))) (traces : List (Trace ObjData MorData))
    → AreTraces kinds rule_table histories n S parts traces → AreApart n traces
traces-apart histories n S [] [] are = tt
traces-apart histories n S [] (t ∷ ts) are = absurd are
traces-apart histories n S (p ∷ parts) [] are = absurd are
traces-apart histories n S (p ∷ parts) (t ∷ ts) (number, is, rest) = (
  number,
  commands-own kinds rule_table histories t.session S (map (λ c. c.node) p.node.commands) t.events (map (λ d. d.answer) t.done) is.does,
  traces-apart histories (suc n) S parts ts rest,
)

pub sessions-more : (n : ℕ) (S : Standing) (seats middle seats' : List AtSeat) (parts : List (Placed (SessionPart CheckedObj MorLit))) (p : Placed (SessionPart CheckedObj MorLit))
    (traces : List (Trace ObjData MorData)) (t : Trace ObjData MorData)
    → SessionsRun n S seats parts traces middle → SessionRuns (n + length parts) S middle p t seats' → SessionsRun n S seats (parts ++ p ∷ []) (traces ++ t ∷ []) seats'
sessions-more n S seats middle seats' [] p traces t C run =
    let here : n + 0 ≡ n = omega arith in
    (t, [], seats', ap (λ ts. ts ++ t ∷ []) C.0, subst (λ ss. SessionRuns n S ss p t seats') C.1 (subst (λ k. SessionRuns k S middle p t seats') here run), (refl, refl))
sessions-more n S seats middle seats' (q ∷ parts) p traces t (first, rest, between, is, first_runs, more) run =
    let there : n + suc (length parts) ≡ suc n + length parts = omega arith in
    (first, rest ++ t ∷ [], between, ap (λ ts. ts ++ t ∷ []) is, first_runs, sessions-more (suc n) S between middle seats' parts p rest t more (subst (λ k. SessionRuns k S middle p t seats') there run))
