-- Sessions at once: each adds what it did, which stands in what it saw; and on the histories at the end it did what its commands do.
use Rattle.std.proofs.Common.{◌≡◌, ℕ, suc, ◌+◌, List, [], ◌∷◌, ◌++◌, length, map, refl, sym, ap, ◌∙◌, subst, slice_get, Some, arith}
use Rattle.std.specs.List.{All, AllZip}
use Rattle.std.proofs.lemmas.List.{length-append}
use Rattle.std.proofs.lemmas.List.Elements.{All-nil, All-cons, All-head, All-tail}
use Rattle.cap_names.specs.declared.identifiers.CatNo.{CatNo}
use Rattle.cap_names.specs.declared.identifiers.SessionNo.{SessionNo}
use Rattle.cap_names.specs.declared.literals.MorLit.{MorLit}
use Rattle.cap_grammar.specs.declared.tree.Command.{Command}
use Rattle.cap_grammar.specs.declared.tree.Placed.{Placed}
use Rattle.cap_grammar.specs.declared.tree.SessionPart.{SessionPart}
use Rattle.cap_checked.specs.declared.tree.CheckedObj.{CheckedObj}
use Rattle.cap_rules.specs.Table.{rule_table}
use Rattle.cap_data.specs.declared.data.ObjData.{ObjData}
use Rattle.cap_data.specs.declared.data.MorData.{MorData}
use Rattle.cap_data.specs.Counts.{cells_in_object, cells_in_morphism}
use Rattle.cap_desk.specs.Books.{frame}
use Rattle.cap_desk.specs.Hands.{Hand}
use Rattle.cap_desk.specs.Woven.{AreOthers}
use Rattle.cap_legal.specs.Legal.{Legal}
use Rattle.cap_offer.specs.Labels.{any_offer}
use Rattle.cap_report.specs.declared.lines.LineAnswer.{LineAnswer}
use Rattle.cap_report.specs.declared.report.History.{History}
use Rattle.cap_report.specs.declared.report.Trace.{Trace}
use Rattle.cap_report.specs.Histories.{entries_or_none, history_of}
use Rattle.cap_report.specs.Named.{bound_name}
use Rattle.cap_accounts.specs.Accounts.{of_category, with_bound, IsHistory, IsTrace, AreTraces}
use Rattle.cap_commands.specs.Agreement.{Standing}
use Rattle.cap_commands.specs.Kinds.{kinds}
use Rattle.cap_commands.specs.Seats.{AtSeat, OfData, IsSeat, AreSeats, seen_or_none, seen_at, hand_at, AreWhole}
use Rattle.cap_traces.specs.Chains.{Chain}
use Rattle.cap_traces.proofs.Doing.{chain-does}
use Rattle.cap_traces.proofs.Growing.{of-both, woven, stay}
use Rattle.cap_traces.proofs.Pairs.{zip-left, zip-right}
use Rattle.cap_traces.proofs.Sharing.{together}
use Rattle.cap_traces.proofs.Within.{IsWithin, within-front, within-back, woven-within}
use Rattle.cap_thread_laws.specs.AtOnce.{IsAnything, SessionRan, SessionsRan, added_at, BeginsWith}
use Rattle.cap_thread_laws.proofs.Counting.{StandsIn}

anything : AreOthers IsAnything
anything = record { nothing = tt; joined = λ a b p q. tt }

-- a chain adds its own entries
chain-added : (others : List OfData → Type 0) (session : SessionNo) (S : Standing) (seats : List AtSeat) (cs : List (Command CheckedObj MorLit)) (events : List (CatNo × OfData)) (answers : List (LineAnswer MorData)) (S' : Standing)
    (seats' : List AtSeat) → Chain others session S seats cs events answers S' seats' → (c : ℕ) → (hand_at seats' c).added ≡ (hand_at seats c).added + length (of_category c events)
chain-added others session S seats [] events answers S' seats' C n =
    let none : length (of_category n events) ≡ 0 = ap (λ es. length (of_category n es)) C.0 in omega (arith, ap (λ ss. (hand_at ss n).added) C.3, none)
chain-added others session S seats (c ∷ cs) events answers S' seats' (first, later, a, rest, between, e, f, runs, are, chain) n =
    let here = ap (λ (h : Hand). h.added) (runs.hands n) in
    let there = chain-added others session (with_bound S (bound_name c) a) between cs later rest S' seats' chain n in
    let both = ap (λ es. length (of_category n es)) e ∙ ap length (of-both n first later) ∙ length-append (of_category n first) (of_category n later) in
    omega (arith, here, there, both)

module _ (S : Standing) where
  session-added : (n : ℕ) (between : List AtSeat) (p : Placed (SessionPart CheckedObj MorLit)) (t : Trace ObjData MorData) (seats' : List AtSeat) → SessionRan n S between p t seats'
      → (c : ℕ) → (hand_at seats' c).added ≡ length (of_category c t.events)
  session-added n between p t seats' run c =
      omega (arith, chain-added IsAnything t.session S run.seats (map (λ c. c.node) p.node.commands) t.events (map (λ d. d.answer) t.done) run.behind seats' run.runs c, run.nothing c)

  -- together, sessions add as many entries as they did
  pub sessions-added : (n : ℕ) (between : List AtSeat) (parts : List (Placed (SessionPart CheckedObj MorLit))) (traces : List (Trace ObjData MorData)) (ends : List (List AtSeat))
      → SessionsRan n S between parts traces ends → (c : ℕ) → added_at c ends ≡ length (together c traces)
  sessions-added n between [] [] [] ran c = refl
  sessions-added n between (p ∷ parts) (t ∷ traces) (e ∷ ends) ran c =
      omega (arith, session-added n between p t e ran.0 c, sessions-added (suc n) between parts traces ends ran.1 c, length-append (of_category c t.events) (together c traces))
  sessions-added n between [] [] (e ∷ ends) ran c = absurd ran
  sessions-added n between [] (t ∷ traces) ends ran c = absurd ran
  sessions-added n between (p ∷ parts) [] ends ran c = absurd ran
  sessions-added n between (p ∷ parts) (t ∷ traces) [] ran c = absurd ran

-- histories that are legal and begin with what was seen are whole
module _ (S : Standing) (histories : List (History ObjData MorData)) (legal : AllZip (IsHistory kinds rule_table histories) S.categories histories) where
  pub begun-whole : (session : SessionNo) (seats : List AtSeat) → AreSeats session S seats → ((c : ℕ) → BeginsWith (history_of histories c) (seen_at seats c)) → AreWhole histories seats
  begun-whole session seats A begins n s is =
      let made = zip-left (IsSeat session) S.categories seats n s A.all is in
      let h = zip-right (IsHistory kinds rule_table histories) S.categories histories n made.0 legal made.1 in
      let there : history_of histories n ≡ h.0.entries = ap entries_or_none h.1 in
      record {
        later = (begins n).0;
        whole = (begins n).1 ∙ ap (λ o. seen_or_none o ++ (begins n).0) is;
        legal = subst (λ x. Legal (frame (any_offer x) cells_in_object cells_in_morphism) (history_of histories n)) (sym made.2.offer)
            (subst (λ es. Legal (frame (any_offer made.0.category) cells_in_object cells_in_morphism) es) (sym there) h.2.legal);
      }

  -- one session
  module _ (n : ℕ) (between : List AtSeat) (p : Placed (SessionPart CheckedObj MorLit)) (t : Trace ObjData MorData) (seats' : List AtSeat) (run : SessionRan n S between p t seats') where
    session-stays : AreSeats t.session S seats'
    session-stays = stay IsAnything t.session S run.seats (map (λ c. c.node) p.node.commands) t.events (map (λ d. d.answer) t.done) run.behind seats' run.runs run.are

    module _ (begins : (c : ℕ) → BeginsWith (history_of histories c) (seen_at seats' c)) where
      session-stands : (c : ℕ) → StandsIn c (history_of histories c) t
      session-stands c =
          let own = of_category c t.events in
          let grew = woven-within IsAnything (seen_at run.seats c) own (seen_at seats' c)
          (woven IsAnything t.session anything S run.seats (map (λ c. c.node) p.node.commands) t.events (map (λ d. d.answer) t.done) run.behind seats' run.runs c) in
          let seen = subst (IsWithin own) (sym grew.1) (within-back own (seen_at run.seats c) grew.0 grew.2) in
          subst (IsWithin own) (sym (begins c).1) (within-front own (seen_at seats' c) (begins c).0 seen)

      session-does : IsTrace kinds rule_table histories S p t
      session-does = record {
        does = chain-does IsAnything anything t.session S run.behind run.seats seats' (map (λ c. c.node) p.node.commands) t.events (map (λ d. d.answer) t.done) run.runs histories
            (begun-whole t.session seats' session-stays begins);
        counted = run.counted;
      }

  abbrev Begins : List AtSeat → Type 0
  Begins seats = (c : ℕ) → BeginsWith (history_of histories c) (seen_at seats c)

  -- all sessions
  pub sessions-stand : (n : ℕ) (between : List AtSeat) (parts : List (Placed (SessionPart CheckedObj MorLit))) (traces : List (Trace ObjData MorData)) (ends : List (List AtSeat))
      → SessionsRan n S between parts traces ends → All Begins ends → (c : ℕ) → All (StandsIn c (history_of histories c)) traces
  sessions-stand n between [] [] [] ran begins c = All-nil (StandsIn c (history_of histories c))
  sessions-stand n between (p ∷ parts) (t ∷ traces) (e ∷ ends) ran begins c =
      All-cons (StandsIn c (history_of histories c)) t traces (session-stands n between p t e ran.0 (All-head Begins e ends begins) c)
      (sessions-stand (suc n) between parts traces ends ran.1 (All-tail Begins e ends begins) c)
  sessions-stand n between [] [] (e ∷ ends) ran begins c = absurd ran
  sessions-stand n between [] (t ∷ traces) ends ran begins c = absurd ran
  sessions-stand n between (p ∷ parts) [] ends ran begins c = absurd ran
  sessions-stand n between (p ∷ parts) (t ∷ traces) [] ran begins c = absurd ran

  pub sessions-do : (n : ℕ) (between : List AtSeat) (parts : List (Placed (SessionPart CheckedObj MorLit))) (traces : List (Trace ObjData MorData)) (ends : List (List AtSeat))
      → SessionsRan n S between parts traces ends → All Begins ends → AreTraces kinds rule_table histories n S parts traces
  sessions-do n between [] [] [] ran begins = tt
  sessions-do n between (p ∷ parts) (t ∷ traces) (e ∷ ends) ran begins =
      (ran.0.number, session-does n between p t e ran.0 (All-head Begins e ends begins), sessions-do (suc n) between parts traces ends ran.1 (All-tail Begins e ends begins))
  sessions-do n between [] [] (e ∷ ends) ran begins = absurd ran
  sessions-do n between [] (t ∷ traces) ends ran begins = absurd ran
  sessions-do n between (p ∷ parts) [] ends ran begins = absurd ran
  sessions-do n between (p ∷ parts) (t ∷ traces) [] ran begins = absurd ran
