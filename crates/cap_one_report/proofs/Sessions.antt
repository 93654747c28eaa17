-- The sessions one after another: their traces are determined by what stands behind the prelude, but for sizes.
use Rattle.std.proofs.Common.{◌≡◌, ℕ, suc, ◌+◌, ◌<◌, ◌≤◌, List, [], ◌∷◌, ◌++◌, length, map, refl, sym, ap, subst, ◌∙◌, inl, inr, arith}
use Rattle.std.specs.List.{All}
use Rattle.std.proofs.lemmas.List.Elements.{All-head, All-tail}
use Rattle.cap_names.specs.declared.identifiers.SessionNo.{SessionNo}
use Rattle.cap_names.specs.declared.literals.MorLit.{MorLit}
use Rattle.cap_grammar.specs.declared.tree.Placed.{Placed}
use Rattle.cap_grammar.specs.declared.tree.SessionPart.{SessionPart}
use Rattle.cap_faults.specs.declared.values.Value.{Value}
use Rattle.cap_checked.specs.declared.tree.CheckedObj.{CheckedObj}
use Rattle.cap_ops.specs.Told.{told_in, StaysTold}
use Rattle.cap_ops.proofs.DerivationsBounds.{lt_or_le}
use Rattle.cap_rules.specs.Table.{rule_table}
use Rattle.cap_data.specs.declared.data.ObjData.{ObjData}
use Rattle.cap_data.specs.declared.data.MorData.{MorData}
use Rattle.cap_history.specs.Reading.{objects}
use Rattle.cap_legal.proofs.Longer.{told-longer}
use Rattle.cap_report.specs.declared.report.Done.{Done}
use Rattle.cap_report.specs.declared.report.Trace.{Trace}
use Rattle.cap_report.specs.Histories.{history_of}
use Rattle.cap_accounts.specs.Accounts.{of_category, of_session, CountFrom, CommandsDo, AreTraces}
use Rattle.cap_commands.specs.Agreement.{Standing}
use Rattle.cap_commands.specs.Kinds.{kinds}
use Rattle.cap_commands.specs.Seats.{OfData}
use Rattle.cap_one_report.specs.Sizes.{answer_without_size, done_without_size, trace_without_sizes}
use Rattle.cap_one_report.specs.InTurn.{AllStayFull}
use Rattle.cap_one_report.proofs.Situations.{bare_situation}
use Rattle.cap_one_report.proofs.Doing.{Line}
use Rattle.cap_one_report.proofs.Commands.{Events, Histories}
use Rattle.cap_one_report.proofs.Agreeing.{AgreeTold, stand-longer}
use Rattle.cap_one_report.proofs.Chains.{LegalFor, bares, AllFit, ChainSide, chain-one}
use Rattle.cap_one_report.proofs.Turns.{below, at, above, Rising, Under, parts, below-next, none-above}

abbrev pub ATrace : Type 0
ATrace = Trace ObjData MorData

abbrev pub APart : Type 0
APart = Placed (SessionPart CheckedObj MorLit)

-- the number of an entry's session
abbrev pub session_of : OfData → ℕ
session_of e = e.session.0

-- what commands have done, where it was counted from one number on
abbrev done_of : ℕ → Line → Done MorData
done_of n a = record { command = n; answer = a }

done-same : (n m : ℕ) (a b : Line) → n ≡ m → a ≡ b → done_of n a ≡ done_of m b
done-same n m a b e f = ap (λ k. done_of k a) e ∙ ap (done_of m) f

pub done-one : (n : ℕ) (ds ds' : List (Done MorData)) → CountFrom n ds → CountFrom n ds' → bares (map (λ (d : Done MorData). d.answer) ds) ≡ bares (map (λ (d : Done MorData). d.answer) ds')
    → map done_without_size ds ≡ map done_without_size ds'
done-one n [] [] c k e = refl
done-one n [] (d ∷ ds') c k e = absurd (cc)
done-one n (d ∷ ds) [] c k e = absurd (cc)
done-one n (d ∷ ds) (d' ∷ ds') c k e =
    let first : answer_without_size d.answer ≡ answer_without_size d'.answer = cc in
    let more : bares (map (λ (d : Done MorData). d.answer) ds) ≡ bares (map (λ (d : Done MorData). d.answer) ds') = cc in
    let one : done_without_size d ≡ done_without_size d' = done-same d.command d'.command (answer_without_size d.answer) (answer_without_size d'.answer) (c.0 ∙ sym k.0) first in
    ap (λ x. x ∷ map done_without_size ds) one ∙ ap (λ xs. done_without_size d' ∷ xs) (done-one (suc n) ds ds' c.1 k.1 more)

abbrev trace_of : SessionNo → Events → List (Done MorData) → ATrace
trace_of s events ds = record { session = s; events = events; done = ds }

pub trace-same : (s s' : SessionNo) (events events' : Events) (ds ds' : List (Done MorData)) → s ≡ s' → events ≡ events' → ds ≡ ds' → trace_of s events ds ≡ trace_of s' events' ds'
trace-same s s' events events' ds ds' e f g = ap (λ x. trace_of x events ds) e ∙ ap (λ y. trace_of s' y ds) f ∙ ap (trace_of s' events') g

abbrev session_no : ℕ → SessionNo
session_no n = record { 0 = n }

-- the events of a trace are its session's own in each history
abbrev pub Shares : Histories → ATrace → Type 0
Shares H t = (c : ℕ) → of_category c t.events ≡ of_session t.session.0 (history_of H c)

-- the histories of a report, session after session
pub record Turning (H : Histories) (N : ℕ) : Type 0 where
  pub rising : (c : ℕ) → Rising session_of (history_of H c)
  pub under : (c : ℕ) → Under session_of N (history_of H c)

-- sessions from one number on
pub record SessionsSide (H : Histories) (N n : ℕ) (S : Standing) (parts : List APart) (traces : List ATrace) : Type 0 where
  pub are : AreTraces kinds rule_table H n S parts traces
  pub stay : AllStayFull kinds rule_table H S parts traces
  pub shares : All (Shares H) traces
  pub count : n + length traces ≡ N

-- where no later trace has an event in a category, its history has no entry of a later session
module _ (H : Histories) (S : Standing) (k : ℕ) where
  abbrev pub Silent : ATrace → Type 0
  Silent t = of_category k t.events ≡ []

  pub none-of : (n : ℕ) (ps : List APart) (ts : List ATrace) → AreTraces kinds rule_table H n S ps ts → All (Shares H) ts → All Silent ts → (m : ℕ) → n ≤ m → m < n + length ts → at session_of m (history_of H k) ≡ []
  none-of n [] [] are shares silent m le lt = absurd (omega arith)
  none-of n [] (t ∷ ts) are shares silent m le lt = absurd are
  none-of n (p ∷ ps) [] are shares silent m le lt = absurd are
  none-of n (p ∷ ps) (t ∷ ts) are shares silent m le lt = elim (lt_or_le n m) [
    | inl l ↦ none-of (suc n) ps ts are.2 (All-tail (Shares H) t ts shares) (All-tail Silent t ts silent) m l (omega arith)
    | inr l ↦ (
        let e : n ≡ m = omega arith in
        ap (λ i. at session_of i (history_of H k)) (sym (are.0 ∙ e)) ∙ sym (All-head (Shares H) t ts shares k) ∙ All-head Silent t ts silent)
  ]

-- one session on both sides
module _ (H : Histories) (N n : ℕ) (T : Turning H N) (S : Standing) (p : APart) (ps : List APart) (t : ATrace) (ts : List ATrace) (A : SessionsSide H N n S (p ∷ ps) (t ∷ ts)) where
  own : (k : ℕ) → at session_of n (history_of H k) ≡ of_category k t.events
  own k = sym (All-head (Shares H) t ts A.shares k ∙ ap (λ i. at session_of i (history_of H k)) A.are.0)

  abbrev pub before_it : ℕ → List OfData
  before_it k = below session_of n (history_of H k)

  abbrev pub after_it : ℕ → List OfData
  after_it k = above session_of n (history_of H k)

  pub session-chain : (done : ℕ → List OfData) → ((k : ℕ) → before_it k ≡ done k) → LegalFor H S.categories → (s : SessionNo) → t.session ≡ s
      → ChainSide s H S done t.events after_it ts (map (λ c. c.node) p.node.commands) (map (λ (d : Done MorData). d.answer) t.done)
  session-chain done is legal s e = record {
    whole = λ k. parts session_of n (history_of H k) (T.rising k) ∙ ap (λ y. y ++ (at session_of n (history_of H k) ++ after_it k)) (is k) ∙ ap (λ y. done k ++ (y ++ after_it k)) (own k);
    legal = legal;
    none = λ k silent. none-above session_of n N (history_of H k) (T.under k) (λ m l u. none-of H S k (suc n) ps ts A.are.2 (All-tail (Shares H) t ts A.shares) silent m l (let count = A.count in omega arith));
    does = subst (λ s. CommandsDo kinds rule_table H s S (map (λ c. c.node) p.node.commands) t.events (map (λ (d : Done MorData). d.answer) t.done)) e A.are.1.does;
    stay = A.stay.0;
  }

  pub later-sessions : SessionsSide H N (suc n) S ps ts
  later-sessions = record { are = A.are.2; stay = A.stay.1; shares = All-tail (Shares H) t ts A.shares; count = let count = A.count in omega arith }

  pub before-next : (k : ℕ) → below session_of (suc n) (history_of H k) ≡ before_it k ++ of_category k t.events
  before-next k = below-next session_of n (history_of H k) (T.rising k) ∙ ap (λ y. before_it k ++ y) (own k)

-- each session's commands fit where these values are bound
abbrev pub AllSessionsFit : List Value → List APart → Type 0
AllSessionsFit values [] = Unit {0}
AllSessionsFit values (p ∷ ps) = AllFit values (map (λ c. c.node) p.node.commands) × AllSessionsFit values ps

module _ (H H' : Histories) (N N' : ℕ) (T : Turning H N) (T' : Turning H' N') (S S' : Standing) (q : bare_situation S ≡ bare_situation S') (legal : LegalFor H S.categories) (legal' : LegalFor H' S'.categories) (values : List Value) where
  -- the same traces but for sizes, and the same entries
  pub record SameSessions (n : ℕ) (ts ts' : List ATrace) : Type 0 where
    pub traces : map trace_without_sizes ts ≡ map trace_without_sizes ts'
    pub counts : n + length ts ≡ n + length ts'
    pub entries : (k : ℕ) → below session_of (n + length ts) (history_of H k) ≡ below session_of (n + length ts) (history_of H' k)

  at-end : (n : ℕ) → ((k : ℕ) → below session_of n (history_of H k) ≡ below session_of n (history_of H' k)) → SameSessions n [] []
  at-end n same = record { traces = refl; counts = refl; entries = λ k. subst (λ i. below session_of i (history_of H k) ≡ below session_of i (history_of H' k)) (let e : n ≡ n + 0 = omega arith in e) (same k) }

  one-behind : (n : ℕ) (t t' : ATrace) (ts ts' : List ATrace) → trace_without_sizes t ≡ trace_without_sizes t' → SameSessions (suc n) ts ts' → SameSessions n (t ∷ ts) (t' ∷ ts')
  one-behind n t t' ts ts' e R =
      let count = R.counts in
      let up : suc n + length ts ≡ n + length (t ∷ ts) = omega arith in
      record {
        traces = ap (λ x. x ∷ map trace_without_sizes ts) e ∙ ap (λ xs. trace_without_sizes t' ∷ xs) R.traces;
        counts = omega arith;
        entries = λ k. subst (λ i. below session_of i (history_of H k) ≡ below session_of i (history_of H' k)) up (R.entries k);
      }

  pub sessions-one : (ps : List APart) (n : ℕ) (ts ts' : List ATrace) → SessionsSide H N n S ps ts → SessionsSide H' N' n S' ps ts' → AllSessionsFit values ps
      → ((k : ℕ) → below session_of n (history_of H k) ≡ below session_of n (history_of H' k)) → AgreeTold S (λ k. below session_of n (history_of H k)) values → SameSessions n ts ts'
  sessions-one [] n [] [] A B fit same agree = at-end n same
  sessions-one [] n (t ∷ ts) ts' A B fit same agree = absurd A.are
  sessions-one [] n [] (t' ∷ ts') A B fit same agree = absurd B.are
  sessions-one (p ∷ ps) n [] ts' A B fit same agree = absurd A.are
  sessions-one (p ∷ ps) n (t ∷ ts) [] A B fit same agree = absurd B.are
  sessions-one (p ∷ ps) n (t ∷ ts) (t' ∷ ts') A B fit same agree =
      let number : t'.session ≡ t.session = ap session_no (B.are.0 ∙ sym A.are.0) in
      let C = session-chain H N n T S p ps t ts A (λ k. below session_of n (history_of H k)) (λ k. refl) legal t.session refl in
      let D = session-chain H' N' n T' S' p ps t' ts' B (λ k. below session_of n (history_of H k)) (λ k. sym (same k)) legal' t.session number in
      let R = chain-one t.session H H' (λ k. above session_of n (history_of H k)) (λ k. above session_of n (history_of H' k)) ts ts' (map (λ c. c.node) p.node.commands) S S' q values (λ k. below session_of n (history_of H k)) agree fit.0
      t.events t'.events (map (λ (d : Done MorData). d.answer) t.done) (map (λ (d : Done MorData). d.answer) t'.done) C D in
      let ds = done-one 0 t.done t'.done A.are.1.counted B.are.1.counted R.1 in
      let one = trace-same t.session t'.session t.events t'.events (map done_without_size t.done) (map done_without_size t'.done) (sym number) R.0 ds in
      let next : (k : ℕ) → below session_of (suc n) (history_of H k) ≡ below session_of (suc n) (history_of H' k)
      = λ k. before-next H N n T S p ps t ts A k ∙ ap (λ y. y ++ of_category k t.events) (same k) ∙ ap (λ (y : Events). below session_of n (history_of H' k) ++ of_category k y) R.0 ∙ sym (before-next H' N' n T' S' p ps t' ts' B k) in
      let stays : (k : ℕ) → StaysTold (told_in (objects (below session_of n (history_of H k)))) (told_in (objects (below session_of (suc n) (history_of H k))))
      = λ k. subst (λ y. StaysTold (told_in (objects (below session_of n (history_of H k)))) (told_in (objects y))) (sym (before-next H N n T S p ps t ts A k)) (told-longer (below session_of n (history_of H k)) (of_category k t.events)) in
      let agree2 = stand-longer S S (λ k. below session_of n (history_of H k)) (λ k. below session_of (suc n) (history_of H k)) (λ cat m e. e) stays values S.bound agree in
      one-behind n t t' ts ts' one (sessions-one ps (suc n) ts ts' (later-sessions H N n T S p ps t ts A) (later-sessions H' N' n T' S' p ps t' ts' B) fit.1 next agree2)
