-- Two reports of a form that fits are one, but for sizes.
use Rattle.std.proofs.Common.{◌≡◌, ℕ, zero, suc, ◌+◌, List, [], ◌∷◌, ◌++◌, Some, length, map, append_assoc, refl, sym, ap, subst, ◌∙◌, slice_get, arith}
use Rattle.std.specs.Prelude.{option_map}
use Rattle.std.specs.List.{All, AllZip, filter_map, position_or_len, slice_index_or}
use Rattle.std.proofs.lemmas.List.Elements.{All-head, All-tail}
use Rattle.std.proofs.lemmas.List.Folds.{find_at}
use Rattle.cap_names.specs.declared.identifiers.CatNo.{CatNo}
use Rattle.cap_names.specs.declared.identifiers.SessionNo.{SessionNo}
use Rattle.cap_grammar.specs.declared.tree.Item.TheVariants as top
use Rattle.cap_block_faults.specs.Names.{same}
use Rattle.cap_faults.specs.declared.values.Value.{Value}
use Rattle.cap_faults.specs.Scripts.{values_behind}
use Rattle.cap_fitting.specs.Commands.{CommandFits}
use Rattle.cap_fitting.specs.Forms.{CheckedCommand, CheckedSession, behind_parts, behind_commands, PartFits, FormFits}
use Rattle.cap_fitting.specs.Values.{bound_by_part, bound_by_command, values_of_parts, values_of_commands}
use Rattle.cap_check.specs.Unbuilt.{CheckedPart}
use Rattle.cap_checked.specs.declared.tree.Checked.{Checked}
use Rattle.cap_ops.specs.declared.plans.Plan.{Plan}
use Rattle.cap_ops.specs.Told.{told_in, StaysTold}
use Rattle.cap_ops.proofs.Places.{none≢some, some_inner}
use Rattle.cap_rules.specs.Table.{rule_table}
use Rattle.cap_data.specs.declared.data.ObjData.{ObjData}
use Rattle.cap_data.specs.declared.data.MorData.{MorData}
use Rattle.cap_offer.specs.Labels.{Label}
use Rattle.cap_history.specs.Reading.{objects, finality}
use Rattle.cap_history.specs.declared.reading.Finality.{Finality}
use Rattle.cap_report.specs.declared.report.Done.{Done}
use Rattle.cap_report.specs.declared.report.History.{History}
use Rattle.cap_report.specs.declared.report.Report.{Report}
use Rattle.cap_report.specs.declared.situation.Made.{Made}
use Rattle.cap_report.specs.Histories.{entries_or_none, history_of}
use Rattle.cap_accounts.specs.Accounts.{of_category, at_first, IsHistory}
use Rattle.cap_commands.specs.Agreement.{Standing}
use Rattle.cap_commands.specs.Kinds.{kinds}
use Rattle.cap_commands.specs.Seats.{OfData}
use Rattle.cap_one_report.specs.Sizes.{done_without_size, trace_without_sizes}
use Rattle.cap_one_report.specs.InTurn.{IsInTurn}
use Rattle.cap_one_report.specs.Laws.{OneReport}
use Rattle.cap_one_report.proofs.Commands.{Histories, LegalIn}
use Rattle.cap_one_report.proofs.Agreeing.{AgreeTold, stand-longer}
use Rattle.cap_one_report.proofs.Chains.{LegalFor, AllFit}
use Rattle.cap_one_report.proofs.Turns.{below, at, above, Rising, Under, parts, below-next, below-none, all-below, none-above, rising, under, of-each}
use Rattle.cap_one_report.proofs.Sessions.{ATrace, session_of, Shares, Turning, SessionsSide, none-of, AllSessionsFit, sessions-one, done-one, trace-same}
use Rattle.cap_one_report.proofs.Prelude.{AnItem, AreNumbered, items-numbered, ItemFits, ItemsFit, values_after, ItemsSide, items-one}

-- the values behind one more
values-snoc : {A : Type 0} (bound : List Value → A → List Value) (values : List Value) (xs : List A) (x : A) → values_behind bound values (xs ++ x ∷ []) ≡ values_behind bound values xs ++ bound (values_behind bound values xs) x
values-snoc bound values [] x = refl
values-snoc bound values (y ∷ xs) x = values-snoc bound (values ++ bound values y) xs x

-- each part and each command of a form fits behind those before it
part-fits : (front : List CheckedPart) (i : AnItem) → PartFits front i → ItemFits (values_of_parts front) i
part-fits front (top.Block b) f = tt
part-fits front (top.Category name o) f = tt
part-fits front (top.Command c) f = (behind_parts front, refl, f)

module _ (form : Checked) (fits : FormFits form) where
  items-fit : (front todo : List CheckedPart) → form.prelude ≡ front ++ todo → ItemsFit (values_of_parts front) (map (λ i. i.node) todo)
  items-fit front [] e = tt
  items-fit front (p ∷ todo) e = (
    part-fits front p.node (fits.parts front todo p e),
    subst (λ vs. ItemsFit vs (map (λ (i : CheckedPart). i.node) todo)) (values-snoc bound_by_part [] front p) (items-fit (front ++ p ∷ []) todo (e ∙ sym (append_assoc front (p ∷ []) todo))),
  )

  all-fit : (cs front todo : List CheckedCommand) → ((before behind : List CheckedCommand) (c : CheckedCommand) → cs ≡ before ++ (c ∷ behind) → CommandFits (behind_commands form.prelude before) c.node) → cs ≡ front ++ todo
      → AllFit (values_of_commands (values_of_parts form.prelude) front) (map (λ c. c.node) todo)
  all-fit cs front [] f e = tt
  all-fit cs front (c ∷ todo) f e = (
    (behind_commands form.prelude front, refl, f front todo c e),
    subst (λ vs. AllFit vs (map (λ (c : CheckedCommand). c.node) todo)) (values-snoc bound_by_command (values_of_parts form.prelude) front c) (all-fit cs (front ++ c ∷ []) todo f (e ∙ sym (append_assoc front (c ∷ []) todo))),
  )

  sessions-fit : (front todo : List CheckedSession) → form.sessions ≡ front ++ todo → AllSessionsFit (values_of_parts form.prelude) todo
  sessions-fit front [] e = tt
  sessions-fit front (s ∷ todo) e = (
    all-fit s.node.commands [] s.node.commands (fits.sessions front todo s e).commands refl,
    sessions-fit (front ++ s ∷ []) todo (e ∙ sym (append_assoc front (s ∷ []) todo)),
  )

same-values : (values : List Value) (ps : List CheckedPart) → values_after values (map (λ i. i.node) ps) ≡ values_behind bound_by_part values ps
same-values values [] = refl
same-values values (p ∷ ps) = same-values (values ++ bound_by_part values p) ps

-- histories of made categories
abbrev AHistory : Type 0
AHistory = History ObjData MorData

there : {A B : Type 0} (R : A → B → Type 0) (xs : List A) (ys : List B) (i : ℕ) (x : A) → AllZip R xs ys → slice_get xs i ≡ Some x → (y : B) × (slice_get ys i ≡ Some y) × R x y
there R [] [] i x all e = absurd (none≢some e)
there R [] (z ∷ ys) i x all e = absurd (none≢some e)
there R (w ∷ xs) [] i x all e = absurd all
there R (w ∷ xs) (z ∷ ys) zero x all e = (z, refl, subst (λ w. R w z) (some_inner e) all.0)
there R (w ∷ xs) (z ∷ ys) (suc i) x all e = there R xs ys i x all.1 e

histories-legal : (H : Histories) (categories : List (Made Label)) → AreNumbered categories → AllZip (IsHistory kinds rule_table H) categories H → LegalFor H categories
histories-legal H categories numbered all name m e =
    let place = position_or_len (λ (m : Made Label). same m.name name) categories in
    let at : slice_get categories place ≡ Some m = sym (find_at (λ (m : Made Label). same m.name name) categories) ∙ e in
    let found = there (IsHistory kinds rule_table H) categories H place m all at in
    let is : found.0.entries ≡ history_of H m.number.0 = ap entries_or_none (sym found.1) ∙ ap (history_of H) (sym (numbered place m at)) in
    subst (LegalIn m) is found.2.legal

abbrev Numbers : Made Label → AHistory → Type 0
Numbers m h = h.cat ≡ m.number

numbers-of : (H : Histories) (ms : List (Made Label)) (hs : Histories) → AllZip (IsHistory kinds rule_table H) ms hs → AllZip Numbers ms hs
numbers-of H [] [] all = tt
numbers-of H [] (h ∷ hs) all = absurd all
numbers-of H (m ∷ ms) [] all = absurd all
numbers-of H (m ∷ ms) (h ∷ hs) all = (all.0.number, numbers-of H ms hs all.1)

abbrev history : CatNo → List OfData → AHistory
history c entries = record { cat = c; entries = entries }

histories-same : (ms : List (Made Label)) (hs hs' : Histories) → AllZip Numbers ms hs → AllZip Numbers ms hs' → ((c : ℕ) → history_of hs c ≡ history_of hs' c) → hs ≡ hs'
histories-same [] [] [] a b same = refl
histories-same [] [] (h' ∷ hs') a b same = absurd b
histories-same [] (h ∷ hs) hs' a b same = absurd a
histories-same (m ∷ ms) [] hs' a b same = absurd a
histories-same (m ∷ ms) (h ∷ hs) [] a b same = absurd b
histories-same (m ∷ ms) (h ∷ hs) (h' ∷ hs') a b same =
    let first : h ≡ h' = ap (λ c. history c h.entries) (a.0 ∙ sym b.0) ∙ ap (history h'.cat) (same 0) in
    ap (λ x. x ∷ hs) first ∙ ap (λ xs. h' ∷ xs) (histories-same ms hs hs' a.1 b.1 (λ c. same (suc c)))

abbrev session_number : ℕ → SessionNo
session_number n = record { 0 = n }

-- one report
module _ (form : Checked) (r : Report ObjData MorData) (I : IsInTurn kinds rule_table form r) where
  turning : Turning r.histories (length r.traces)
  turning = record {
    rising = λ c. of-each (Rising session_of) tt r.histories (λ k h below. rising session_of (slice_index_or r.histories k h).entries (I.in_turn k h below)) c;
    under = λ c. of-each (Under session_of (length r.traces)) tt r.histories (λ k h below. under session_of (length r.traces) (slice_index_or r.histories k h).entries (I.accounts.own k h below)) c;
  }

  all-shares : All (Shares r.histories) (I.accounts.prelude ∷ I.accounts.sessions)
  all-shares = subst (All (Shares r.histories)) I.accounts.traces I.accounts.shares

  sessions : SessionsSide r.histories (length r.traces) 1 I.accounts.behind form.sessions I.accounts.sessions
  sessions = record {
    are = I.accounts.sessions_do;
    stay = I.full;
    shares = All-tail (Shares r.histories) I.accounts.prelude I.accounts.sessions all-shares;
    count = (let e : length r.traces ≡ suc (length I.accounts.sessions) = ap length I.accounts.traces in omega arith);
  }

  legal : LegalFor r.histories I.accounts.behind.categories
  legal = histories-legal r.histories I.accounts.behind.categories
      (items-numbered r.histories I.accounts.sessions (map (λ i. i.node) form.prelude) at_first I.accounts.behind I.accounts.prelude.events (map (λ (d : Done MorData). d.answer) I.accounts.prelude.done) I.accounts.prelude_does (λ i m e. absurd (none≢some e)))
      I.accounts.histories

  -- the prelude's own entries come first
  own : (k : ℕ) → at session_of 0 (history_of r.histories k) ≡ of_category k I.accounts.prelude.events
  own k = sym (All-head (Shares r.histories) I.accounts.prelude I.accounts.sessions all-shares k ∙ ap (λ i. at session_of i (history_of r.histories k)) I.accounts.first)

  prelude-side : ItemsSide r.histories at_first (λ k. []) I.accounts.prelude.events (λ k. above session_of 0 (history_of r.histories k)) I.accounts.sessions (map (λ i. i.node) form.prelude) (map (λ (d : Done MorData). d.answer) I.accounts.prelude.done) I.accounts.behind
  prelude-side = record {
    whole = λ k. parts session_of 0 (history_of r.histories k) (turning.rising k) ∙ ap (λ y. y ++ (at session_of 0 (history_of r.histories k) ++ above session_of 0 (history_of r.histories k))) (below-none session_of (history_of r.histories k))
        ∙ ap (λ y. y ++ above session_of 0 (history_of r.histories k)) (own k);
    legal = legal;
    none = λ k silent. none-above session_of 0 (length r.traces) (history_of r.histories k) (turning.under k) (λ m l u. none-of r.histories I.accounts.behind k 1 form.sessions I.accounts.sessions I.accounts.sessions_do sessions.shares silent m l (let count = sessions.count in omega arith));
    does = I.accounts.prelude_does;
  }

  behind-prelude : (k : ℕ) → below session_of 1 (history_of r.histories k) ≡ of_category k I.accounts.prelude.events
  behind-prelude k = below-next session_of 0 (history_of r.histories k) (turning.rising k) ∙ ap (λ y. y ++ at session_of 0 (history_of r.histories k)) (below-none session_of (history_of r.histories k)) ∙ own k

abbrev report_of : Histories → List ATrace → List Plan → Report ObjData MorData
report_of hs ts ps = record { histories = hs; traces = ts; plans = ps }

pub one-report : OneReport
one-report form fits r s I J =
    let items = items-fit form fits [] form.prelude refl in
    let P = items-one r.histories s.histories (λ k. above session_of 0 (history_of r.histories k)) (λ k. above session_of 0 (history_of s.histories k)) I.accounts.sessions J.accounts.sessions (map (λ i. i.node) form.prelude) at_first at_first refl [] (λ k. []) tt items
    I.accounts.prelude.events J.accounts.prelude.events (map (λ (d : Done MorData). d.answer) I.accounts.prelude.done) (map (λ (d : Done MorData). d.answer) J.accounts.prelude.done) I.accounts.behind J.accounts.behind (prelude-side form r I) (prelude-side form s J) in
    let start : (k : ℕ) → below session_of 1 (history_of r.histories k) ≡ below session_of 1 (history_of s.histories k) = λ k. behind-prelude form r I k ∙ ap (of_category k) P.same_events ∙ sym (behind-prelude form s J k) in
    let agree = stand-longer I.accounts.behind I.accounts.behind (λ k. of_category k I.accounts.prelude.events) (λ k. below session_of 1 (history_of r.histories k)) (λ cat m is. is)
    (λ k. subst (λ y. StaysTold (told_in (objects (of_category k I.accounts.prelude.events))) (told_in (objects y))) (sym (behind-prelude form r I k)) (λ h o is. is)) (values_of_parts form.prelude) I.accounts.behind.bound
    (subst (λ vs. AgreeTold I.accounts.behind (λ k. of_category k I.accounts.prelude.events) vs) (same-values [] form.prelude) P.agrees) in
    let S = sessions-one r.histories s.histories (length r.traces) (length s.traces) (turning form r I) (turning form s J) I.accounts.behind J.accounts.behind P.stands (legal form r I) (legal form s J) (values_of_parts form.prelude) form.sessions 1
    I.accounts.sessions J.accounts.sessions (sessions form r I) (sessions form s J) (sessions-fit form fits [] form.sessions refl) start agree in
    let long : 1 + length I.accounts.sessions ≡ length r.traces = (sessions form r I).count in
    let long' : 1 + length I.accounts.sessions ≡ length s.traces = S.counts ∙ (sessions form s J).count in
    let entries : (c : ℕ) → history_of r.histories c ≡ history_of s.histories c
    = λ c. sym (all-below session_of (length r.traces) (history_of r.histories c) ((turning form r I).under c)) ∙ ap (λ i. below session_of i (history_of r.histories c)) (sym long) ∙ S.entries c
    ∙ ap (λ i. below session_of i (history_of s.histories c)) long' ∙ all-below session_of (length s.traces) (history_of s.histories c) ((turning form s J).under c) in
    let categories : I.accounts.behind.categories ≡ J.accounts.behind.categories = ap (λ (T : Standing). T.categories) P.stands in
    let numbers = numbers-of r.histories I.accounts.behind.categories r.histories I.accounts.histories in
    let numbers' : AllZip Numbers I.accounts.behind.categories s.histories = subst (λ ms. AllZip Numbers ms s.histories) (sym categories) (numbers-of s.histories J.accounts.behind.categories s.histories J.accounts.histories) in
    let histories : r.histories ≡ s.histories = histories-same I.accounts.behind.categories r.histories s.histories numbers numbers' entries in
    let ds = done-one 0 I.accounts.prelude.done J.accounts.prelude.done I.accounts.counted J.accounts.counted P.same_answers in
    let number = ap (λ n. session_number n) (I.accounts.first ∙ sym J.accounts.first) in
    let prelude : trace_without_sizes I.accounts.prelude ≡ trace_without_sizes J.accounts.prelude = trace-same I.accounts.prelude.session J.accounts.prelude.session I.accounts.prelude.events J.accounts.prelude.events (map done_without_size I.accounts.prelude.done) (map done_without_size J.accounts.prelude.done) number P.same_events ds in
    let traces : map trace_without_sizes r.traces ≡ map trace_without_sizes s.traces
    = ap (map trace_without_sizes) I.accounts.traces ∙ (ap (λ t. t ∷ map trace_without_sizes I.accounts.sessions) prelude ∙ (ap (λ ts. trace_without_sizes J.accounts.prelude ∷ ts) S.traces ∙ ap (map trace_without_sizes) (sym J.accounts.traces))) in
    let plans : r.plans ≡ s.plans = I.accounts.plans ∙ ap (λ (hs : Histories). filter_map (λ (h : AHistory). option_map (λ (f : Finality). f.plan) (finality h.entries)) hs) histories ∙ sym J.accounts.plans in
    ap (λ hs. report_of hs (map trace_without_sizes r.traces) r.plans) histories ∙ ap (λ ts. report_of s.histories ts r.plans) traces ∙ ap (report_of s.histories (map trace_without_sizes s.traces)) plans
