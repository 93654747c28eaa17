-- A report whose refusals name no sizes is what it is without them.
use Rattle.std.proofs.Common.{◌≡◌, List, [], ◌∷◌, map, refl, sym, ap, ◌∙◌}
use Rattle.std.specs.List.{All}
use Rattle.std.proofs.lemmas.List.Elements.{All-head, All-tail}
use Rattle.cap_data.specs.declared.data.ObjData.{ObjData}
use Rattle.cap_data.specs.declared.data.MorData.{MorData}
use Rattle.cap_report.specs.declared.lines.LineAnswer.{LineAnswer}
use Rattle.cap_report.specs.declared.lines.LineAnswer.TheVariants as line
use Rattle.cap_report.specs.declared.lines.LineRefusal.{LineRefusal}
use Rattle.cap_report.specs.declared.lines.LineRefusal.TheVariants as refusal
use Rattle.cap_report.specs.declared.report.Done.{Done}
use Rattle.cap_report.specs.declared.report.Report.{Report}
use Rattle.cap_report.specs.declared.report.Trace.{Trace}
use Rattle.cap_one_report.specs.Sizes.{refusal_without_size, answer_without_size, done_without_size, trace_without_sizes, without_sizes, NamesNoSize, HasNoSizes}
use Rattle.cap_one_report.specs.Laws.{OneWholeReport}
use Rattle.cap_one_report.proofs.Sessions.{trace-same}
use Rattle.cap_one_report.proofs.Reports.{one-report}

module _ {M : Type 0} where
  same-refusal : (why : LineRefusal) → NamesNoSize {M = M} (line.Refused why) → ◌≡◌ {A = LineAnswer M} (line.Refused (refusal_without_size why)) (line.Refused why)
  same-refusal (refusal.TooLarge size) n = absurd n
  same-refusal (refusal.Lacks name) n = refl
  same-refusal (refusal.Mismatch m) n = refl
  same-refusal refusal.NotFinal n = refl
  same-refusal (refusal.AlreadyFinal at) n = refl
  same-refusal (refusal.NotOffered op) n = refl
  same-refusal (refusal.Twice weight) n = refl
  same-refusal (refusal.NameTaken h) n = refl
  same-refusal (refusal.Missing op) n = refl
  same-refusal (refusal.Shape part) n = refl
  same-refusal (refusal.Full entries cells) n = refl

  same-answer : (a : LineAnswer M) → NamesNoSize a → answer_without_size a ≡ a
  same-answer (line.Refused why) n = same-refusal why n
  same-answer line.Category n = refl
  same-answer (line.Registered op weight) n = refl
  same-answer line.Final n = refl
  same-answer (line.Plan p) n = refl
  same-answer (line.Object h) n = refl
  same-answer (line.Morphism f) n = refl
  same-answer (line.Tuple fs) n = refl
  same-answer (line.Truth b) n = refl
  same-answer line.Nothing n = refl

  abbrev Nameless : Done M → Type 0
  Nameless d = NamesNoSize d.answer

  abbrev done_with : Done M → LineAnswer M → Done M
  done_with d a = record { command = d.command; answer = a }

  same-dones : (ds : List (Done M)) → All Nameless ds → map done_without_size ds ≡ ds
  same-dones [] n = refl
  same-dones (d ∷ ds) n =
      let one : done_without_size d ≡ d = ap (done_with d) (same-answer d.answer (All-head Nameless d ds n)) in
      ap (λ x. x ∷ map done_without_size ds) one ∙ ap (λ xs. d ∷ xs) (same-dones ds (All-tail Nameless d ds n))

abbrev ATrace : Type 0
ATrace = Trace ObjData MorData

abbrev AllNameless : ATrace → Type 0
AllNameless t = All (λ (d : Done MorData). NamesNoSize d.answer) t.done

same-traces : (ts : List ATrace) → All AllNameless ts → map trace_without_sizes ts ≡ ts
same-traces [] n = refl
same-traces (t ∷ ts) n =
    let one : trace_without_sizes t ≡ t = trace-same t.session t.session t.events t.events (map done_without_size t.done) t.done refl refl (same-dones t.done (All-head AllNameless t ts n)) in
    ap (λ x. x ∷ map trace_without_sizes ts) one ∙ ap (λ xs. t ∷ xs) (same-traces ts (All-tail AllNameless t ts n))

abbrev with_traces : Report ObjData MorData → List ATrace → Report ObjData MorData
with_traces r ts = record { histories = r.histories; traces = ts; plans = r.plans }

same-report : (r : Report ObjData MorData) → HasNoSizes r → without_sizes r ≡ r
same-report r n = ap (with_traces r) (same-traces r.traces n)

pub one-whole-report : OneWholeReport
one-whole-report form fits r s I J n m = sym (same-report r n) ∙ one-report form fits r s I J ∙ same-report s m
