-- What a report says but for the sizes that its refusals name.
use Rattle.std.specs.Prelude.{map}
use Rattle.std.specs.List.{All}
use Rattle.cap_names.specs.declared.faults.TooLarge.{TooLarge}
use Rattle.cap_report.specs.declared.lines.LineAnswer.{LineAnswer}
use Rattle.cap_report.specs.declared.lines.LineAnswer.TheVariants as line
use Rattle.cap_report.specs.declared.lines.LineRefusal.{LineRefusal}
use Rattle.cap_report.specs.declared.lines.LineRefusal.TheVariants as refusal
use Rattle.cap_report.specs.declared.report.Done.{Done}
use Rattle.cap_report.specs.declared.report.Report.{Report}
use Rattle.cap_report.specs.declared.report.Trace.{Trace}

-- no size stands where a matrix past the limits was met
abbrev pub no_size : TooLarge
no_size = record { rows = 0; cols = 0 }

abbrev pub refusal_without_size : LineRefusal → LineRefusal
refusal_without_size (refusal.TooLarge size) = refusal.TooLarge no_size
refusal_without_size why = why

abbrev pub answer_without_size : {M : Type 0} → LineAnswer M → LineAnswer M
answer_without_size (line.Refused why) = line.Refused (refusal_without_size why)
answer_without_size answer = answer

abbrev pub done_without_size : {M : Type 0} → Done M → Done M
done_without_size d = record { command = d.command; answer = answer_without_size d.answer }

abbrev pub trace_without_sizes : {O M : Type 0} → Trace O M → Trace O M
trace_without_sizes t = record { session = t.session; events = t.events; done = map done_without_size t.done }

-- the histories, events and plans stand as they are
abbrev pub without_sizes : {O M : Type 0} → Report O M → Report O M
without_sizes r = record { histories = r.histories; traces = map trace_without_sizes r.traces; plans = r.plans }

-- no refusal names a size
abbrev pub NamesNoSize : {M : Type 0} → LineAnswer M → Type 0
NamesNoSize (line.Refused (refusal.TooLarge size)) = ⊥
NamesNoSize answer = Unit {0}

abbrev pub HasNoSizes : {O M : Type 0} → Report O M → Type 0
HasNoSizes {O} {M} r = All (λ (t : Trace O M). All (λ (d : Done M). NamesNoSize d.answer) t.done) r.traces
