use Rattle.std.proofs.Common.{◌≡◌, [], ◌∷◌, ◌++◌, length, sym, ap, ◌∙◌}
use Rattle.cap_fitting.proofs.Fit.{forms_fit}
use Rattle.cap_fitting.proofs.Literals.{literals_fit}
use Rattle.cap_session.specs.Reports.{IsReport, IsPlainReport}
use Rattle.cap_session.proofs.Whole.{sessions-come, few-seats, plain-report, if-ok}
use Rattle.cap_session.proofs.plain.run_plain.Goals as goal

pub run_parts-requires-clause-comes : goal.run_parts-requires-clause-comes
run_parts-requires-clause-comes g c κs within =
    let form = c.args.script.now in
    record {
      first = c.at_first-course.ensures;
      form = form;
      is_form = sym c.prelude.ensures.value;
      fits = forms_fit form c.prelude.ensures.sound;
      literals = literals_fit form c.prelude.ensures.sound;
      built = c.requires;
    }

pub run_one_by_one-requires-clause-comes : goal.run_one_by_one-requires-clause-comes
run_one_by_one-requires-clause-comes g c κs within =
    let form = c.args.script.now in
    let traces = c.push.new.self.items in
    let alone : traces ≡ c.hand_over.result ∷ [] = c.in_ok-push.ensures.items ∙ ap (λ l. l ++ c.hand_over.result ∷ []) c.new-traces.ensures.items in
    sessions-come form c.prelude.result.now c.sessions-sessions.result.now c.prelude.ensures.value c.sessions-sessions.ensures c.run_parts.new.course c.hand_over.new.course c.hand_over.result c.in_ok-run_parts.ensures c.hand_over.ensures
    (forms_fit form c.prelude.ensures.sound) (literals_fit form c.prelude.ensures.sound) traces (ap length alone)

pub report-requires-after_bounds : goal.report-requires-after_bounds
report-requires-after_bounds g c κs within =
    let form = c.args.script.now in
    let traces = c.push.new.self.items in
    let alone : traces ≡ c.hand_over.result ∷ [] = c.in_ok-push.ensures.items ∙ ap (λ l. l ++ c.hand_over.result ∷ []) c.new-traces.ensures.items in
    few-seats form c.prelude.result.now c.sessions-sessions.result.now c.prelude.ensures.value c.sessions-sessions.ensures c.run_parts.new.course c.hand_over.new.course c.hand_over.result c.in_ok-run_parts.ensures c.hand_over.ensures
    c.run_one_by_one.new.course traces c.run_one_by_one.new.traces.items alone c.in_ok-run_one_by_one.ensures (forms_fit form c.prelude.ensures.sound)

pub returns : goal.returns
returns g c =
    let form = c.args.script.now in
    let last = c.run_one_by_one.new.course in
    let traces = c.push.new.self.items in
    let alone : traces ≡ c.hand_over.result ∷ [] = c.in_ok-push.ensures.items ∙ ap (λ l. l ++ c.hand_over.result ∷ []) c.new-traces.ensures.items in
    if-ok (IsReport last.seats.items c.run_one_by_one.new.traces.items) (IsPlainReport form)
    (plain-report form c.prelude.result.now c.sessions-sessions.result.now c.prelude.ensures.value c.sessions-sessions.ensures c.run_parts.new.course c.hand_over.new.course c.hand_over.result c.in_ok-run_parts.ensures c.hand_over.ensures
    last traces c.run_one_by_one.new.traces.items alone c.in_ok-run_one_by_one.ensures)
    c.report.result c.report.ensures
