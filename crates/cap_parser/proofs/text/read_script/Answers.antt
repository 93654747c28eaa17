use Rattle.std.proofs.Common.{◌≡◌, ◌∙◌, ◌≤◌, ◌-◌, length, sym, ap, subst, true}
use Rattle.cap_grammar.specs.Scripts.{IsFault, whole_lines}
use Rattle.cap_lines.specs.Marks.{marks, position}
use Rattle.cap_lines.proofs.Cuts.{symbols_marks}
use Rattle.cap_parser.proofs.TextLaws.{Failing, text_found, text_only, text_rest, text_none, text_at}
use Rattle.cap_parser.proofs.text.read_script.Goals as goal

pub returns-in-Ok-script_of-clause-found : goal.returns-in-Ok-script_of-clause-found
returns-in-Ok-script_of-clause-found c =
    let lines : marks c.as_slice.result.now c.as_slice-2.result.now ≡ whole_lines (marks c.args.symbols.now c.args.places.now) c.args.end = (λ i. marks (c.as_slice.ensures.value i) (c.as_slice-2.ensures.value i)) ∙ c.in-Ok.ensures.marks in
    let same : length c.as_slice.result.now ≡ length c.as_slice-2.result.now = ap length c.as_slice.ensures.value ∙ c.in-Ok.ensures.lengths ∙ sym (ap length c.as_slice-2.ensures.value) in
    text_found (marks c.args.symbols.now c.args.places.now) c.args.end c.as_slice.result.now c.as_slice-2.result.now same lines c.in-Ok-script_of.script c.in-Ok-script_of.ensures

pub returns-in-Ok-script_of-clause-only : goal.returns-in-Ok-script_of-clause-only
returns-in-Ok-script_of-clause-only c = λ s text.
    let lines : marks c.as_slice.result.now c.as_slice-2.result.now ≡ whole_lines (marks c.args.symbols.now c.args.places.now) c.args.end = (λ i. marks (c.as_slice.ensures.value i) (c.as_slice-2.ensures.value i)) ∙ c.in-Ok.ensures.marks in
    let same : length c.as_slice.result.now ≡ length c.as_slice-2.result.now = ap length c.as_slice.ensures.value ∙ c.in-Ok.ensures.lengths ∙ sym (ap length c.as_slice-2.ensures.value) in
    text_only (marks c.args.symbols.now c.args.places.now) c.args.end c.as_slice.result.now c.as_slice-2.result.now same lines c.in-Ok-script_of.script s c.in-Ok-script_of.ensures text

pub overflow_sub-number : goal.overflow_sub-number
overflow_sub-number c =
    let lines : marks c.as_slice.result.now c.as_slice-2.result.now ≡ whole_lines (marks c.args.symbols.now c.args.places.now) c.args.end = (λ i. marks (c.as_slice.ensures.value i) (c.as_slice-2.ensures.value i)) ∙ c.in-Ok.ensures.marks in
    let same : length c.as_slice.result.now ≡ length c.as_slice-2.result.now = ap length c.as_slice.ensures.value ∙ c.in-Ok.ensures.lengths ∙ sym (ap length c.as_slice-2.ensures.value) in
    let failing : Failing c.as_slice.result.now c.as_slice-2.result.now c.in-Err-Syntax.rest.now = rw c.in-Err-Syntax.field-0-is at c.in-Err-Syntax.ensures in
    subst (λ n. length c.in-Err-Syntax.rest.now ≤ n) (c.as_slice.ensures.len ∙ sym c.len.ensures)
    (text_rest (marks c.args.symbols.now c.args.places.now) c.args.end c.as_slice.result.now c.as_slice-2.result.now same lines c.in-Err-Syntax.rest.now failing)

pub returns-clause-only : goal.returns-clause-only
returns-clause-only c = λ s text.
    let lines : marks c.as_slice.result.now c.as_slice-2.result.now ≡ whole_lines (marks c.args.symbols.now c.args.places.now) c.args.end = (λ i. marks (c.as_slice.ensures.value i) (c.as_slice-2.ensures.value i)) ∙ c.in-Ok.ensures.marks in
    let same : length c.as_slice.result.now ≡ length c.as_slice-2.result.now = ap length c.as_slice.ensures.value ∙ c.in-Ok.ensures.lengths ∙ sym (ap length c.as_slice-2.ensures.value) in
    let failing : Failing c.as_slice.result.now c.as_slice-2.result.now c.in-Err-Syntax.rest.now = rw c.in-Err-Syntax.field-0-is at c.in-Err-Syntax.ensures in
    absurd (text_none (marks c.args.symbols.now c.args.places.now) c.args.end c.as_slice.result.now c.as_slice-2.result.now same lines c.in-Err-Syntax.rest.now failing s text)

pub returns-clause-fault : goal.returns-clause-fault
returns-clause-fault c =
    let lines : marks c.as_slice.result.now c.as_slice-2.result.now ≡ whole_lines (marks c.args.symbols.now c.args.places.now) c.args.end = (λ i. marks (c.as_slice.ensures.value i) (c.as_slice-2.ensures.value i)) ∙ c.in-Ok.ensures.marks in
    let same : length c.as_slice.result.now ≡ length c.as_slice-2.result.now = ap length c.as_slice.ensures.value ∙ c.in-Ok.ensures.lengths ∙ sym (ap length c.as_slice-2.ensures.value) in
    let failing : Failing c.as_slice.result.now c.as_slice-2.result.now c.in-Err-Syntax.rest.now = rw c.in-Err-Syntax.field-0-is at c.in-Err-Syntax.ensures in
    let number : length c.as_slice.result.now - length c.in-Err-Syntax.rest.now ≡ c.len.result - length c.in-Err-Syntax.rest.now = ap (λ n. n - length c.in-Err-Syntax.rest.now) (c.as_slice.ensures.len ∙ sym c.len.ensures) in
    let at = text_at (marks c.args.symbols.now c.args.places.now) c.args.end c.as_slice.result.now c.as_slice-2.result.now same lines c.in-Err-Syntax.rest.now failing in
    let own = subst (λ text. IsFault text (position true text (length c.as_slice.result.now - length c.in-Err-Syntax.rest.now))) (symbols_marks c.args.symbols.now c.args.places.now c.requires) at in
    subst (IsFault c.args.symbols.now) (ap (position true c.args.symbols.now) number ∙ sym c.position.ensures) own
