use Rattle.std.proofs.Common.{◌≡◌, ℕ, ◌-◌, length, List, get_or, sym, ap, ◌∙◌, subst, arith}
use Rattle.cap_reading.specs.Faults.{IsFault}
use Rattle.cap_reading.specs.Lines.{lines, text_of}
use Rattle.cap_reading.specs.Steps.{whole}
use Rattle.cap_reading.specs.Example.{is, page, page_at}
use Rattle.cap_reading.proofs.Law.{ok_inj}
use Rattle.cap_reading.proofs.Whole.{found, only, no_value, rest_within}
use Rattle.cap_reading.proofs.Lined.{fault_place}
use Rattle.cap_reading.proofs.ExampleLaws.{law_page, page_fault}
use Rattle.cap_reading.proofs.pages.read_page.Goals as goal

pub returns-in-Ok-page_of-clause-found : goal.returns-in-Ok-page_of-clause-found
returns-in-Ok-page_of-clause-found c =
    found law_page (lines (is 59) 59 c.args.bytes.now) c.in-Ok-page_of.page (ap (whole page_at) (sym (c.as_slice.ensures.value ∙ c.in-Ok.ensures.lines)) ∙ c.in-Ok-page_of.ensures)

pub returns-in-Ok-page_of-clause-only : goal.returns-in-Ok-page_of-clause-only
returns-in-Ok-page_of-clause-only c = λ s text.
    let read = ap (whole page_at) (sym (c.as_slice.ensures.value ∙ c.in-Ok.ensures.lines)) ∙ c.in-Ok-page_of.ensures in
    ok_inj {F = List ℕ} c.in-Ok-page_of.page s (sym read ∙ only law_page (lines (is 59) 59 c.args.bytes.now) s text)

pub overflow_sub-before : goal.overflow_sub-before
overflow_sub-before c = omega (arith, rest_within law_page c.as_slice.result.now c.in-Err-Syntax.rest.now (rw c.in-Err-Syntax.field-0-is at c.in-Err-Syntax.ensures), c.len.ensures, ap length c.as_slice.ensures.value)

pub returns-clause-only : goal.returns-clause-only
returns-clause-only c = λ s text.
    let fails = ap (whole page_at) (sym (c.as_slice.ensures.value ∙ c.in-Ok.ensures.lines)) ∙ (rw c.in-Err-Syntax.field-0-is at c.in-Err-Syntax.ensures) in
    absurd (no_value law_page (lines (is 59) 59 c.args.bytes.now) c.in-Err-Syntax.rest.now fails s text)

pub returns-clause-fault : goal.returns-clause-fault
returns-clause-fault c =
    let fails = ap (whole page_at) (sym (c.as_slice.ensures.value ∙ c.in-Ok.ensures.lines)) ∙ (rw c.in-Err-Syntax.field-0-is at c.in-Err-Syntax.ensures) in
    let place : c.place_at-place.result ≡ fault_place (is 59) 59 c.args.bytes.now c.in-Err-Syntax.rest.now =
    c.place_at-place.ensures ∙ (λ i. get_or ((c.as_slice-in-Err-Syntax.ensures.value ∙ c.in-Ok.ensures.places) i) ((c.len.ensures ∙ sym c.as_slice.ensures.len ∙ ap length (c.as_slice.ensures.value ∙ c.in-Ok.ensures.lines)) i - length c.in-Err-Syntax.rest.now) (length c.args.bytes.now)) in
    subst (IsFault (text_of (is 59) 59 page) c.args.bytes.now) (sym place) (page_fault c.args.bytes.now c.in-Err-Syntax.rest.now fails)
