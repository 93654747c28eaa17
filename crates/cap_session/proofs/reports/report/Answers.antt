use Rattle.std.proofs.Common.{◌≡◌, ◌++◌, ◌∷◌, [], length, sym, ap, ◌∙◌, arith}
use Rattle.std.specs.Prelude.{option_map}
use Rattle.std.proofs.lemmas.List.{length-append}
use Rattle.cap_data.specs.declared.data.ObjData.{ObjData}
use Rattle.cap_data.specs.declared.data.MorData.{MorData}
use Rattle.cap_history.specs.declared.reading.Finality.{Finality}
use Rattle.cap_history.specs.Reading.{finality}
use Rattle.cap_report.specs.declared.report.History.{History}
use Rattle.cap_session.proofs.Reporting.{one_history, one_plan, no_plan, with_histories, with_plans, plan_of}
use Rattle.cap_session.proofs.reports.report.Goals as goal
use Rattle.cap_session.proofs.reports.report.Goals.{in-Some-plan+in_ok-push, in_default-plan}

pub seats-preserved : goal.seats-preserved
seats-preserved g c =
    let hs = c.seats.histories.items in
    let rest = c.pop.new.self.items in
    let s = c.in-Some.seat in
    let popped : c.seats.seats.items ≡ rest ++ s ∷ [] = c.in-Some.ensures.items in
    let ledger : c.into_ledger-ledger.result.entries ≡ s.seen = ap (λ b. b.entries) (c.into_ledger-ledger.ensures ∙ ap (λ d. d.ledger) c.into_desk-in-Some.ensures) ∙ c.into_desk.ensures.seen in
    let seen : c.into_history.result.items ≡ s.seen = c.into_history.ensures.is ∙ ledger in
    let h : History ObjData MorData = record { cat = c.next_category-cat.result; entries = c.new-entries.result } in
    let one : History ObjData MorData = record { cat = record { 0 = length hs }; entries = s.seen } in
    let number : c.next_category-cat.result.0 ≡ length hs = omega (arith, c.next_category-cat.ensures, c.len.ensures, c.seats.histories.ok.0) in
    let entries : c.new-entries.result ≡ s.seen = c.new-entries.ensures ∙ seen in
    let same : h ≡ one = λ i. record { cat = record { 0 = number i }; entries = entries i } in
    let plan : plan_of s ≡ c.plan.result = sym (c.plan.ensures ∙ ap (λ es. option_map (λ (f : Finality). f.plan) (finality es)) ledger) in
    let pushed : c.push-in-Some.new.self.items ≡ hs ++ h ∷ [] = c.in_ok-push-2.ensures.items in (
      ap (λ l. with_histories l rest) (pushed ∙ ap (λ x. hs ++ x ∷ []) same) ∙ one_history hs rest s ∙ ap (with_histories hs) (sym popped) ∙ c.seats.invariant.0,
      elim c.match-plan.branch [
        | in-Some-plan+in_ok-push w ↦ ap (λ v. with_plans v.items rest) w.plans-is ∙ ap (λ l. with_plans l rest) w.in_ok-push.ensures.items ∙ one_plan c.seats.plans.items rest s w.in-Some-plan.plan (plan ∙ w.in-Some-plan.is) ∙ ap (with_plans c.seats.plans.items) (sym popped) ∙ c.seats.invariant.1
        | in_default-plan w ↦ ap (λ v. with_plans v.items rest) w.plans-is ∙ no_plan c.seats.plans.items rest s (plan ∙ w.in_default-plan.is) ∙ ap (with_plans c.seats.plans.items) (sym popped) ∙ c.seats.invariant.1
      ],
      omega (arith, ap length pushed, length-append hs (h ∷ []), ap length popped, length-append rest (s ∷ []), c.seats.invariant.2),
    )
