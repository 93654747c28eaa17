-- What `cap plan` says of an input is one thing.
use Rattle.std.proofs.Common.{◌≡◌, ℕ, List, refl, sym, ◌∙◌, subst}
use Rattle.cap_data.specs.declared.data.ObjData.{ObjData}
use Rattle.cap_data.specs.declared.data.MorData.{MorData}
use Rattle.cap_report.specs.declared.report.Report.{Report}
use Rattle.cap_registered.specs.Certificates.{AreCertificates}
use Rattle.cap_top.specs.declared.judging.Said.TheVariants.{Answered, Rejected, Refused}
use Rattle.cap_top.specs.Judged.{IsPlanned, IsRefusedText, IsPlanJudged}
use Rattle.cap_said_laws.specs.Laws.{SaysOneThing}
use Rattle.cap_said_laws.proofs.Certificates.{one_certificates}
use Rattle.cap_said_laws.proofs.Faults.{one_form, built_or_reason}
use Rattle.cap_said_laws.proofs.Refusals.{one_refusal, one_silence}

planned_or_refused : (bytes text words : List ℕ) (r s : Report ObjData MorData) → IsPlanned bytes text r → IsRefusedText bytes words s → ⊥
planned_or_refused bytes text words r s h k = built_or_reason bytes h.form k.bad h.sound h.built k.why

one_plan_text : (bytes text words : List ℕ) (r s : Report ObjData MorData) → IsPlanned bytes text r → IsPlanned bytes words s → text ≡ words
one_plan_text bytes text words r s h k = one_certificates k.form.prelude text words (subst (λ form. AreCertificates form.prelude text) (one_form bytes h.form k.form h.sound k.sound) h.certified.certificates) k.certified.certificates

pub plan_says_one_thing : SaysOneThing IsPlanJudged
plan_says_one_thing bytes Answered Answered text words r s h k = (refl, one_plan_text bytes text words r s h k, h.nothing_ran ∙ sym k.nothing_ran)
plan_says_one_thing bytes Answered Refused text words r s h k = absurd (planned_or_refused bytes text words r s h k)
plan_says_one_thing bytes Answered Rejected text words r s h k = absurd k
plan_says_one_thing bytes Refused Answered text words r s h k = absurd (planned_or_refused bytes words text s r k h)
plan_says_one_thing bytes Refused Refused text words r s h k = (refl, one_refusal bytes text words r s h k, one_silence bytes text words r s h k)
plan_says_one_thing bytes Refused Rejected text words r s h k = absurd k
plan_says_one_thing bytes Rejected other text words r s h k = absurd h
