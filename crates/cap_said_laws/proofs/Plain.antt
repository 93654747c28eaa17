-- What `cap plain` says of an input is one thing.
use Rattle.std.proofs.Common.{◌≡◌, ℕ, List, refl, sym, ap, ◌∙◌, subst}
use Rattle.cap_data.specs.declared.data.ObjData.{ObjData}
use Rattle.cap_data.specs.declared.data.MorData.{MorData}
use Rattle.cap_report.specs.declared.report.Report.{Report}
use Rattle.cap_checked.specs.declared.tree.Checked.{Checked}
use Rattle.cap_fitting.specs.Forms.{FormFits}
use Rattle.cap_fitting.proofs.Fit.{forms_fit}
use Rattle.cap_session.specs.Reports.{IsPlainReport}
use Rattle.cap_top.specs.declared.judging.Said.TheVariants.{Answered, Rejected, Refused}
use Rattle.cap_top.specs.Refusals.{IsSoundText}
use Rattle.cap_top.specs.Judged.{IsAnsweredPlain, IsRefusedText}
use Rattle.cap_top_text.specs.Text.{report_text}
use Rattle.cap_one_report.specs.Sizes.{without_sizes, HasNoSizes}
use Rattle.cap_one_report.proofs.Reports.{one-report}
use Rattle.cap_one_report.proofs.Whole.{one-whole-report}
use Rattle.cap_said_laws.specs.Laws.{PlainSaysOneThing}
use Rattle.cap_said_laws.proofs.Faults.{one_form, built_or_reason}
use Rattle.cap_said_laws.proofs.Refusals.{one_refusal, one_silence}

-- a script that is answered is not refused
answered_or_refused : (bytes text words : List ℕ) (r s : Report ObjData MorData) → IsAnsweredPlain bytes text r → IsRefusedText bytes words s → ⊥
answered_or_refused bytes text words r s h k = built_or_reason bytes h.form k.bad h.sound h.built k.why

-- the form of a text without faults fits
sound_fits : (bytes : List ℕ) (form : Checked) → IsSoundText bytes form → FormFits form
sound_fits bytes form h = forms_fit form (record { script = h.script; given = (bytes, h.parsed); sound = h.sound; formed = h.formed })

-- two answers are of one script: what any two reports of a script have in common, those of two answers have in common
pub alike_answers : (bytes text words : List ℕ) (r s : Report ObjData MorData) (Alike : Report ObjData MorData → Report ObjData MorData → Type 0)
    → ((form : Checked) → FormFits form → IsPlainReport form r → IsPlainReport form s → Alike r s) → IsAnsweredPlain bytes text r → IsAnsweredPlain bytes words s → Alike r s
alike_answers bytes text words r s Alike alike h k =
    alike k.form (sound_fits bytes k.form k.sound) (subst (λ form. IsPlainReport form r) (one_form bytes h.form k.form h.sound k.sound) h.ran) k.ran

-- two answers report one thing
one_answer : (bytes text words : List ℕ) (r s : Report ObjData MorData) → IsAnsweredPlain bytes text r → IsAnsweredPlain bytes words s → without_sizes r ≡ without_sizes s
one_answer bytes text words r s h k = alike_answers bytes text words r s (λ r s. without_sizes r ≡ without_sizes s) (λ form fits p q. one-report form fits r s p.turn q.turn) h k

whole_answer : (bytes text words : List ℕ) (r s : Report ObjData MorData) → IsAnsweredPlain bytes text r → IsAnsweredPlain bytes words s → HasNoSizes r → HasNoSizes s → (text ≡ words) × (r ≡ s)
whole_answer bytes text words r s h k none other =
    let same : r ≡ s = alike_answers bytes text words r s (λ r s. r ≡ s) (λ form fits p q. one-whole-report form fits r s p.turn q.turn none other) h k in
    let form : h.form ≡ k.form = one_form bytes h.form k.form h.sound k.sound in
    (h.text_is ∙ (λ i. report_text (form i) (same i)) ∙ sym k.text_is, same)

pub plain_says_one_thing : PlainSaysOneThing
plain_says_one_thing bytes Answered Answered text words r s h k = (refl, one_answer bytes text words r s h k, whole_answer bytes text words r s h k)
plain_says_one_thing bytes Answered Refused text words r s h k = absurd (answered_or_refused bytes text words r s h k)
plain_says_one_thing bytes Answered Rejected text words r s h k = absurd k
plain_says_one_thing bytes Refused Answered text words r s h k = absurd (answered_or_refused bytes words text s r k h)
plain_says_one_thing bytes Refused Refused text words r s h k = (
  refl,
  ap without_sizes (one_silence bytes text words r s h k),
  λ none other. (one_refusal bytes text words r s h k, one_silence bytes text words r s h k),
)
plain_says_one_thing bytes Refused Rejected text words r s h k = absurd k
plain_says_one_thing bytes Rejected other text words r s h k = absurd h
