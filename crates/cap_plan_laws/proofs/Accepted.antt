-- The certificates of a checked script are accepted.
use Rattle.std.proofs.Common.{◌≡◌, ℕ, ◌≤◌, suc, List, [], ◌∷◌, ◌++◌, length, refl, sym, ap, ◌∙◌, subst, arith}
use Rattle.std.specs.List.{All, AllZip, flat_map}
use Rattle.std.proofs.lemmas.List.Elements.{All-nil, All-cons, All-head, All-tail, All-weaker}
use Rattle.cap_registered.specs.Registrations.{Registered, categories}
use Rattle.cap_registered.specs.Certificates.{IsCertificate}
use Rattle.cap_cert_laws.specs.Written.{Subject, all_written, IsPlanned, IsWritable}
use Rattle.cap_cert_laws.proofs.Lengths.{certificates_short}
use Rattle.cap_cert_laws.proofs.Planned.{plan_writable, plans_accepted}
use Rattle.cap_cert_laws.proofs.Said.{accepted_said}
use Rattle.cap_judge.specs.Judged.{AreAccepted}
use Rattle.cap_plan_laws.specs.Laws.{subject, Stands, CertificatesAreAccepted, NothingElseIsSaid, CertificatesAreShort}
use Rattle.cap_plan_laws.proofs.Stand.{categories_few, categories_stand}

-- plans for these categories, of which these texts are written
record ArePlanned (rs : List Registered) (texts : List (List ℕ)) : Type 0 where
  subjects : List Subject
  each : All IsPlanned subjects
  many : length subjects ≡ length rs
  text : flat_map (λ one. one) texts ≡ all_written subjects

planned : (rs : List Registered) (texts : List (List ℕ)) → AllZip IsCertificate rs texts → All Stands rs → ArePlanned rs texts
planned [] [] h stand = record { subjects = []; each = All-nil IsPlanned; many = refl; text = refl }
planned [] (one ∷ texts) h stand = absurd h
planned (r ∷ rs) [] h stand = absurd h
planned (r ∷ rs) (one ∷ texts) h stand =
    let later = planned rs texts h.1 (All-tail Stands r rs stand) in
    let own : Subject = subject r h.0.plan in
    record {
      subjects = own ∷ later.subjects;
      each = All-cons IsPlanned own later.subjects (record { category = All-head Stands r rs stand h.0.plan; plan = h.0.is_plan }) later.each;
      many = ap suc later.many;
      text = (λ i. h.0.text_is i ++ later.text i);
    }

pub certificates_accepted : CertificatesAreAccepted
certificates_accepted form text is some are =
    let plans = planned (categories form.prelude) are.texts are.each (categories_stand form is) in
    let few = categories_few form is in
    let many = plans.many in
    subst AreAccepted (sym (are.text_is ∙ plans.text))
    (plans_accepted plans.subjects (record { some = omega (arith, some, many); few = omega (arith, few, many) }) plans.each)

pub accepted_alone : NothingElseIsSaid
accepted_alone form text judgement is some are said = accepted_said text judgement (certificates_accepted form text is some are) said

short : (ss : List Subject) → length ss ≤ 16 → All IsPlanned ss → length (all_written ss) ≤ 1048576
short [] few are = omega arith
short (s ∷ ss) few are = certificates_short (s ∷ ss) (record { some = omega arith; few = few }) (All-weaker IsPlanned IsWritable plan_writable (s ∷ ss) are)

pub certificates_few_bytes : CertificatesAreShort
certificates_few_bytes form text is are =
    let plans = planned (categories form.prelude) are.texts are.each (categories_stand form is) in
    let few = categories_few form is in
    let many = plans.many in
    subst (λ (t : List ℕ). length t ≤ 1048576) (sym (are.text_is ∙ plans.text)) (short plans.subjects (omega (arith, few, many)) plans.each)
