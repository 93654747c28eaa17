-- The certificates of a prelude are one text.
use Rattle.std.proofs.Common.{◌≡◌, ℕ, List, [], ◌∷◌, refl, sym, ap, ◌∙◌}
use Rattle.std.specs.List.{AllZip, flat_map}
use Rattle.cap_ops.specs.Derivations.{means}
use Rattle.cap_ops.proofs.DerivationsPlans.{same_plan}
use Rattle.cap_cert.specs.Texts.{cert_text, spelled_plan}
use Rattle.cap_judge.specs.Judged.{the_costs}
use Rattle.cap_registered.specs.Registrations.{Registered, categories}
use Rattle.cap_registered.specs.Certificates.{IsCertificate, AreCertificatesOf}
use Rattle.cap_said_laws.specs.Laws.{OneCertificates}

-- a category has one certificate
one_certificate : (r : Registered) (text other : List ℕ) → IsCertificate r text → IsCertificate r other → text ≡ other
one_certificate r text other h k = h.text_is ∙ ap (λ plan. cert_text (spelled_plan r.name r.kind r.regs plan)) (same_plan (means r.regs the_costs r.kind) h.plan k.plan h.is_plan k.is_plan) ∙ sym k.text_is

one_each : (rs : List Registered) (texts others : List (List ℕ)) → AllZip IsCertificate rs texts → AllZip IsCertificate rs others → texts ≡ others
one_each [] [] [] h k = refl
one_each [] (t ∷ ts) others h k = absurd h
one_each [] [] (u ∷ us) h k = absurd k
one_each (r ∷ rs) [] others h k = absurd h
one_each (r ∷ rs) (t ∷ ts) [] h k = absurd k
one_each (r ∷ rs) (t ∷ ts) (u ∷ us) h k = (λ i. one_certificate r t u h.0 k.0 i ∷ one_each rs ts us h.1 k.1 i)

one_text : (rs : List Registered) (text other : List ℕ) → AreCertificatesOf rs text → AreCertificatesOf rs other → text ≡ other
one_text rs text other h k = h.text_is ∙ ap (flat_map (λ one. one)) (one_each rs h.texts k.texts h.each k.each) ∙ sym k.text_is

pub one_certificates : OneCertificates
one_certificates parts text other h k = one_text (categories parts) text other h k
