-- The certificates of the categories of a prelude (this project's own form).
use Rattle.std.specs.Prelude.{◌≡◌, ℕ, List}
use Rattle.std.specs.List.{AllZip, flat_map}
use Rattle.cap_ops.specs.declared.plans.Plan.{Plan}
use Rattle.cap_ops.specs.Derivations.{IsPlan, means}
use Rattle.cap_cert.specs.Texts.{cert_text, spelled_plan}
use Rattle.cap_judge.specs.Judged.{the_costs}
use Rattle.cap_check.specs.Unbuilt.{CheckedPart}
use Rattle.cap_registered.specs.Registrations.{Registered, categories}

-- the text is the certificate of the category: that of the plan of its registrations and kind by the 59 rules
pub record IsCertificate (r : Registered) (text : List ℕ) : Type 0 where
  pub plan : Plan
  pub is_plan : IsPlan (means r.regs the_costs r.kind) plan
  pub text_is : text ≡ cert_text (spelled_plan r.name r.kind r.regs plan)

-- the text is a certificate for each of these categories, one after another
pub record AreCertificatesOf (categories : List Registered) (text : List ℕ) : Type 0 where
  pub texts : List (List ℕ)
  pub each : AllZip IsCertificate categories texts
  pub text_is : text ≡ flat_map (λ one. one) texts

-- the text is the certificates of all categories of a prelude, in order
abbrev pub AreCertificates : List CheckedPart → List ℕ → Type 0
AreCertificates parts text = AreCertificatesOf (categories parts) text
