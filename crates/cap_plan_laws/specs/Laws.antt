-- What is written as the certificates of a checked script is accepted (this project's own).
use Rattle.std.specs.Prelude.{◌≡◌, ℕ, ◌≤◌, List, length}
use Rattle.std.specs.List.{All}
use Rattle.cap_ops.specs.declared.plans.Plan.{Plan}
use Rattle.cap_checked.specs.declared.tree.Checked.{Checked}
use Rattle.cap_check.specs.Forms.{IsOfSound}
use Rattle.cap_registered.specs.Registrations.{Registered, categories}
use Rattle.cap_registered.specs.Certificates.{AreCertificates}
use Rattle.cap_cert_laws.specs.Written.{Subject, IsCategory}
use Rattle.cap_judge.specs.Judged.{AreAccepted, IsJudgement}
use Rattle.cap_judge.specs.declared.judgement.Judgement.{Judgement}
use Rattle.cap_judge.specs.declared.judgement.Judgement.TheVariants.{Accepted}

-- what the certificate of a category with a plan is written of
abbrev pub subject : Registered → Plan → Subject
subject r plan = record { name = r.name; kind = r.kind; regs = r.regs; plan = plan }

-- the category can stand in a certificate: its name is one of certificates, and it has a weight in range, or none, for each operation
abbrev pub Stands : Registered → Type 0
Stands r = (plan : Plan) → IsCategory (subject r plan)

-- a checked script has at most 16 categories
abbrev pub CategoriesAreFew : Type 0
CategoriesAreFew = (form : Checked) → IsOfSound form → length (categories form.prelude) ≤ 16

-- each of them can stand in a certificate
abbrev pub CategoriesStand : Type 0
CategoriesStand = (form : Checked) → IsOfSound form → All Stands (categories form.prelude)

-- where there is a category, the certificates of all of them are accepted
abbrev pub CertificatesAreAccepted : Type 0
CertificatesAreAccepted = (form : Checked) (text : List ℕ) → IsOfSound form → 1 ≤ length (categories form.prelude) → AreCertificates form.prelude text → AreAccepted text

-- and nothing else can be said of them
abbrev pub NothingElseIsSaid : Type 0
NothingElseIsSaid = (form : Checked) (text : List ℕ) (judgement : Judgement) → IsOfSound form → 1 ≤ length (categories form.prelude) → AreCertificates form.prelude text → IsJudgement text judgement → judgement ≡ Accepted

-- they have no more bytes than a command reads
abbrev pub CertificatesAreShort : Type 0
CertificatesAreShort = (form : Checked) (text : List ℕ) → IsOfSound form → AreCertificates form.prelude text → length text ≤ 1048576
