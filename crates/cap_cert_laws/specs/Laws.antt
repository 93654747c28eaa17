-- What is written as certificates is read as these certificates, and what is written for plans is accepted.
use Rattle.std.specs.Prelude.{◌≡◌, ℕ, ◌≤◌, List, [], ◌∷◌, length, take, Some, slice_get}
use Rattle.std.specs.List.{All}
use Rattle.cap_names.specs.Places.{line_at}
use Rattle.cap_cert.specs.declared.certs.Cert.{Cert}
use Rattle.cap_cert.specs.Refusals.{AreCertsOf}
use Rattle.cap_judge.specs.Judged.{AreAccepted, IsJudgement}
use Rattle.cap_judge.specs.declared.judgement.Judgement.{Judgement}
use Rattle.cap_judge.specs.declared.judgement.Judgement.TheVariants.{Accepted}
use Rattle.cap_cert_laws.specs.Written.{Subject, written, all_written, cert_at, certs_from, IsWritable, AreFew, IsPlanned}

-- a written certificate is a text of this one certificate, which begins at line 1
abbrev pub WrittenCertificateIsRead : Type 0
WrittenCertificateIsRead = (s : Subject) → IsWritable s → AreCertsOf (written s) (cert_at 1 s ∷ [])

-- 1 to 16 written certificates, one behind the other, are a text of these certificates
abbrev pub WrittenCertificatesAreRead : Type 0
WrittenCertificatesAreRead = (ss : List Subject) → AreFew ss → All IsWritable ss → AreCertsOf (all_written ss) (certs_from 1 ss)

-- the number of each certificate's first line is that of the line where its text begins
abbrev pub FirstLinesStand : Type 0
FirstLinesStand = (ss : List Subject) (k : ℕ) (cert : Cert) → All IsWritable ss → slice_get (certs_from 1 ss) k ≡ Some cert → cert.first_line ≡ line_at (all_written ss) (length (all_written (take k ss)))

-- they have no more bytes than a command reads
abbrev pub WrittenTextIsShort : Type 0
WrittenTextIsShort = (ss : List Subject) → AreFew ss → All IsWritable ss → length (all_written ss) ≤ 1048576

-- the plan of a category can be written
abbrev pub PlansAreWritable : Type 0
PlansAreWritable = (s : Subject) → IsPlanned s → IsWritable s

-- what is written for the plans of 1 to 16 categories is accepted
abbrev pub PlansAreAccepted : Type 0
PlansAreAccepted = (ss : List Subject) → AreFew ss → All IsPlanned ss → AreAccepted (all_written ss)

-- of a text that is accepted, nothing else can be said
abbrev pub AcceptedIsSaid : Type 0
AcceptedIsSaid = (bytes : List ℕ) (judgement : Judgement) → AreAccepted bytes → IsJudgement bytes judgement → judgement ≡ Accepted
