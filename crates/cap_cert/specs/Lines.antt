-- Lines of certificates, and when one is false (this project's own).
use Rattle.std.specs.Prelude.{◌≡◌, ℕ, ◌+◌, ◌<◌, ◌≤◌, List, count_by, slice_get, take, Some, is_some}
use Rattle.std.specs.List.{All}
use Rattle.cap_ops.specs.Derivations.{Means, means, IsWeight, LineHolds, IsPlan}
use Rattle.cap_ops.specs.declared.plans.RuleCost.{RuleCost}
use Rattle.cap_ops.specs.declared.plans.TheConstants.{OPERATIONS, NO_PLAN}
use Rattle.cap_cert.specs.declared.certs.Cert.{Cert}
use Rattle.cap_cert.specs.declared.certs.Verdict.{Verdict}
use Rattle.cap_cert.specs.declared.certs.Verdict.TheVariants.{Yes, No}

-- what a certificate speaks of: its registrations and kind, and these rules
abbrev pub means_of : Cert → List RuleCost → Means
means_of cert rules = means cert.regs rules cert.kind

-- the limits that a certificate keeps: registered weights from 1 to MOST_WEIGHT, bounds of at most NO_PLAN, and a first line of at most a million
pub record IsRead (cert : Cert) : Type 0 where
  pub registered : All IsWeight cert.regs.weights
  pub bounds : All (λ b. b ≤ NO_PLAN) cert.plan.bounds
  pub first_line : cert.first_line ≤ 1000000

-- the line of the operation at this place is not false
abbrev pub Holds : List RuleCost → Cert → ℕ → Type 0
Holds rules cert place = LineHolds (means_of cert rules) cert.plan place

-- no line of the certificate is false
pub record AllHold (rules : List RuleCost) (cert : Cert) : Type 0 where
  pub each : (place : ℕ) → place < OPERATIONS → Holds rules cert place

-- the line of the operation at this place is false, and no line before it in the certificate
pub record IsFirstFalse (rules : List RuleCost) (cert : Cert) (place : ℕ) : Type 0 where
  pub inside : place < OPERATIONS
  pub false_line : Holds rules cert place → ⊥
  pub before : (k : ℕ) → k < place → Holds rules cert k

-- the number of an operation's line: behind the first line come those of the registered operations
abbrev pub line_of : Cert → ℕ → ℕ
line_of cert place = cert.first_line + 1 + count_by is_some cert.regs.weights + place

-- this line is false, and no line before it in any certificate
pub record IsFirstLine (rules : List RuleCost) (certs : List Cert) (line : ℕ) : Type 0 where
  pub number : ℕ
  pub place : ℕ
  pub cert : Cert
  pub is : slice_get certs number ≡ Some cert
  pub line_is : line ≡ line_of cert place
  pub first : IsFirstFalse rules cert place
  pub earlier : All (AllHold rules) (take number certs)

-- Yes where no line is false, and No with the first false line
abbrev pub IsVerdict : List RuleCost → List Cert → Verdict → Type 0
IsVerdict rules certs Yes = All (AllHold rules) certs
IsVerdict rules certs (No line) = IsFirstLine rules certs line

-- a true certificate: its bounds and choices are those of the plan
pub record IsTrueCert (rules : List RuleCost) (cert : Cert) : Type 0 where
  pub plan : IsPlan (means_of cert rules) cert.plan

abbrev pub AreTrueWhereYes : List RuleCost → List Cert → Verdict → Type 0
AreTrueWhereYes rules certs Yes = All (IsTrueCert rules) certs
AreTrueWhereYes rules certs (No line) = Unit {0}
