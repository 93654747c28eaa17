-- What is said of a text of certificates, and when.
use Rattle.std.specs.Prelude.{◌≡◌, ℕ, List, ◌++◌, map, codes}
use Rattle.std.specs.List.{All}
use Rattle.std.specs.Fmt.{decimal}
use Rattle.cap_names.specs.Reasons.{reason_word}
use Rattle.cap_ops.specs.declared.plans.RuleCost.{RuleCost}
use Rattle.cap_terms.specs.declared.body.Rule.{Rule}
use Rattle.cap_rules.specs.Table.{rule_table}
use Rattle.cap_cert.specs.declared.certs.Cert.{Cert}
use Rattle.cap_cert.specs.Lines.{AllHold, IsFirstLine, IsTrueCert}
use Rattle.cap_cert.specs.Refusals.{AreCertsOf, IsFaultFor}
use Rattle.cap_judge.specs.declared.judgement.Judgement.{Judgement}
use Rattle.cap_judge.specs.declared.judgement.Judgement.TheVariants.{Accepted, Rejected, Refused}

-- the costs of the 59 rules
unfoldable pub the_costs : List RuleCost
the_costs = map (λ (r : Rule). r.cost) rule_table

-- the bytes are certificates, no line of them is false, and each is the plan of its registrations and kind
pub record AreAccepted (bytes : List ℕ) : Type 0 where
  pub certs : List Cert
  pub are : AreCertsOf bytes certs
  pub hold : All (AllHold the_costs) certs
  pub true_certs : All (IsTrueCert the_costs) certs

-- the bytes are certificates, and this is their first false line
pub record AreRejected (bytes : List ℕ) (line : ℕ) : Type 0 where
  pub certs : List Cert
  pub are : AreCertsOf bytes certs
  pub first : IsFirstLine the_costs certs line

-- what is said of the bytes is so; where they are refused, they are no certificates, and the first fault is told
abbrev pub IsJudgement : List ℕ → Judgement → Type 0
IsJudgement bytes Accepted = AreAccepted bytes
IsJudgement bytes (Rejected line) = AreRejected bytes line
IsJudgement bytes (Refused bad) = IsFaultFor bad.reason bytes bad

-- the line that says so
abbrev pub judgement_text : Judgement → List ℕ
judgement_text Accepted = codes "accepted\n"
judgement_text (Rejected line) = codes "rejected: line " ++ decimal line ++ codes "\n"
judgement_text (Refused bad) = codes "bad script: line " ++ decimal bad.line ++ codes " column " ++ decimal bad.column ++ codes " " ++ reason_word bad.reason ++ codes "\n"
