-- Of an accepted text nothing else can be said.
use Rattle.std.proofs.Common.{◌≡◌, ℕ, ◌<◌, List, length, refl, subst}
use Rattle.std.specs.List.{All}
use Rattle.std.proofs.lemmas.Option.{get_or_from_slice_get, slice_get_within}
use Rattle.cap_cert.specs.declared.certs.Cert.{Cert}
use Rattle.cap_cert.specs.Lines.{AllHold, IsFirstLine}
use Rattle.cap_cert.proofs.Refused.{one_list, refused_none}
use Rattle.cap_ops.specs.declared.plans.RuleCost.{RuleCost}
use Rattle.cap_judge.specs.Judged.{the_costs, AreAccepted, IsJudgement}
use Rattle.cap_judge.specs.declared.judgement.Judgement.{Judgement}
use Rattle.cap_judge.specs.declared.judgement.Judgement.TheVariants.{Accepted, Rejected, Refused}

-- where each certificate holds, no line is the first false one
none_false : (rules : List RuleCost) (certs : List Cert) (line : ℕ) → All (AllHold rules) certs → IsFirstLine rules certs line → ⊥
none_false rules certs line hold first =
    let within : first.number < length certs = slice_get_within certs first.number first.cert first.is in
    let it : AllHold rules first.cert = subst (AllHold rules) (get_or_from_slice_get certs first.number first.cert first.cert first.is) (hold first.number first.cert within) in
    first.first.false_line (it.each first.place first.first.inside)

pub accepted_said : (bytes : List ℕ) (judgement : Judgement) → AreAccepted bytes → IsJudgement bytes judgement → judgement ≡ Accepted
accepted_said bytes Accepted are is = refl
accepted_said bytes (Rejected line) are is = absurd (none_false the_costs is.certs line (subst (All (AllHold the_costs)) (one_list bytes are.certs is.certs are.are is.are) are.hold) is.first)
accepted_said bytes (Refused bad) are is = absurd (refused_none bad.reason bytes bad are.certs is are.are)
