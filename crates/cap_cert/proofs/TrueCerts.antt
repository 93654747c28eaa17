-- A certificate without a false line is true.
use Rattle.std.proofs.Common.{◌≡◌, List, length}
use Rattle.std.specs.List.{All}
use Rattle.cap_ops.specs.Derivations.{IsCost}
use Rattle.cap_ops.proofs.DerivationsLines.{plan_where_lines_hold}
use Rattle.cap_ops.specs.declared.plans.RuleCost.{RuleCost}
use Rattle.cap_ops.specs.declared.plans.TheConstants.{OPERATIONS}
use Rattle.cap_cert.specs.declared.certs.Cert.{Cert}
use Rattle.cap_cert.specs.Lines.{means_of, AllHold, IsTrueCert}

pub true_cert : (rules : List RuleCost) (cert : Cert) → All IsCost rules → length cert.plan.bounds ≡ OPERATIONS → length cert.plan.choices ≡ OPERATIONS → AllHold rules cert → IsTrueCert rules cert
true_cert rules cert costs bounds choices hold = record { plan = plan_where_lines_hold (means_of cert rules) cert.plan costs bounds choices hold.each }
