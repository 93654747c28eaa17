use Rattle.std.proofs.Common.{◌<◌, ℕ}
use Rattle.cap_cert.specs.Lines.{Holds}
use Rattle.cap_cert.proofs.checker.first_false.Given as goal

abbrev pub invariant-places : goal.invariant-places
invariant-places l = (k : ℕ) → k < l.place → Holds l.costs l.cert k
