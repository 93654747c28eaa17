use Rattle.std.proofs.Common.{◌≡◌, take}
use Rattle.cap_faults.proofs.scripts.copied.Given as goal

abbrev pub invariant-values : goal.invariant-values
invariant-values l = l.copy.items ≡ take l.value-index l.values
