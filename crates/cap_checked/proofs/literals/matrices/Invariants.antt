use Rattle.std.proofs.Common.{◌≡◌, map, take}
use Rattle.cap_checked.specs.Checked.{matrix}
use Rattle.cap_checked.proofs.literals.matrices.Given as goal

abbrev pub invariant-tokens : goal.invariant-tokens
invariant-tokens l = l.matrices.items ≡ map matrix (take l.token-index l.tokens)
