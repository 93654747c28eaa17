use Rattle.std.proofs.Common.{◌≡◌, map, take}
use Rattle.cap_checked.specs.Checked.{integer}
use Rattle.cap_checked.proofs.literals.integers.Given as goal

abbrev pub invariant-tokens : goal.invariant-tokens
invariant-tokens l = l.integers.items ≡ map integer (take l.token-index l.tokens)
