use Rattle.std.proofs.Common.{◌≡◌, map, take}
use Rattle.cap_checked.specs.Checked.{small}
use Rattle.cap_checked.proofs.numbers.dimensions.Given as goal

abbrev pub invariant-tokens : goal.invariant-tokens
invariant-tokens l = l.dims.items ≡ map small (take l.token-index l.tokens)
