use Rattle.std.proofs.Common.{◌≡◌, map, take}
use Rattle.cap_checked.specs.Checked.{entry}
use Rattle.cap_checked.proofs.literals.row.Given as goal

abbrev pub invariant-tokens : goal.invariant-tokens
invariant-tokens l = l.entries.items ≡ map entry (take l.token-index l.tokens)
