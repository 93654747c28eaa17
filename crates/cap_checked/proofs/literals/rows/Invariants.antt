use Rattle.std.proofs.Common.{◌≡◌, map, take}
use Rattle.cap_checked.specs.Checked.{entry}
use Rattle.cap_checked.proofs.literals.rows.Given as goal

abbrev pub invariant-tokens : goal.invariant-tokens
invariant-tokens l = l.rows.items ≡ map (map entry) (take l.token-index l.tokens)
