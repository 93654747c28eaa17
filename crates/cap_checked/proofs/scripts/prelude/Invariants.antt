use Rattle.std.proofs.Common.{◌≡◌, ◌++◌, length, reverse}
use Rattle.cap_checked.specs.Checked.{prelude}
use Rattle.cap_checked.proofs.scripts.prelude.Given as goal

-- what the parts taken gave stands behind what those left give
abbrev pub invariant-tokens : goal.invariant-tokens
invariant-tokens l = prelude l.fn.tokens.items ≡ prelude l.before.items ++ reverse l.parts.items

abbrev pub decreases-tokens : goal.decreases-tokens
decreases-tokens l = length l.before.items
