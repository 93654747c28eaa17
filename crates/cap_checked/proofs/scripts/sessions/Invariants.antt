use Rattle.std.proofs.Common.{◌≡◌, map}
use Rattle.cap_checked.specs.Checked.{session}
use Rattle.cap_checked.proofs.scripts.sessions.Given as goal

abbrev pub invariant-tokens : goal.invariant-tokens
invariant-tokens l = l.sessions.items ≡ map (session l.parts) l.yielded
