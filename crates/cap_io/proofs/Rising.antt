-- Lemmas on counts of faults.
use Rattle.std.proofs.Common.{ℕ, ◌≤◌, arith}
use Rattle.cap_io.specs.Faults.{HasRisen}

-- a count that has risen later has risen since before
pub HasRisen-since : (a b c : ℕ) → a ≤ b → HasRisen b c → HasRisen a c
HasRisen-since a b c below risen = grind arith
