-- A bound times a count.
use Rattle.std.proofs.Common.{ℕ, ◌*◌, ◌≤◌}
use Rattle.std.proofs.lemmas.Nat.{mul-le}

pub product_within : (bound count m n : ℕ) → bound ≤ m → count ≤ n → bound * count ≤ m * n
product_within bound count m n h k = mul-le bound count m n h k
