-- Whether an option is something or nothing.
use Rattle.std.proofs.Common.{◌≡◌, Bool, true, false}

pub nothing-there : {b : Bool} → b ≡ false → b ≡ true → ⊥
nothing-there h k = cc (h, k)
