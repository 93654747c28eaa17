-- How many variables a body can name.
use Rattle.std.specs.Prelude.{ℕ}

-- the values of a `Var`
unfoldable pub nameable : ℕ
nameable = 256
