-- A sink that never fails, and keeps what it has space for.
use Rattle.std.specs.Prelude.{ℕ, ◌+◌, ◌-◌, Bool, true, false, ◌||◌, nat_lt, List, ◌++◌, length, take, Option, Some, None}

-- how many bytes are kept
abbrev pub sure_space : ℕ
sure_space = 16777216

-- the bytes kept, and whether some were dropped
pub record Spool : Type 0 where
  pub kept : List ℕ
  pub lost : Bool

-- the bytes written, as long as none was dropped
abbrev pub told_by : Bool → List ℕ → Option (List ℕ)
told_by true kept = None
told_by false kept = Some kept

-- the sink after taking all these bytes: it keeps those for which it has room
abbrev pub spooled : Spool → List ℕ → Spool
spooled s bytes = record { kept = s.kept ++ take (sure_space - length s.kept) bytes; lost = s.lost || nat_lt sure_space (length s.kept + length bytes) }
