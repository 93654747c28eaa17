-- Readers and writers of the system as sources and sinks.
use Rattle.std.specs.Prelude.{ℕ, List, Option}

-- a reader or writer in use: the faults counted, and the bytes that it knows it has left or has taken, if it does
pub record Channel : Type 0 where
  pub faults : ℕ
  pub known : Option (List ℕ)
