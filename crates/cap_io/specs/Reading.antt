-- What a source tells of the bytes that it has left, and what reading it to its end has taken.
use Rattle.std.specs.Prelude.{◌≡◌, ℕ, ◌+◌, ◌<◌, ◌≤◌, List, length, is_some, Option, Result, Ok, Err, Vec}
use Rattle.std.specs.Io.KnownBytes.{Consumes, IsAtEnd}
use Rattle.std.specs.declared.alloc.Global.{Global}
use Rattle.cap_io.specs.declared.errors.ReadEnd.{ReadEnd}
use Rattle.cap_io.specs.declared.errors.ReadEnd.TheVariants.{Fault, TooLong, NoMemory}

-- the bytes are told after a call exactly where they were told before it
abbrev pub TellsAlike : Option (List ℕ) → Option (List ℕ) → Type 0
TellsAlike before after = is_some after ≡ is_some before

-- some bytes were taken, and they are as P says
pub record ConsumesSome (before after : Option (List ℕ)) (P : List ℕ → Type 0) : Type 0 where
  pub bytes : List ℕ
  pub taken : Consumes before after bytes
  pub are : P bytes

-- all bytes were taken, up to the end, and they are at most the limit
pub record ConsumesAll (limit : ℕ) (before after : Option (List ℕ)) (bytes : List ℕ) : Type 0 where
  pub taken : Consumes before after bytes
  pub ended : IsAtEnd after
  pub within : length bytes ≤ limit

-- the most bytes that a reading asks of one call of a source
abbrev pub piece_size : ℕ
piece_size = 4096

-- more than the limit, and at most one piece more
pub record IsPastLimit (limit : ℕ) (bytes : List ℕ) : Type 0 where
  pub more : limit < length bytes
  pub most : length bytes ≤ limit + piece_size

-- the answer of a reading: all the bytes; or, with some taken, a fault at no more than the limit, more than the limit, or want of memory at no more than it
abbrev pub IsReadAll : ℕ → Option (List ℕ) → Option (List ℕ) → Result (Vec ℕ Global) ReadEnd → Type 0
IsReadAll limit before after (Ok v) = ConsumesAll limit before after v.items
IsReadAll limit before after (Err Fault) = ConsumesSome before after (λ bytes. length bytes ≤ limit)
IsReadAll limit before after (Err TooLong) = ConsumesSome before after (IsPastLimit limit)
IsReadAll limit before after (Err NoMemory) = ConsumesSome before after (λ bytes. length bytes ≤ limit)
