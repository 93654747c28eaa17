-- Where a list first fails to be in a language (this project's own).
use Rattle.std.specs.Prelude.{ℕ, suc, List, ◌++◌, length, take, ◌≤◌, ◌<◌}

-- Some list of the language begins so.
abbrev pub GoesOn : {S A : Type 0} → (A → List S → Type 0) → List S → Type 0
GoesOn {S} {A} spells front = (more : List S) × (a : A) × spells a (front ++ more)

-- The first n items are the longest front with which a list of the language goes on. They aren't the whole of one.
pub record IsFault {S A : Type 0} (spells : A → List S → Type 0) (ts : List S) (n : ℕ) : Type 0 where
  pub within : n ≤ length ts
  pub before : GoesOn spells (take n ts)
  pub after : n < length ts → GoesOn spells (take (suc n) ts) → ⊥
  pub none : (a : A) → spells a ts → ⊥
