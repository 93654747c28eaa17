-- The sizes that the calls of a homomorphism structure meet.
use Rattle.std.specs.Prelude.{ℕ, List}
use Rattle.cap_laws.specs.Answers.{Size}

-- which sizes each call meets: for the number of a generator, a morphism, two objects and a row, and two factors; nothing is claimed yet
pub record HomMeets (Obj Mor : Type 0) : Type 1 where
  pub generator : ℕ → Size → Type 0
  pub nu : Mor → Size → Type 0
  pub back : Obj → Obj → List ℕ → Size → Type 0
  pub h : Mor → Mor → Size → Type 0
