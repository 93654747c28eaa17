-- Sums, multiples and differences, and what a direct sum tells of identities and zeros.
use Rattle.cap_laws.specs.Linear.{CategoryData, IsLinear, Arrow, Same}
use Rattle.cap_laws.specs.Universal.{negate, subtract}
use Rattle.cap_laws.proofs.Calculus.{same, back, added, zero-add, negate-arrow, add-negate}
use Rattle.cap_laws.proofs.Differences.{negate-of}

module _ {Obj Mor : Type 0} {C : CategoryData Obj Mor} (L : IsLinear C) where
  -- −(−f) = f
  pub negate-twice : {a b : Obj} {f : Mor} → Arrow C a b f → Same C a b (negate C (negate C f)) f
  negate-twice p = back L (negate-of L p (negate-arrow L p) (add-negate L p))

  -- f − (−g) = f + g
  pub subtract-negated : {a b : Obj} {f g : Mor} → Arrow C a b f → Arrow C a b g → Same C a b (subtract C f (negate C g)) (C.add f g)
  subtract-negated p q = added L (same L p) (negate-twice q)

  -- 0 − f = −f
  pub zero-subtract : {a b : Obj} {f : Mor} → Arrow C a b f → Same C a b (subtract C (C.zero a b) f) (negate C f)
  zero-subtract p = zero-add L (negate-arrow L p)
