-- More entries at a desk, and none.
use Rattle.std.proofs.Common.{◌≡◌, ℕ, ◌+◌, List, ◌++◌, length, ap, arith, length-append}
use Rattle.cap_desk.specs.Hands.{Hand, with_more}

pub more-none : (hand : Hand) → hand ≡ with_more hand 0
more-none hand = λ i. record { place = hand.place; added = none i } where
  none : hand.added ≡ hand.added + 0
  none = omega arith

pub more-twice : {E : Type 0} (hand : Hand) (xs ys : List E) → with_more (with_more hand (length xs)) (length ys) ≡ with_more hand (length (xs ++ ys))
more-twice hand xs ys = ap (λ n. record { place = hand.place; added = n }) (omega (arith, length-append xs ys))
