-- Marks that are free, where a node has no fault.
use Rattle.std.proofs.Common.{◌≡◌, ℕ, ◌<◌, ◌≤◌, List, [], ◌∷◌, ◌++◌, refl, arith, Some, None, Bool, true, false}
use Rattle.std.specs.Prelude.{nat_le, nat_lt}
use Rattle.cap_names.specs.declared.reasons.Reason.{Reason}
use Rattle.cap_block_faults.specs.Marks.{Mark, told, ◌or_else◌}

-- no mark tells anything
abbrev pub AllFree : List Mark → Type 0
AllFree [] = Unit {0}
AllFree (m ∷ ms) = (m ≡ None) × AllFree ms

-- where a mark is free, its test fails
pub untold : (b : Bool) (r : Reason) → told b r ≡ None → b ≡ false
untold true r e = absurd (cc)
untold false r e = refl

pub free_front : (a b : List Mark) → AllFree (a ++ b) → AllFree a
free_front [] b h = tt
free_front (m ∷ a) b h = (h.0, free_front a b h.1)

pub free_rest : (a b : List Mark) → AllFree (a ++ b) → AllFree b
free_rest [] b h = h
free_rest (m ∷ a) b h = free_rest a b h.1

-- of two reasons neither is there
pub neither : (a b : Mark) → a or_else b ≡ None → (a ≡ None) × (b ≡ None)
neither None b e = (refl, e)
neither (Some r) b e = absurd (cc)

pub below : (n m : ℕ) (r : Reason) → told (nat_le n m) r ≡ None → m < n
below n m r e = let f = untold (nat_le n m) r e in grind (arith, f)

pub at_most : (n m : ℕ) (r : Reason) → told (nat_lt n m) r ≡ None → m ≤ n
at_most n m r e = let f = untold (nat_lt n m) r e in grind (arith, f)
