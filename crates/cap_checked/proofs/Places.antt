-- The place of a name among names.
use Rattle.std.proofs.Common.{◌≡◌, ℕ, ◌+◌, ◌≤◌, List, [], ◌∷◌, length, Bool, true, false, cond, Some, None, nat_lt, position, unwrap_or, sym, ap, arith}
use Rattle.std.specs.List.{position_or_len, prefix_len}

given : (b : Bool) (n i : ℕ) → cond b (Some n) None ≡ Some i → n ≡ i
given true n i e = ap (λ o. unwrap_or o 0) e
given false n i e = absurd (grind (arith, e))

-- where there is one, it is the place
pub place_some : {A : Type 0} (p : A → Bool) (xs : List A) (i : ℕ) → position p xs ≡ Some i → i ≡ position_or_len p xs
place_some p xs i e = sym (given (nat_lt (position_or_len p xs) (length xs)) (position_or_len p xs) i e)

missing : (n m : ℕ) → n ≤ m → cond (nat_lt n m) (Some n) None ≡ None → m ≡ n
missing n m h e = grind (arith, h, e)

at_most : {A : Type 0} (q : A → Bool) (xs : List A) → prefix_len q xs ≤ length xs
at_most q [] = omega arith
at_most q (x ∷ xs) = let rest = at_most q xs in elim (q x) as (λ b. cond b (1 + prefix_len q xs) 0 ≤ length (x ∷ xs)) [ true ↦ omega arith | false ↦ omega arith ]

pub place_none : {A : Type 0} (p : A → Bool) (xs : List A) → position p xs ≡ None → length xs ≡ position_or_len p xs
place_none p xs e = missing (position_or_len p xs) (length xs) (at_most _ xs) e
