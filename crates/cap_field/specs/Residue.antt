-- The primes of the table, and the residues of the integers modulo one of them.
use Rattle.std.specs.Prelude.{◌≡◌, ℕ, ◌<◌, ◌==◌, Bool, List, [], ◌∷◌, ℤ, pos, ◌+ℤ◌, ◌*ℤ◌}
use Rattle.std.specs.List.{list_any}

-- the primes below 100, and 101 and 251
abbrev pub primes : List ℕ
primes =
    2 ∷ 3 ∷ 5 ∷ 7 ∷ 11 ∷ 13 ∷ 17 ∷ 19 ∷ 23 ∷ 29 ∷ 31 ∷ 37 ∷ 41 ∷ 43 ∷ 47 ∷ 53 ∷ 59 ∷ 61 ∷ 67 ∷ 71 ∷ 73 ∷ 79 ∷ 83 ∷
    89 ∷ 97 ∷ 101 ∷ 251 ∷ []

-- whether p is a prime of the table
abbrev pub is_tabled : ℕ → Bool
is_tabled p = list_any (λ q. q == p) primes

-- r is the residue of the integer n modulo p: it is below p, and differs from n by a multiple of p
pub record IsResidueOf (p : ℕ) (n : ℤ) (r : ℕ) : Type 0 where
  pub below : r < p
  pub factor : ℤ
  pub differs : n ≡ pos r +ℤ factor *ℤ pos p
