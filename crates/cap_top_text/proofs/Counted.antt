-- Those of a list that pass are no more than its elements.
use Rattle.std.proofs.Common.{◌≡◌, ℕ, ◌+◌, ◌≤◌, Bool, true, false, List, [], ◌∷◌, length, Some, cond, arith}
use Rattle.std.specs.List.{filter, position}
use Rattle.std.proofs.lemmas.List.Sums.{prefix_len-le-length}
use Rattle.std.specs.Prelude.{not}
use Rattle.cap_checked.proofs.Places.{place_some}

kept_or_not : {X : Type 0} (b : Bool) (x : X) (rest : List X) (n : ℕ) → length rest ≤ n → length (cond b (x ∷ rest) rest) ≤ n + 1
kept_or_not true x rest n h = omega arith
kept_or_not false x rest n h = omega arith

pub count_within : {X : Type 0} (q : X → Bool) (xs : List X) → length (filter q xs) ≤ length xs
count_within q [] = omega arith
count_within q (x ∷ xs) =
    let more = kept_or_not (q x) x (filter q xs) (length xs) (count_within q xs) in
    omega (arith, more)

pub place_within : {X : Type 0} (p q : X → Bool) (xs : List X) (i : ℕ) → position p (filter q xs) ≡ Some i → i ≤ length xs
place_within p q xs i e =
    omega (arith, place_some p (filter q xs) i e, prefix_len-le-length (λ x. not (p x)) (filter q xs), count_within q xs)
