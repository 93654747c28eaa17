-- Matrices with units on a diagonal, and the places of the parts of a list after another.
use Rattle.std.proofs.Common.{◌≡◌, ℕ, ◌+◌, ◌-◌, ◌<◌, cond, eqb, List, ◌++◌, length, get_or, refl, sym, ap, ◌∙◌, arith}
use Rattle.std.proofs.lemmas.List.{get_or_append_left, get_or-append_right}
use Rattle.cap_laws.specs.Table.{TableData, Combination, table_data}

-- entry (i, j) of such a matrix
abbrev pub diagonal_piece : TableData → List ℕ → List ℕ → ℕ → ℕ → ℕ → ℕ → Combination
diagonal_piece T a b r c i j = cond (eqb (i + c) (j + r)) ((table_data T).identity (get_or a i 0)) ((table_data T).zero (get_or a i 0) (get_or b j 0))

pub own-equal : (a : List ℕ) (i j : ℕ) → i + 0 ≡ j + 0 → get_or a i 0 ≡ get_or a j 0
own-equal a i j e = let d : i ≡ j = omega (arith, e) in ap (λ k. get_or a k 0) d

pub first-equal : (a b : List ℕ) (i j : ℕ) → i < length a → i + 0 ≡ j + 0 → get_or a i 0 ≡ get_or (a ++ b) j 0
first-equal a b i j lt e = let d : i ≡ j = omega (arith, e) in sym (get_or_append_left a b 0 i lt) ∙ ap (λ k. get_or (a ++ b) k 0) d

pub second-equal : (a b : List ℕ) (i j : ℕ) → i + length a ≡ j + 0 → get_or b i 0 ≡ get_or (a ++ b) j 0
second-equal a b i j e =
    ap (λ k. get_or b k 0) (let d : i ≡ j - length a = omega (arith, e) in d) ∙ sym (get_or-append_right a b (length a) j 0 refl (omega (arith, e)))
