-- The definitions at a matrix of rank one over the field of 5 elements.
use Rattle.std.proofs.Common.{◌≡◌, ℕ, zero, suc, ◌<◌, [], ◌∷◌, refl, arith}
use Rattle.cap_matrix.specs.Grid.{Grid, entry}
use Rattle.cap_matrix.specs.Reduced.{IsReduced, IsNullRow, IsRedundant, IsSolution, IsObstruction}

abbrev z : Grid
z = record { prime = 5; row_count = 2; column_count = 2; entries = (1 ∷ 2 ∷ []) ∷ (2 ∷ 4 ∷ []) ∷ [] }

both : (P : ℕ → Type 0) → P 0 → P 1 → (i : ℕ) → i < 2 → P i
both P a b zero lt = a
both P a b (suc zero) lt = b
both P a b (suc (suc i)) lt = absurd (omega arith)

alone : (P : ℕ → Type 0) → P 0 → (i : ℕ) → i < 1 → P i
alone P a zero lt = a
alone P a (suc i) lt = absurd (omega arith)

-- its reduced form has the one row (1, 2)
form_is_reduced : IsReduced (record { prime = 5; row_count = 1; column_count = 2; entries = (1 ∷ 2 ∷ []) ∷ [] })
form_is_reduced = record {
  shaped = record { row_many = refl; column_many = alone _ refl };
  lead = λ i. 0;
  by_leads = record {
    residues = λ i j lt below. alone (λ a. entry ((1 ∷ 2 ∷ []) ∷ []) a j < 5) (both (λ b. entry ((1 ∷ 2 ∷ []) ∷ []) 0 b < 5) (omega arith) (omega arith) j below) i lt;
    inside = λ i lt. omega arith;
    rising = λ i k less lt. absurd (omega arith);
    before = λ i j lt below. absurd (omega arith);
    one = alone _ refl;
    clear = λ i k lt below ne. absurd (ne (omega arith));
  };
}

-- (1, 2) is a null row
null_row : IsNullRow z (1 ∷ 2 ∷ [])
null_row = record { long = refl; residues = both _ (omega arith) (omega arith); null = refl }

-- the second row is twice the first, and the first is no combination of none
second_is_redundant : IsRedundant z 1
second_is_redundant = (λ i. 2, both _ refl refl)

first_is_not : IsRedundant z 0 → ⊥
first_is_not s = let below : 0 < 2 = omega arith in let e : 0 ≡ 1 = s.1 0 below in omega (arith, e)

-- (2, 4) is twice the first row
solution : IsSolution z (2 ∷ 4 ∷ []) (2 ∷ 0 ∷ [])
solution = record { long = refl; residues = both _ (omega arith) (omega arith); gives = refl; bare = both _ (λ s. absurd (first_is_not s)) (λ s. refl) }

-- (1, 0) is outside the span, as the column (3, 1) shows
obstruction : IsObstruction z (1 ∷ 0 ∷ []) (3 ∷ 1 ∷ [])
obstruction = record { long = refl; residues = both _ (omega arith) (omega arith); null = both _ refl refl; some = λ e. let x : 3 ≡ 0 = e in omega arith }
