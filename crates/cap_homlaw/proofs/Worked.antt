-- Worked examples of the definitions, each by computing.
use Rattle.std.proofs.Common.{◌≡◌, ℕ, zero, suc, refl, List, [], ◌∷◌}
use Rattle.cap_matrix.specs.Grid.{row_times}
use Rattle.cap_laws.specs.Table.{TableData, Combination, table_data}
use Rattle.cap_homlaw.specs.Rows.{row_sum, row_scaled, unit_row}
use Rattle.cap_homlaw.specs.Hom.{HomData, hom_matrix}

-- 2 and 4, and 3 more of each, modulo 5; three times them; and 1 at the second of three places
sum-of-rows : row_sum 5 2 (2 ∷ 4 ∷ []) (3 ∷ 3 ∷ []) ≡ 0 ∷ 2 ∷ []
sum-of-rows = refl

multiple-of-a-row : row_scaled 5 2 3 (2 ∷ 4 ∷ []) ≡ 1 ∷ 2 ∷ []
multiple-of-a-row = refl

second-unit : unit_row 3 1 ≡ 0 ∷ 1 ∷ 0 ∷ []
second-unit = refl

-- residues modulo 3 with an element x, where x·x = 0: the basis is 1, x
abbrev dual_product : ℕ → ℕ → List ℕ
dual_product zero zero = 1 ∷ 0 ∷ []
dual_product zero (suc j) = 0 ∷ 1 ∷ []
dual_product (suc i) zero = 0 ∷ 1 ∷ []
dual_product (suc i) (suc j) = 0 ∷ 0 ∷ []

abbrev dual_numbers : TableData
dual_numbers = record { prime = 3; objects = 1; basis = (0, 0) ∷ (0, 0) ∷ []; unit = λ a. 1 ∷ 0 ∷ []; product = dual_product }

abbrev dual : ℕ → ℕ → Combination
dual m n = record { from = 0; to = 0; coefficients = m ∷ n ∷ [] }

abbrev dual_hom : HomData ℕ Combination
dual_hom = record {
  dim = λ a b. 2;
  nu = λ f. f.coefficients;
  back = λ a b row. record { from = a; to = b; coefficients = row };
  generators = 1;
  generator = λ n. n;
}

-- g ↦ (1 + 2x)·g·2 sends 1 to 2 + x and x to 2x
dual-matrix : hom_matrix (table_data dual_numbers) dual_hom (dual 1 2) (dual 2 0)
    ≡ record { prime = 3; row_count = 2; column_count = 2; entries = (2 ∷ 1 ∷ []) ∷ (0 ∷ 2 ∷ []) ∷ [] }
dual-matrix = refl

-- so (1 + 2x)·(1 + x)·2 = 2 + 6x = 2, and its row is that of 1 + x times the matrix
dual-image : row_times (1 ∷ 1 ∷ []) (hom_matrix (table_data dual_numbers) dual_hom (dual 1 2) (dual 2 0)) ≡ 2 ∷ 0 ∷ []
dual-image = refl
