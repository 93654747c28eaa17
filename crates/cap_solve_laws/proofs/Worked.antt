-- Worked examples of the definitions, each by computing.
use Rattle.std.proofs.Common.{◌≡◌, ℕ, zero, suc, refl, List, [], ◌∷◌}
use Rattle.cap_laws.specs.Table.{TableData, Combination, table_data}
use Rattle.cap_laws.specs.Systems.{term_of}
use Rattle.cap_laws.specs.declared.values.Equation.{Equation}
use Rattle.cap_homlaw.specs.Hom.{HomData}
use Rattle.cap_solve_laws.specs.Systems.{system_matrix, values_row, morphisms_of}

-- residues modulo 3 with an element x, where x·x = 0: the basis is 1, x
abbrev dual_product : ℕ → ℕ → List ℕ
dual_product zero zero = 1 ∷ 0 ∷ []
dual_product zero (suc j) = 0 ∷ 1 ∷ []
dual_product (suc i) zero = 0 ∷ 1 ∷ []
dual_product (suc i) (suc j) = 0 ∷ 0 ∷ []

abbrev dual_numbers : TableData
dual_numbers = record { prime = 3; objects = 1; basis = (0, 0) ∷ (0, 0) ∷ []; unit = λ a. 1 ∷ 0 ∷ []; product = dual_product }

abbrev dual : ℕ → ℕ → Combination
dual m n = record { from = 0; to = 0; coefficients = m ∷ n ∷ [] }

abbrev dual_hom : HomData ℕ Combination
dual_hom = record {
  dim = λ a b. 2;
  nu = λ f. f.coefficients;
  back = λ a b row. record { from = a; to = b; coefficients = row };
  generators = 1;
  generator = λ n. n;
}

-- unknowns X and Y with X·x + Y = 2 and 2·Y = x
abbrev equations : List (Equation Combination)
equations = record { terms = term_of (dual 1 0) 0 (dual 0 1) ∷ term_of (dual 1 0) 1 (dual 1 0) ∷ []; value = dual 2 0 }
    ∷ record { terms = term_of (dual 2 0) 1 (dual 1 0) ∷ []; value = dual 0 1 }
    ∷ []

-- the rows are the coefficients of X and then of Y, the columns those of the two equations
two-equations : system_matrix (table_data dual_numbers) dual_hom ((0, 0) ∷ (0, 0) ∷ []) equations
    ≡ record { prime = 3; row_count = 4; column_count = 4; entries = (0 ∷ 1 ∷ 0 ∷ 0 ∷ []) ∷ (0 ∷ 0 ∷ 0 ∷ 0 ∷ []) ∷ (1 ∷ 0 ∷ 2 ∷ 0 ∷ []) ∷ (0 ∷ 1 ∷ 0 ∷ 2 ∷ []) ∷ [] }
two-equations = refl

two-values : values_row dual_hom equations ≡ 2 ∷ 0 ∷ 0 ∷ 1 ∷ []
two-values = refl

-- a row of four coefficients is two morphisms
two-morphisms : morphisms_of dual_hom ((0, 0) ∷ (0, 0) ∷ []) (1 ∷ 2 ∷ 0 ∷ 1 ∷ []) ≡ dual 1 2 ∷ dual 0 1 ∷ []
two-morphisms = refl
