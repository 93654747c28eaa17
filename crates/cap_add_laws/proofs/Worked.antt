-- Worked examples of the definitions, each by computing.
use Rattle.std.proofs.Common.{◌≡◌, ℕ, refl, List, [], ◌∷◌}
use Rattle.cap_laws.specs.Table.{TableData}
use Rattle.cap_add_laws.specs.Closure.{MorphismMatrix, closure_data, closure_sum, closure_hom}

-- modulo 5: two objects, their units, and a: 0→1 between them; the basis is 1 of 0, a, 1 of 1
abbrev one_arrow : TableData
one_arrow = record { prime = 5; objects = 2; basis = (0, 0) ∷ (0, 1) ∷ (1, 1) ∷ []; unit = λ a. 1 ∷ []; product = λ i j. 1 ∷ [] }

abbrev matrix : List ℕ → List ℕ → List (List ℕ) → MorphismMatrix
matrix a b entries = record { from = a; to = b; entries = entries }

-- (2, 3a) from [0] to [0 1], then a above 4 into [1]: 2a + 12a = 4a
product-of-two : (closure_data one_arrow).compose (matrix (0 ∷ []) (0 ∷ 1 ∷ []) ((2 ∷ []) ∷ (3 ∷ []) ∷ [])) (matrix (0 ∷ 1 ∷ []) (1 ∷ []) ((1 ∷ []) ∷ (4 ∷ []) ∷ []))
    ≡ matrix (0 ∷ []) (1 ∷ []) ((4 ∷ []) ∷ [])
product-of-two = refl

-- the second injection of [0] and [1] has nothing from 1 to 0, and the unit of 1
second-injection : (closure_sum one_arrow (0 ∷ []) (1 ∷ [])).i2 ≡ matrix (1 ∷ []) (0 ∷ 1 ∷ []) ([] ∷ (1 ∷ []) ∷ [])
second-injection = refl

-- from [0 1] to [0 1] there are three coefficients: of 1 of 0, of a and of 1 of 1
three-coefficients : (closure_hom one_arrow).dim (0 ∷ 1 ∷ []) (0 ∷ 1 ∷ []) ≡ 3
three-coefficients = refl

of-a-row : (closure_hom one_arrow).back (0 ∷ 1 ∷ []) (0 ∷ 1 ∷ []) (2 ∷ 3 ∷ 4 ∷ []) ≡ matrix (0 ∷ 1 ∷ []) (0 ∷ 1 ∷ []) ((2 ∷ []) ∷ (3 ∷ []) ∷ [] ∷ (4 ∷ []) ∷ [])
of-a-row = refl
