-- Worked examples of the definitions, each by computing.
use Rattle.std.proofs.Common.{◌≡◌, ℕ, zero, suc, refl, List, [], ◌∷◌}
use Rattle.cap_laws.specs.Linear.{CategoryData}
use Rattle.cap_laws.specs.Universal.{opposite}
use Rattle.cap_laws.specs.Systems.{total, term_of}
use Rattle.cap_laws.specs.Table.{TableData, Combination, hom_of, table_data}

-- the opposite of the opposite is the category
opposite-twice : {Obj Mor : Type 0} (C : CategoryData Obj Mor) → opposite (opposite C) ≡ C
opposite-twice C = refl

-- a sum of two terms, in order, ended by 0
two-terms : {Obj Mor : Type 0} (C : CategoryData Obj Mor) (a b : Obj) (x y l r m s : Mor) → total C a b (x ∷ y ∷ []) (term_of l 0 r ∷ term_of m 1 s ∷ [])
    ≡ C.add (C.compose (C.compose l x) r) (C.add (C.compose (C.compose m y) s) (C.zero a b))
two-terms C a b x y l r m s = refl

-- residues modulo 3 with an element x, where x·x = 0: the basis is 1, x
abbrev dual_product : ℕ → ℕ → List ℕ
dual_product zero zero = 1 ∷ 0 ∷ []
dual_product zero (suc j) = 0 ∷ 1 ∷ []
dual_product (suc i) zero = 0 ∷ 1 ∷ []
dual_product (suc i) (suc j) = 0 ∷ 0 ∷ []

abbrev dual_numbers : TableData
dual_numbers = record { prime = 3; objects = 1; basis = (0, 0) ∷ (0, 0) ∷ []; unit = λ a. 1 ∷ 0 ∷ []; product = dual_product }

abbrev dual : ℕ → ℕ → Combination
dual m n = record { from = 0; to = 0; coefficients = m ∷ n ∷ [] }

-- (1 + 2x)·(2 + 2x) = 2 + 6x = 2
dual-composed : (table_data dual_numbers).compose (dual 1 2) (dual 2 2) ≡ dual 2 0
dual-composed = refl

-- (1 + 2x) + (2 + 2x) = x
dual-added : (table_data dual_numbers).add (dual 1 2) (dual 2 2) ≡ dual 0 1
dual-added = refl

-- two objects, their units, and a: 0→1 between them: the basis is 1 of 0, a, 1 of 1
abbrev arrow_product : ℕ → ℕ → List ℕ
arrow_product i j = 1 ∷ []

abbrev one_arrow : TableData
one_arrow = record { prime = 5; objects = 2; basis = (0, 0) ∷ (0, 1) ∷ (1, 1) ∷ []; unit = λ a. 1 ∷ []; product = arrow_product }

hom-there : hom_of one_arrow 0 1 ≡ 1 ∷ []
hom-there = refl

hom-back : hom_of one_arrow 1 0 ≡ []
hom-back = refl

-- 3a·4 = 12a = 2a
arrow-composed : (table_data one_arrow).compose (record { from = 0; to = 1; coefficients = 3 ∷ [] }) (record { from = 1; to = 1; coefficients = 4 ∷ [] })
    ≡ record { from = 0; to = 1; coefficients = 2 ∷ [] }
arrow-composed = refl
