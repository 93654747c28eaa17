-- A two-sided system of linear equations as one row equation x·M = v, over a homomorphism structure.
use Rattle.std.specs.Prelude.{ℕ, zero, suc, ◌+◌, List, [], ◌∷◌, ◌++◌, take, drop}
use Rattle.cap_matrix.specs.Grid.{Grid, zero_of, sum_of, stacked_of, beside_of}
use Rattle.cap_laws.specs.Linear.{CategoryData}
use Rattle.cap_laws.specs.declared.values.Term.{Term}
use Rattle.cap_laws.specs.declared.values.Equation.{Equation}
use Rattle.cap_homlaw.specs.Hom.{HomData, hom_matrix}

-- how many coefficients unknowns with these ends have
abbrev pub unknowns_width : {Obj Mor : Type 0} → HomData Obj Mor → List (Obj × Obj) → ℕ
unknowns_width H [] = 0
unknowns_width H (u ∷ us) = H.dim u.0 u.1 + unknowns_width H us

-- the matrix k in the rows of unknown u, and 0 in those of the others
abbrev pub in_rows : {Obj Mor : Type 0} → HomData Obj Mor → ℕ → ℕ → List (Obj × Obj) → ℕ → Grid → Grid
in_rows H p n [] u k = zero_of p 0 n
in_rows H p n (a ∷ us) zero k = stacked_of k (zero_of p (unknowns_width H us) n)
in_rows H p n (a ∷ us) (suc u) k = stacked_of (zero_of p (H.dim a.0 a.1) n) (in_rows H p n us u k)

-- one equation of n coefficients: the sum, over its terms left·X·right, of h(left, right) in the rows of X
abbrev pub equation_columns : {Obj Mor : Type 0} → CategoryData Obj Mor → HomData Obj Mor → List (Obj × Obj) → ℕ → List (Term Mor) → Grid
equation_columns C H us n [] = zero_of C.prime (unknowns_width H us) n
equation_columns C H us n (t ∷ ts) = sum_of (in_rows H C.prime n us t.unknown (hom_matrix C H t.left t.right)) (equation_columns C H us n ts)

-- the matrix of a system: the equations side by side
abbrev pub system_matrix : {Obj Mor : Type 0} → CategoryData Obj Mor → HomData Obj Mor → List (Obj × Obj) → List (Equation Mor) → Grid
system_matrix C H us [] = zero_of C.prime (unknowns_width H us) 0
system_matrix C H us (e ∷ es) = beside_of (equation_columns C H us (H.dim (C.source e.value) (C.target e.value)) e.terms) (system_matrix C H us es)

-- how many coefficients the values have
abbrev pub values_width : {Obj Mor : Type 0} → CategoryData Obj Mor → HomData Obj Mor → List (Equation Mor) → ℕ
values_width C H [] = 0
values_width C H (e ∷ es) = H.dim (C.source e.value) (C.target e.value) + values_width C H es

-- the coefficients of all values, and of morphisms for the unknowns, one after another
abbrev pub values_row : {Obj Mor : Type 0} → HomData Obj Mor → List (Equation Mor) → List ℕ
values_row H [] = []
values_row H (e ∷ es) = H.nu e.value ++ values_row H es

abbrev pub unknowns_row : {Obj Mor : Type 0} → HomData Obj Mor → List Mor → List ℕ
unknowns_row H [] = []
unknowns_row H (x ∷ xs) = H.nu x ++ unknowns_row H xs

-- the morphisms for the unknowns whose coefficients, one after another, are a row
abbrev pub morphisms_of : {Obj Mor : Type 0} → HomData Obj Mor → List (Obj × Obj) → List ℕ → List Mor
morphisms_of H [] row = []
morphisms_of H (u ∷ us) row = H.back u.0 u.1 (take (H.dim u.0 u.1) row) ∷ morphisms_of H us (drop (H.dim u.0 u.1) row)
