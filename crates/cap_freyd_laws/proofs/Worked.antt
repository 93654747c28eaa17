-- Worked examples of the definitions, over the residues modulo 3 with an element x where x·x = 0.
use Rattle.std.proofs.Common.{◌≡◌, ℕ, zero, suc, ◌<◌, refl, ap, ◌∙◌, List, [], ◌∷◌, slice_index, arith}
use Rattle.cap_laws.specs.Linear.{CategoryData, Arrow}
use Rattle.cap_laws.specs.Systems.{term_of}
use Rattle.cap_laws.specs.Table.{Combination, table_data}
use Rattle.cap_freyd_laws.specs.declared.values.Presentation.{Presentation}
use Rattle.cap_freyd_laws.specs.Freyd.{IsFreydMorphism, freyd_data}
use Rattle.cap_freyd_laws.specs.Canonical.{congruence_system}

abbrev dual_product : ℕ → ℕ → List ℕ
dual_product zero zero = 1 ∷ 0 ∷ []
dual_product zero (suc j) = 0 ∷ 1 ∷ []
dual_product (suc i) zero = 0 ∷ 1 ∷ []
dual_product (suc i) (suc j) = 0 ∷ 0 ∷ []

abbrev dual_numbers : CategoryData ℕ Combination
dual_numbers = table_data (record { prime = 3; objects = 1; basis = (0, 0) ∷ (0, 0) ∷ []; unit = λ a. 1 ∷ 0 ∷ []; product = dual_product })

-- m + n·x
abbrev dual : ℕ → ℕ → Combination
dual m n = record { from = 0; to = 0; coefficients = m ∷ n ∷ [] }

-- what is free, and what is free modulo x
abbrev free : Presentation Combination
free = record { relation = dual 0 0 }

abbrev modulo_x : Presentation Combination
modulo_x = record { relation = dual 0 1 }

-- the composite of 1 + 2x and 2 + 2x is 2, whatever the relations
composite : (freyd_data dual_numbers).compose (record { from = free; to = modulo_x; alpha = dual 1 2 }) (record { from = modulo_x; to = modulo_x; alpha = dual 2 2 })
    ≡ record { from = free; to = modulo_x; alpha = dual 2 0 }
composite = refl

-- whether x is 0 modulo x: is there a sigma with 1·sigma·x = x
system-of-x : congruence_system dual_numbers (dual 0 0) (dual 0 1) (dual 0 1) (dual 0 0)
    ≡ record { unknowns = (0, 0) ∷ []; equations = record { terms = term_of (dual 1 0) 0 (dual 0 1) ∷ []; value = dual 0 1 } ∷ [] }
system-of-x = refl

below-three : (m n : ℕ) → m < 3 → n < 3 → (i : ℕ) → i < 2 → slice_index (m ∷ n ∷ []) i < 3
below-three m n h k zero b = h
below-three m n h k (suc zero) b = k
below-three m n h k (suc (suc i)) b = absurd (omega (arith, b))

dual-arrow : (m n : ℕ) → m < 3 → n < 3 → Arrow dual_numbers 0 0 (dual m n)
dual-arrow m n h k = record { is = record { from = omega arith; to = omega arith; row = record { long = refl; residues = below-three m n h k } }; from = refl; to = refl }

-- x is congruent to 0 modulo x, by sigma = 1, though not equal to it
x-vanishes : (freyd_data dual_numbers).congruent (record { from = free; to = modulo_x; alpha = dual 0 1 }) (record { from = free; to = modulo_x; alpha = dual 0 0 })
x-vanishes = record {
  over = dual-arrow 0 1 (omega arith) (omega arith);
  by = dual 1 0;
  arrow = dual-arrow 1 0 (omega arith) (omega arith);
  holds = record { left = dual-arrow 0 1 (omega arith) (omega arith); right = dual-arrow 0 1 (omega arith) (omega arith); congruent = refl };
}

-- 1 is a morphism from what is free modulo x to itself, by omega = 1
one-is-a-morphism : IsFreydMorphism dual_numbers (dual 0 1) (dual 0 1) (dual 1 0)
one-is-a-morphism = record {
  from = (dual-arrow 0 1 (omega arith) (omega arith)).is;
  to = (dual-arrow 0 1 (omega arith) (omega arith)).is;
  arrow = dual-arrow 1 0 (omega arith) (omega arith);
  omega = record {
    over = dual-arrow 0 1 (omega arith) (omega arith);
    by = dual 1 0;
    arrow = dual-arrow 1 0 (omega arith) (omega arith);
    holds = record { left = dual-arrow 0 1 (omega arith) (omega arith); right = dual-arrow 0 1 (omega arith) (omega arith); congruent = refl };
  };
}

-- but not to what is free: there is no omega with x·1 = omega·0
at-ends : (f : Combination) → f.from ≡ 0 → f.to ≡ 0 → f ≡ record { from = 0; to = 0; coefficients = f.coefficients }
at-ends f s t = ap (λ a. record { from = a; to = f.to; coefficients = f.coefficients }) s ∙ ap (λ b. record { from = 0; to = b; coefficients = f.coefficients }) t

one-is-no-morphism : IsFreydMorphism dual_numbers (dual 0 1) (dual 0 0) (dual 1 0) → ⊥
one-is-no-morphism m =
    let e = m.omega.holds.congruent in
    let h : dual 0 1 ≡ dual_numbers.compose (record { from = 0; to = 0; coefficients = m.omega.by.coefficients }) (dual 0 0) = e ∙ ap (λ f. dual_numbers.compose f (dual 0 0)) (at-ends m.omega.by m.omega.arrow.from m.omega.arrow.to) in
    absurd (omega (arith, ap (λ f. slice_index f.coefficients 1) h))
