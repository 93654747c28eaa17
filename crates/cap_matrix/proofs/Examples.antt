-- The operations on the matrices [1 2; 3 4] and [0 1; 1 0] modulo 5, computed.
use Rattle.std.proofs.Common.{◌≡◌, ℕ, List, [], ◌∷◌, true, false, refl}
use Rattle.cap_matrix.specs.Grid.{Grid, product_of, sum_of, scaled_of, transposed_of, stacked_of, beside_of, block_of, kron_of, unit_of, with_entry, fits_limits}

abbrev modulo_five : ℕ → ℕ → List (List ℕ) → Grid
modulo_five n m rows = record { prime = 5; row_count = n; column_count = m; entries = rows }

abbrev x : Grid
x = modulo_five 2 2 ((1 ∷ 2 ∷ []) ∷ (3 ∷ 4 ∷ []) ∷ [])

abbrev y : Grid
y = modulo_five 2 2 ((0 ∷ 1 ∷ []) ∷ (1 ∷ 0 ∷ []) ∷ [])

product_example : product_of x y ≡ modulo_five 2 2 ((2 ∷ 1 ∷ []) ∷ (4 ∷ 3 ∷ []) ∷ [])
product_example = refl

sum_example : sum_of x y ≡ modulo_five 2 2 ((1 ∷ 3 ∷ []) ∷ (4 ∷ 4 ∷ []) ∷ [])
sum_example = refl

scaled_example : scaled_of 2 x ≡ modulo_five 2 2 ((2 ∷ 4 ∷ []) ∷ (1 ∷ 3 ∷ []) ∷ [])
scaled_example = refl

stacked_example : stacked_of x y ≡ modulo_five 4 2 ((1 ∷ 2 ∷ []) ∷ (3 ∷ 4 ∷ []) ∷ (0 ∷ 1 ∷ []) ∷ (1 ∷ 0 ∷ []) ∷ [])
stacked_example = refl

beside_example : beside_of x y ≡ modulo_five 2 4 ((1 ∷ 2 ∷ 0 ∷ 1 ∷ []) ∷ (3 ∷ 4 ∷ 1 ∷ 0 ∷ []) ∷ [])
beside_example = refl

transposed_example : transposed_of x ≡ modulo_five 2 2 ((1 ∷ 3 ∷ []) ∷ (2 ∷ 4 ∷ []) ∷ [])
transposed_example = refl

block_example : block_of 0 1 2 1 x ≡ modulo_five 2 1 ((2 ∷ []) ∷ (4 ∷ []) ∷ [])
block_example = refl

kron_example : kron_of x (modulo_five 1 2 ((1 ∷ 2 ∷ []) ∷ [])) ≡ modulo_five 2 4 ((1 ∷ 2 ∷ 2 ∷ 4 ∷ []) ∷ (3 ∷ 1 ∷ 4 ∷ 3 ∷ []) ∷ [])
kron_example = refl

entry_example : with_entry x 1 0 2 ≡ modulo_five 2 2 ((1 ∷ 2 ∷ []) ∷ (2 ∷ 4 ∷ []) ∷ [])
entry_example = refl

unit_example : unit_of 5 2 ≡ modulo_five 2 2 ((1 ∷ 0 ∷ []) ∷ (0 ∷ 1 ∷ []) ∷ [])
unit_example = refl

limits_kept : fits_limits 2048 512 ≡ true
limits_kept = refl

limits_passed : fits_limits 2048 2048 ≡ false
limits_passed = refl
