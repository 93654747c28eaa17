-- The canonical answers of the primitives of matrices: m' is the transpose of m, and a null-row basis of m is the reduced matrix whose rows span all x with x·m = 0.
use Rattle.std.specs.Prelude.{◌≡◌, ◌↔◌, ℕ, Bool, IsTrue, true, List, [], ◌∷◌, Option}
use Rattle.cap_field.specs.Residue.{is_tabled}
use Rattle.cap_matrix.specs.Grid.{Grid, product_of, sum_of, scaled_of, zero_of, unit_of, transposed_of}
use Rattle.cap_matrix.specs.Reduced.{IsNullBasis}
use Rattle.cap_matrix.specs.Summands.{first_in, second_in, first_out, second_out}
use Rattle.cap_vec_laws.specs.Vec.{vec_data, map_option, first_columns, last_columns, stacked_difference}
use Rattle.cap_vec_laws.specs.Laws.{IsRowLift}
use Rattle.cap_ops.specs.Values.{Value, object, morphism, two, four, truth, scalar, Fits}
use Rattle.cap_ops.specs.Arrows.{ValueOver, over}
use Rattle.cap_data.specs.declared.data.ObjData.{ObjData}
use Rattle.cap_data.specs.declared.data.MorData.{MorData}
use Rattle.cap_data.specs.OfMatrices.{matrix_reading}
use Rattle.cap_alike.specs.Along.{read_value, read_values}
use Rattle.cap_primitives.specs.Primitives.{perhaps}
use Rattle.cap_vec_offer.specs.Offer.{matrix_offer}

-- the canonical answer of each operation
pub data IsCanonical (p : ℕ) : ℕ → List (Value ℕ Grid) → Value ℕ Grid → Type 0 where
  -- Identity, Compose, Zero, Add, Scale: by entries
  identity : (a : ℕ) → IsCanonical p 1 (object a ∷ []) (morphism (unit_of p a))
  compose : (f g : Grid) → IsCanonical p 2 (morphism f ∷ morphism g ∷ []) (morphism (product_of f g))
  zero : (a b : ℕ) → IsCanonical p 3 (object a ∷ object b ∷ []) (morphism (zero_of p a b))
  add : (f g : Grid) → IsCanonical p 4 (morphism f ∷ morphism g ∷ []) (morphism (sum_of f g))
  scale : (n : ℕ) (f : Grid) → IsCanonical p 7 (scalar n ∷ morphism f ∷ []) (morphism (scaled_of n f))
  -- IsCongruent: whether the data are equal
  congruent : (f g : Grid) (b : Bool) → IsTrue b ↔ (f ≡ g) → IsCanonical p 8 (morphism f ∷ morphism g ∷ []) (truth b)
  -- ZeroObject: the identity of the dimension 0
  zero_object : IsCanonical p 10 [] (morphism (unit_of p 0))
  -- DirectSum: the block form, first summand first
  direct_sum : (a b : ℕ) → IsCanonical p 11 (object a ∷ object b ∷ []) (four (first_in p a b) (second_in p a b) (first_out p a b) (second_out p a b))
  -- Kernel, Cokernel: the null-row basis of f, and the transpose of that of f'
  kernel : (f n : Grid) → IsNullBasis f n → IsCanonical p 16 (morphism f ∷ []) (morphism n)
  cokernel : (f n : Grid) → IsNullBasis (transposed_of f) n → IsCanonical p 18 (morphism f ∷ []) (morphism (transposed_of n))
  -- Lift, Colift: the canonical solution of each row, and the transpose of that for t' and f'; none where a row has none
  lift : (t f : Grid) (o : Option Grid) → IsRowLift t f o → IsCanonical p 22 (morphism t ∷ morphism f ∷ []) (perhaps o)
  colift : (f t : Grid) (o : Option Grid) → IsRowLift (transposed_of t) (transposed_of f) o → IsCanonical p 23 (morphism f ∷ morphism t ∷ []) (perhaps (map_option transposed_of o))
  -- Pullback: the null-row basis of f above −g, cut after the columns of f's source. Pushout: the same of f' and g', transposed
  pullback : (f g n : Grid) → IsNullBasis (stacked_difference f g) n → IsCanonical p 34 (morphism f ∷ morphism g ∷ []) (two (first_columns f.row_count n) (last_columns f.row_count g.row_count n))
  pushout : (f g n : Grid) → IsNullBasis (stacked_difference (transposed_of f) (transposed_of g)) n
      → IsCanonical p 35 (morphism f ∷ morphism g ∷ []) (two (transposed_of (first_columns f.column_count n)) (transposed_of (last_columns f.column_count g.column_count n)))

-- on arguments that fit, each answer of the offer is the canonical one
abbrev pub AnswersAreCanonical : Type 0
AnswersAreCanonical = (p : ℕ) → is_tabled p ≡ true → (op : ℕ) (args : List (ValueOver ObjData MorData)) (v : ValueOver ObjData MorData) → Fits (over p) op args
    → (matrix_offer p).answer op args v → IsCanonical p op (read_values (vec_data p) matrix_reading args) (read_value (vec_data p) matrix_reading v)
