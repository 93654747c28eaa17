-- The canonical answers of the primitives of the additive closure of a table.
use Rattle.std.specs.Prelude.{◌≡◌, ◌↔◌, ℕ, Bool, IsTrue, List, [], ◌∷◌}
use Rattle.cap_laws.specs.Systems.{first_of, one_system, term_system}
use Rattle.cap_laws.specs.Table.{TableData}
use Rattle.cap_add_laws.specs.Closure.{MorphismMatrix, closure_data, closure_sum, diagonal_of}
use Rattle.cap_ops.specs.Values.{Value, object, morphism, four, truth, scalar}
use Rattle.cap_ops.specs.Arrows.{ValueOver}
use Rattle.cap_data.specs.declared.data.ObjData.{ObjData}
use Rattle.cap_data.specs.declared.data.MorData.{MorData}
use Rattle.cap_alike.specs.Along.{read_value, read_values}
use Rattle.cap_primitives.specs.Primitives.{perhaps}
use Rattle.cap_encoded.specs.OfClosures.{closure_reading}
use Rattle.cap_add_offer.specs.Calls.{closure_weak_kernel, closure_weak_cokernel, closure_solution}
use Rattle.cap_add_offer.specs.Offer.{list_offer}

-- the canonical answer of each operation
pub data IsCanonical (T : TableData) : ℕ → List (Value (List ℕ) MorphismMatrix) → Value (List ℕ) MorphismMatrix → Type 0 where
  -- Identity, Compose, Zero, Add, Scale: by entries; units on the diagonal, and the matrix product of combinations
  identity : (a : List ℕ) → IsCanonical T 1 (object a ∷ []) (morphism (diagonal_of T a a 0 0))
  compose : (f g : MorphismMatrix) → IsCanonical T 2 (morphism f ∷ morphism g ∷ []) (morphism ((closure_data T).compose f g))
  zero : (a b : List ℕ) → IsCanonical T 3 (object a ∷ object b ∷ []) (morphism ((closure_data T).zero a b))
  add : (f g : MorphismMatrix) → IsCanonical T 4 (morphism f ∷ morphism g ∷ []) (morphism ((closure_data T).add f g))
  scale : (n : ℕ) (f : MorphismMatrix) → IsCanonical T 7 (scalar n ∷ morphism f ∷ []) (morphism ((closure_data T).scale n f))
  -- IsCongruent: whether the data are equal
  congruent : (f g : MorphismMatrix) (b : Bool) → IsTrue b ↔ (f ≡ g) → IsCanonical T 8 (morphism f ∷ morphism g ∷ []) (truth b)
  -- ZeroObject: the identity of the empty list
  zero_object : IsCanonical T 10 [] (morphism (diagonal_of T [] [] 0 0))
  -- DirectSum: the block form, first list first
  direct_sum : (a b : List ℕ) → IsCanonical T 11 (object a ∷ object b ∷ []) (four (closure_sum T a b).i1 (closure_sum T a b).i2 (closure_sum T a b).p1 (closure_sum T a b).p2)
  -- WeakKernel: for each table object in order the null rows as morphisms from it, each dropped where it factors through the sum of those kept; WeakCokernel: the dual
  weak_kernel : (f : MorphismMatrix) → IsCanonical T 20 (morphism f ∷ []) (morphism (closure_weak_kernel T f))
  weak_cokernel : (f : MorphismMatrix) → IsCanonical T 21 (morphism f ∷ []) (morphism (closure_weak_cokernel T f))
  -- Lift and Colift: the solution of the system X·f = t, and of f·X = t; none where there is no solution
  lift : (t f : MorphismMatrix) → IsCanonical T 22 (morphism t ∷ morphism f ∷ []) (perhaps (first_of t (closure_solution T (one_system (closure_data T) t.from f.from f t))))
  colift : (f t : MorphismMatrix) → IsCanonical T 23 (morphism f ∷ morphism t ∷ [])
      (perhaps (first_of t (closure_solution T (term_system f.to t.to f (diagonal_of T t.to t.to 0 0) t))))

-- each answer of the offer is the canonical one
abbrev pub AnswersAreCanonical : Type 0
AnswersAreCanonical = (T : TableData) → (op : ℕ) (args : List (ValueOver ObjData MorData)) (v : ValueOver ObjData MorData)
    → (list_offer T).answer op args v → IsCanonical T op (read_values (closure_data T) closure_reading args) (read_value (closure_data T) closure_reading v)
