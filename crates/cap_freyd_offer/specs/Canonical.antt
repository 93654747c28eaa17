-- The canonical answers of the primitives of the Freyd category of the additive closure of a table. A relation is written by its matrix.
use Rattle.std.specs.Prelude.{◌↔◌, ℕ, Bool, IsTrue, List, [], ◌∷◌, Option, Some, None}
use Rattle.cap_laws.specs.Factor.{Through}
use Rattle.cap_laws.specs.Systems.{first_of}
use Rattle.cap_laws.specs.Universal.{subtract}
use Rattle.cap_laws.specs.Table.{TableData, IsTable}
use Rattle.cap_add_laws.specs.Closure.{MorphismMatrix, closure_data, closure_sum}
use Rattle.cap_freyd_laws.specs.declared.values.Presentation.{Presentation}
use Rattle.cap_freyd_laws.specs.declared.values.PresentationMor.{PresentationMor}
use Rattle.cap_freyd_laws.specs.Freyd.{freyd_data}
use Rattle.cap_freyd_laws.specs.Canonical.{stack, preimage, block_sum, lift_system, colift_system}
use Rattle.cap_ops.specs.Values.{Value, object, morphism, four, truth, scalar, none}
use Rattle.cap_ops.specs.Arrows.{ValueOver}
use Rattle.cap_data.specs.declared.data.ObjData.{ObjData}
use Rattle.cap_data.specs.declared.data.MorData.{MorData}
use Rattle.cap_alike.specs.Along.{read_value, read_values}
use Rattle.cap_encoded.specs.OfFreyd.{freyd_reading}
use Rattle.cap_add_offer.specs.Calls.{closure_weak_kernel, closure_solution}
use Rattle.cap_freyd_offer.specs.Offer.{freyd_offer}

-- a relation, and a morphism between two of them
abbrev pub Object : Type 0
Object = Presentation MorphismMatrix

abbrev pub Morphism : Type 0
Morphism = PresentationMor MorphismMatrix

abbrev pub between : Object → Object → MorphismMatrix → Morphism
between a b alpha = record { from = a; to = b; alpha = alpha }

abbrev pub presented : MorphismMatrix → Object
presented rho = record { relation = rho }

-- the first unknown of the solution, or none where there is no solution
abbrev pub solved : Object → Object → Option MorphismMatrix → Value Object Morphism
solved a b (Some u) = morphism (between a b u)
solved a b None = none

-- the canonical answer of each operation
pub data IsCanonical (T : TableData) : ℕ → List (Value Object Morphism) → Value Object Morphism → Type 0 where
  -- Identity, Compose, Zero, Add, Scale: by entries, as those of the additive closure
  identity : (a : Object) → IsCanonical T 1 (object a ∷ []) (morphism (between a a ((closure_data T).identity a.relation.to)))
  compose : (f g : Morphism) → IsCanonical T 2 (morphism f ∷ morphism g ∷ []) (morphism (between f.from g.to ((closure_data T).compose f.alpha g.alpha)))
  zero : (a b : Object) → IsCanonical T 3 (object a ∷ object b ∷ []) (morphism (between a b ((closure_data T).zero a.relation.to b.relation.to)))
  add : (f g : Morphism) → IsCanonical T 4 (morphism f ∷ morphism g ∷ []) (morphism (between f.from f.to ((closure_data T).add f.alpha g.alpha)))
  scale : (n : ℕ) (f : Morphism) → IsCanonical T 7 (scalar n ∷ morphism f ∷ []) (morphism (between f.from f.to ((closure_data T).scale n f.alpha)))
  -- IsCongruent: whether some sigma has f − g = sigma·rho, for the relation rho of the target
  congruent : (f g : Morphism) (b : Bool)
      → IsTrue b ↔ Through (closure_data T) f.from.relation.to f.to.relation.from f.to.relation.to f.to.relation (subtract (closure_data T) f.alpha g.alpha)
      → IsCanonical T 8 (morphism f ∷ morphism g ∷ []) (truth b)
  -- ZeroObject: the identity of the empty relation between empty lists
  zero_object : IsCanonical T 10 [] (morphism (between (presented ((closure_data T).identity [])) (presented ((closure_data T).identity [])) ((closure_data T).identity [])))
  -- DirectSum: the block sum of the relations, with the block form of their targets, first summand first
  direct_sum : (a b : Object) → IsCanonical T 11 (object a ∷ object b ∷ [])
      (let s = presented (block_sum (closure_data T) (closure_sum T) a.relation b.relation) in
      let d = closure_sum T a.relation.to b.relation.to in
      four (between a s d.i1) (between b s d.i2) (between s a d.p1) (between s b d.p2))
  -- Kernel: the weak kernel i of f above the relation of its target, cut after the source of f;
  -- its relations are the first part of the weak kernel of i above the relation of the source of f
  kernel : (f : Morphism) → IsCanonical T 16 (morphism f ∷ [])
      (let W = preimage (closure_data T) (closure_sum T) (closure_weak_kernel T) in
      let i = W f.alpha f.to.relation in
      morphism (between (presented (W i f.from.relation)) f.from i))
  -- Cokernel: the identity, onto the relation of the target above f
  cokernel : (f : Morphism) → IsCanonical T 18 (morphism f ∷ [])
      (morphism (between f.to (presented (stack (closure_data T) (closure_sum T) f.to.relation f.alpha)) ((closure_data T).identity f.to.relation.to)))
  -- Lift and Colift: the first unknown of the solution of their systems; none where there is no solution
  lift : (t f : Morphism) → IsCanonical T 22 (morphism t ∷ morphism f ∷ [])
      (solved t.from f.from (first_of t.alpha (closure_solution T (lift_system (closure_data T) t.from.relation f.from.relation f.to.relation t.alpha f.alpha))))
  colift : (f t : Morphism) → IsCanonical T 23 (morphism f ∷ morphism t ∷ [])
      (solved f.to t.to (first_of t.alpha (closure_solution T (colift_system (closure_data T) f.from.relation f.to.relation t.to.relation f.alpha t.alpha))))

-- each answer of the offer is the canonical one
abbrev pub AnswersAreCanonical : Type 0
AnswersAreCanonical = (T : TableData) → IsTable T → (op : ℕ) (args : List (ValueOver ObjData MorData)) (v : ValueOver ObjData MorData)
    → (freyd_offer T).answer op args v → IsCanonical T op (read_values (freyd_data (closure_data T)) freyd_reading args) (read_value (freyd_data (closure_data T)) freyd_reading v)
