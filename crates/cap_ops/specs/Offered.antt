-- Which primitives each kind of category offers, with their default weights, and the words of the kinds.
use Rattle.std.specs.Prelude.{ℕ, suc, List, [], ◌∷◌, ◌++◌, Option, Some, None, map, ◌==◌, if◌then◌else◌, codes}
use Rattle.std.specs.List.{range_with_len}
use Rattle.cap_names.specs.declared.identifiers.OpId.{OpId}
use Rattle.cap_ops.specs.declared.plans.Kind.{Kind}
use Rattle.cap_ops.specs.declared.plans.Kind.TheVariants.{Mat, Add as OfClosures, Freyd, Rep}
use Rattle.cap_ops.specs.Operations.{Identity, Compose, Zero, Add, Scale, IsCongruent, ZeroObject, DirectSum, Lift, Colift, Kernel, Cokernel, WeakKernel, WeakCokernel, Pullback, Pushout}

-- what every kind offers
abbrev pub offered_by_all : List (OpId × ℕ)
offered_by_all = (Identity, 1) ∷ (Compose, 1) ∷ (Zero, 1) ∷ (Add, 1) ∷ (Scale, 1) ∷ (IsCongruent, 2) ∷ (ZeroObject, 1) ∷ (DirectSum, 5) ∷ (Lift, 20) ∷ (Colift, 20) ∷ []

-- what a kind offers besides
abbrev pub offered_besides : Kind → List (OpId × ℕ)
offered_besides Mat = (Kernel, 20) ∷ (Cokernel, 20) ∷ (Pullback, 30) ∷ (Pushout, 30) ∷ []
offered_besides OfClosures = (WeakKernel, 20) ∷ (WeakCokernel, 20) ∷ []
offered_besides Freyd = (Kernel, 20) ∷ (Cokernel, 20) ∷ []
offered_besides Rep = (Kernel, 20) ∷ (Cokernel, 20) ∷ []

-- the weight at a number, where the list has it
abbrev pub weight_in : List (OpId × ℕ) → ℕ → Option ℕ
weight_in [] op = None
weight_in (offer ∷ offers) op = if offer.0.0 == op then Some offer.1 else weight_in offers op

abbrev pub offered_weight : Kind → ℕ → Option ℕ
offered_weight kind op = weight_in (offered_by_all ++ offered_besides kind) op

-- the default weights of a kind, in order of number
abbrev pub offered_weights : Kind → List (Option ℕ)
offered_weights kind = map (offered_weight kind) (range_with_len 1 44)

-- the word that scripts and certificates have for a kind
abbrev pub word_of : Kind → List ℕ
word_of Mat = codes "vec"
word_of OfClosures = codes "add"
word_of Freyd = codes "freyd"
word_of Rep = codes "rep"
