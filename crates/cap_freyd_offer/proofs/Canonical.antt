-- Each primitive's answer is the canonical one.
use Rattle.std.proofs.Common.{◌≡◌, ℕ, true, false, List, [], ◌∷◌, Option, Some, None, refl, sym, ◌∙◌, subst}
use Rattle.cap_laws.specs.Systems.{first_of}
use Rattle.cap_laws.specs.Table.{TableData}
use Rattle.cap_add_laws.specs.Closure.{MorphismMatrix, closure_data}
use Rattle.cap_freyd_laws.specs.Freyd.{freyd_data}
use Rattle.cap_freyd_laws.specs.Canonical.{between as between_option, lift_system, colift_system}
use Rattle.cap_ops.specs.Values.{Value, object, morphism, two, four, truth, scalar, none}
use Rattle.cap_ops.specs.Meaning.{Meets, a_truth}
use Rattle.cap_ops.specs.Arrows.{ValueOver}
use Rattle.cap_data.specs.declared.data.ObjData.{ObjData}
use Rattle.cap_data.specs.declared.data.MorData.{MorData}
use Rattle.cap_alike.specs.Along.{read_value, read_values}
use Rattle.cap_primitives.specs.Calls.{abelian_table}
use Rattle.cap_primitives.specs.Primitives.{perhaps}
use Rattle.cap_primitives.proofs.Offers.{answers-have}
use Rattle.cap_encoded.specs.OfFreyd.{freyd_reading}
use Rattle.cap_add_offer.specs.Calls.{closure_solution}
use Rattle.cap_freyd_offer.specs.Offer.{freyd_calls, freyd_offer}
use Rattle.cap_freyd_offer.specs.Canonical.{Object, Morphism, solved, IsCanonical, identity, compose, zero, add, scale, congruent, zero_object, direct_sum, kernel, cokernel, lift, colift, AnswersAreCanonical}

-- a morphism or none, as a value
solved-is : (a b : Object) (o : Option MorphismMatrix) → perhaps (between_option a b o) ≡ solved a b o
solved-is a b (Some u) = refl
solved-is a b None = refl

module _ (T : TableData) where
  at : (op : ℕ) (args brgs : List (Value Object Morphism)) (v w : Value Object Morphism) → args ≡ brgs → v ≡ w → IsCanonical T op brgs w → IsCanonical T op args v
  at op args brgs v w e d h = subst (λ l. IsCanonical T op l v) (sym e) (subst (λ u. IsCanonical T op brgs u) (sym d) h)

  told : (f g : Morphism) (v : Value Object Morphism) → Meets (a_truth ((freyd_data (closure_data T)).congruent f g)) v → IsCanonical T 8 (morphism f ∷ morphism g ∷ []) v
  told f g (truth true) h = congruent f g true (λ _. h, λ _. refl)
  told f g (truth false) h = congruent f g false (λ e. absurd (cc), λ e. absurd (h e))
  told f g (object a) h = absurd h
  told f g (morphism k) h = absurd h
  told f g (two k l) h = absurd h
  told f g (four k l m n) h = absurd h
  told f g (scalar n) h = absurd h
  told f g none h = absurd h

  lift-at : (t f : Morphism) → perhaps ((freyd_calls T).lift t f) ≡ solved t.from f.from (first_of t.alpha (closure_solution T (lift_system (closure_data T) t.from.relation f.from.relation f.to.relation t.alpha f.alpha)))
  lift-at t f = solved-is t.from f.from _

  colift-at : (f t : Morphism) → perhaps ((freyd_calls T).colift f t) ≡ solved f.to t.to (first_of t.alpha (closure_solution T (colift_system (closure_data T) f.from.relation f.to.relation t.to.relation f.alpha t.alpha)))
  colift-at f t = solved-is f.to t.to _

  pub canonical-at : (op : ℕ) (args : List (ValueOver ObjData MorData)) (v : ValueOver ObjData MorData) → (freyd_offer T).answer op args v
      → IsCanonical T op (read_values (freyd_data (closure_data T)) freyd_reading args) (read_value (freyd_data (closure_data T)) freyd_reading v)
  unfolding freyd_offer
  canonical-at op args v x = answers-have (IsCanonical T) (abelian_table (freyd_calls T)) (
    (λ a v x. at 1 a _ v _ x.1 x.2 (identity x.0)),
    (
      (λ a v x. at 2 a _ v _ x.2 x.3 (compose x.0 x.1)),
      (
        (λ a v x. at 3 a _ v _ x.2 x.3 (zero x.0 x.1)),
        (
          (λ a v x. at 4 a _ v _ x.2 x.3 (add x.0 x.1)),
          (
            (λ a v x. at 7 a _ v _ x.2 x.3 (scale x.0 x.1)),
            (
              (λ a v x. at 8 a _ v v x.2 refl (told x.0 x.1 v x.3)),
              (
                (λ a v x. at 10 a _ v _ x.0 x.1 zero_object),
                (
                  (λ a v x. at 11 a _ v _ x.2 x.3 (direct_sum x.0 x.1)),
                  (
                    (λ a v x. at 16 a _ v _ x.1 x.2 (kernel x.0)),
                    (
                      (λ a v x. at 18 a _ v _ x.1 x.2 (cokernel x.0)),
                      ((λ a v x. at 22 a _ v _ x.2 (x.3 ∙ lift-at x.0 x.1) (lift x.0 x.1)), ((λ a v x. at 23 a _ v _ x.2 (x.3 ∙ colift-at x.0 x.1) (colift x.0 x.1)), tt)),
                    ),
                  ),
                ),
              ),
            ),
          ),
        ),
      ),
    ),
  )
      op (read_values (freyd_data (closure_data T)) freyd_reading args) (read_value (freyd_data (closure_data T)) freyd_reading v) x.answers

pub canonical : AnswersAreCanonical
canonical = λ T V op args v x. canonical-at T op args v x
