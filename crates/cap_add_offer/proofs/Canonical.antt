-- Each primitive's answer is the canonical one.
use Rattle.std.proofs.Common.{◌≡◌, ℕ, true, false, List, [], ◌∷◌, refl, sym, subst}
use Rattle.std.specs.Prelude.{◌↔◌}
use Rattle.cap_laws.specs.Systems.{first_of, one_system, term_system}
use Rattle.cap_laws.specs.Table.{TableData}
use Rattle.cap_add_laws.specs.Closure.{MorphismMatrix, closure_data, diagonal_of}
use Rattle.cap_ops.specs.Values.{Value, object, morphism, two, four, truth, scalar, none}
use Rattle.cap_ops.specs.Meaning.{Meets, a_truth}
use Rattle.cap_ops.specs.Arrows.{ValueOver}
use Rattle.cap_data.specs.declared.data.ObjData.{ObjData}
use Rattle.cap_data.specs.declared.data.MorData.{MorData}
use Rattle.cap_alike.specs.Along.{read_value, read_values}
use Rattle.cap_primitives.specs.Calls.{closure_table}
use Rattle.cap_primitives.proofs.Offers.{answers-have}
use Rattle.cap_encoded.specs.OfClosures.{closure_reading}
use Rattle.cap_add_offer.specs.Calls.{closure_solution}
use Rattle.cap_add_offer.specs.Offer.{list_calls, list_offer}
use Rattle.cap_add_offer.specs.Canonical.{IsCanonical, identity, compose, zero, add, scale, congruent, zero_object, direct_sum, weak_kernel, weak_cokernel, lift, colift, AnswersAreCanonical}

module _ (T : TableData) where
  at : (op : ℕ) (args brgs : List (Value (List ℕ) MorphismMatrix)) (v w : Value (List ℕ) MorphismMatrix) → args ≡ brgs → v ≡ w → IsCanonical T op brgs w → IsCanonical T op args v
  at op args brgs v w e d h = subst (λ l. IsCanonical T op l v) (sym e) (subst (λ u. IsCanonical T op brgs u) (sym d) h)

  told : (f g : MorphismMatrix) (v : Value (List ℕ) MorphismMatrix) → Meets (a_truth (f ≡ g)) v → IsCanonical T 8 (morphism f ∷ morphism g ∷ []) v
  told f g (truth true) h = congruent f g true (λ _. h, λ _. refl)
  told f g (truth false) h = congruent f g false (λ e. absurd (cc), λ e. absurd (h e))
  told f g (object a) h = absurd h
  told f g (morphism k) h = absurd h
  told f g (two k l) h = absurd h
  told f g (four k l m n) h = absurd h
  told f g (scalar n) h = absurd h
  told f g none h = absurd h

pub canonical : AnswersAreCanonical
unfolding list_offer
canonical T op args v x = answers-have (IsCanonical T) (closure_table (list_calls T)) (
  (λ a v x. at T 1 a _ v _ x.1 x.2 (identity x.0)),
  (
    (λ a v x. at T 2 a _ v _ x.2 x.3 (compose x.0 x.1)),
    (
      (λ a v x. at T 3 a _ v _ x.2 x.3 (zero x.0 x.1)),
      (
        (λ a v x. at T 4 a _ v _ x.2 x.3 (add x.0 x.1)),
        (
          (λ a v x. at T 7 a _ v _ x.2 x.3 (scale x.0 x.1)),
          (
            (λ a v x. at T 8 a _ v v x.2 refl (told T x.0 x.1 v x.3)),
            (
              (λ a v x. at T 10 a _ v _ x.0 x.1 zero_object),
              (
                (λ a v x. at T 11 a _ v _ x.2 x.3 (direct_sum x.0 x.1)),
                (
                  (λ a v x. at T 20 a _ v _ x.1 x.2 (weak_kernel x.0)),
                  (
                    (λ a v x. at T 21 a _ v _ x.1 x.2 (weak_cokernel x.0)),
                    ((λ a v x. at T 22 a _ v _ x.2 x.3 (lift x.0 x.1)), ((λ a v x. at T 23 a _ v _ x.2 x.3 (colift x.0 x.1)), tt)),
                  ),
                ),
              ),
            ),
          ),
        ),
      ),
    ),
  ),
)
    op (read_values (closure_data T) closure_reading args) (read_value (closure_data T) closure_reading v) x.answers
