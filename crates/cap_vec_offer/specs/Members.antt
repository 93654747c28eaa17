-- What the offer of matrices owes: its category is linear and abelian, its morphisms have the ends that they name, and each primitive's answer has its operation's meaning and is one, with few new objects.
use Rattle.std.specs.Prelude.{◌≡◌, ℕ, Bool, true, false, List, [], ◌∷◌, Option, refl}
use Rattle.std.proofs.Common.{sym, ◌∙◌, subst}
use Rattle.std.proofs.Props.{props}
use Rattle.cap_field.specs.Residue.{is_tabled}
use Rattle.cap_laws.specs.Linear.{IsLinear}
use Rattle.cap_laws.specs.Universal.{IsAbelian}
use Rattle.cap_vec_laws.specs.Vec.{vec_data}
use Rattle.cap_vec_laws.proofs.Linear.{vec_linear}
use Rattle.cap_vec_laws.proofs.Abelian.{vec_abelian}
use Rattle.cap_vec_laws.proofs.Members.{kernel_is, cokernel_is, lift_is, colift_is}
use Rattle.cap_vec.specs.Members.{kernel_of, cokernel_of, lift_of, colift_of}
use Rattle.cap_vec_laws.proofs.DirectSum.{zero_object, direct_sum}
use Rattle.cap_vec.specs.Sizes.{block_sum, pullback_of, pushout_of}
use Rattle.cap_ops.specs.declared.plans.Kind.TheVariants.{Mat}
use Rattle.cap_ops.specs.Offered.{offered_weight}
use Rattle.cap_ops.specs.Told.{HasPlainEnds}
use Rattle.cap_ops.specs.Primitives.{OfferData, PrimsMean, HasOneOutcome, HasFewObjects, prime_of}
use Rattle.cap_data.specs.declared.data.ObjData.{ObjData}
use Rattle.cap_data.specs.declared.data.MorData.{MorData}
use Rattle.cap_data.specs.OfMatrices.{matrix_reading}
use Rattle.cap_data.proofs.OfMatrices.{matrices_read}
use Rattle.cap_data.proofs.Pullbacks.{pullback_is, pushout_is}
use Rattle.cap_primitives.specs.Table.{ArePrimitives, IsOffer}
use Rattle.cap_primitives.proofs.Primitives.{identity-is, compose-is, zero-is, add-is, scale-is, congruent-is, zero-object-is, sum-is, kernel-is, cokernel-is, lift-is, colift-is, pullback-is, pushout-is}
use Rattle.cap_primitives.proofs.Offers.{along_abelian, is_offer}
use Rattle.cap_vec_offer.specs.Offer.{vec_primitives, vec_offer, by_test, matrix_offer}

module _ (p : ℕ) (t : is_tabled p ≡ true) where
  pub vec_are : ArePrimitives (vec_data p) (vec_primitives p t)
  vec_are =
      let V = vec_data p in
      let L = vec_linear p t in (
        identity-is V L _,
        (
          compose-is V L _,
          (
            zero-is V L _,
            (
              add-is V L _,
              (
                scale-is V L _,
                (
                  congruent-is V _,
                  (
                    zero-object-is V L 0 _ (zero_object p t),
                    (
                      sum-is V (λ a b. block_sum p a b) _ (λ a b o q. direct_sum p t a b),
                      (
                        kernel-is V (λ f. kernel_of p t f) _ (λ a b f F. kernel_is p t a b f F),
                        (
                          cokernel-is V (λ f. cokernel_of p t f) _ (λ a b f F. cokernel_is p t a b f F),
                          (
                            lift-is V (λ x f. lift_of p t x f) _ (λ x a b u f U F. lift_is p t x a b u f U F),
                            (
                              colift-is V (λ f x. colift_of p t f x) _ (λ c a x f u F U. colift_is p t c a x f u F U),
                              (pullback-is V (λ f g. pullback_of p t f g) _ (λ a b c f g F G. pullback_is p t a b c f g F G), (pushout-is V (λ f g. pushout_of p t f g) _ (λ c a b f g F G. pushout_is p t c a b f g F G), tt)),
                            ),
                          ),
                        ),
                      ),
                    ),
                  ),
                ),
              ),
            ),
          ),
        ),
      )

-- what holds of the offers over all primes of the table holds of that of each number
pub of-each : (P : OfferData ObjData MorData → Type 0) → ((p : ℕ) (t : is_tabled p ≡ true) → P (vec_offer p t)) → (p : ℕ) → P (matrix_offer p)
unfolding matrix_offer
of-each P h p = go p (is_tabled p) refl
  where
    go : (q : ℕ) (b : Bool) (e : is_tabled q ≡ b) → P (by_test q b e)
    go q true e = h q e
    go q false e = h 2 refl

-- over a prime of the table the offer of the number is that over the prime
module _ (P : OfferData ObjData MorData → Type 0) (p : ℕ) (t : is_tabled p ≡ true) where
  same : (u : is_tabled p ≡ true) → t ≡ u
  same u = let one : IsProp (is_tabled p ≡ true) = hlevel props in one t u

  no : {Q : Type 0} → is_tabled p ≡ false → Q
  no e = absurd (let f : false ≡ true = sym e ∙ t in cc)

  pub to-number : P (vec_offer p t) → P (matrix_offer p)
  unfolding matrix_offer
  to-number h = go (is_tabled p) refl
    where
      go : (b : Bool) (e : is_tabled p ≡ b) → P (by_test p b e)
      go true e = subst (λ u. P (vec_offer p u)) (same e) h
      go false e = no e

  pub of-number : P (matrix_offer p) → P (vec_offer p t)
  unfolding matrix_offer
  of-number h = go (is_tabled p) refl h
    where
      go : (b : Bool) (e : is_tabled p ≡ b) → P (by_test p b e) → P (vec_offer p t)
      go true e k = subst (λ u. P (vec_offer p u)) (sym (same e)) k
      go false e k = no e

pub offer_is : (p : ℕ) → IsOffer (matrix_offer p)
offer_is p = of-each IsOffer (λ q t. is_offer (vec_data q) matrix_reading (vec_linear q t) (matrices_read q) Mat (vec_primitives q t) (vec_are q t)) p

pub offer_plain : (p : ℕ) → HasPlainEnds (matrix_offer p).category
offer_plain p = (offer_is p).plain_ends

pub offer_linear : (p : ℕ) → IsLinear (matrix_offer p).category
offer_linear p = (offer_is p).linear

pub offer_means : (p : ℕ) → PrimsMean (matrix_offer p)
offer_means p = (offer_is p).means

pub offer_one : (p : ℕ) → HasOneOutcome (matrix_offer p)
offer_one p = (offer_is p).one

pub offer_few : (p : ℕ) → HasFewObjects (matrix_offer p)
offer_few p = (offer_is p).few

pub offer_abelian : (p : ℕ) → IsAbelian (matrix_offer p).category
offer_abelian p = of-each (λ D. IsAbelian D.category) (λ q t. along_abelian (vec_data q) matrix_reading (vec_linear q t) (matrices_read q) (vec_abelian q t)) p

pub offer_kind : (p : ℕ) → (matrix_offer p).kind ≡ Mat
offer_kind p = of-each (λ D. D.kind ≡ Mat) (λ q t. refl) p

pub offer_weights : (p : ℕ) → (matrix_offer p).weight ≡ offered_weight Mat
offer_weights p = of-each (λ D. D.weight ≡ offered_weight Mat) (λ q t. refl) p

pub offer_prime : (p : ℕ) → is_tabled p ≡ true → prime_of (matrix_offer p) ≡ p
offer_prime p t = to-number (λ D. prime_of D ≡ p) p t refl
