use Rattle.std.proofs.Common.{◌≡◌, ◌∙◌, subst}
use Rattle.cap_ops.specs.Primitives.{prime_of}
use Rattle.cap_vec_offer.specs.Offer.{matrix_offer}
use Rattle.cap_vec_offer.specs.Members.{offer_prime}
use Rattle.cap_vec_offer.proofs.offer.VecOfferOffer.field.Goals as goal

pub returns-clause-prime : goal.returns-clause-prime
returns-clause-prime c = subst (λ p. prime_of (matrix_offer p) ≡ c.field.result) c.self.view_is (offer_prime c.self.inside.cat.field c.self.inside.cat.tabled ∙ c.field.ensures)
