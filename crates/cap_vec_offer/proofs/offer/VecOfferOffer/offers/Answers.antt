use Rattle.std.proofs.Common.{sym, ap, ◌∙◌}
use Rattle.cap_vec_offer.specs.Members.{offer_weights}
use Rattle.cap_vec_offer.proofs.offer.VecOfferOffer.offers.Goals as goal

pub returns : goal.returns
returns c = c.default_weight.ensures ∙ sym (ap (λ w. w c.args.op.0) (offer_weights c.args.self.now))
