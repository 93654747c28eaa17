use Rattle.std.proofs.Common.{sym}
use Rattle.cap_vec_offer.specs.Members.{offer_kind}
use Rattle.cap_vec_offer.proofs.offer.VecOfferOffer.kind.Goals as goal

pub returns : goal.returns
returns c = sym (offer_kind c.args.self.now)
