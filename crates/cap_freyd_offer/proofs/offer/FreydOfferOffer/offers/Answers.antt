use Rattle.std.proofs.Common.{sym, ap, ◌∙◌}
use Rattle.cap_lincat.specs.Tables.{table_in}
use Rattle.cap_freyd_offer.specs.Members.{freyd_weights}
use Rattle.cap_freyd_offer.proofs.offer.FreydOfferOffer.offers.Goals as goal

pub returns : goal.returns
returns c = c.default_weight.ensures ∙ sym (ap (λ w. w c.args.op.0) (freyd_weights (table_in c.args.self.now)))
