use Rattle.std.proofs.Common.{sym, ap, ◌∙◌}
use Rattle.cap_lincat.specs.Tables.{table_in}
use Rattle.cap_add_offer.specs.Members.{list_weights}
use Rattle.cap_add_offer.proofs.offer.ListOfferOffer.offers.Goals as goal

pub returns : goal.returns
returns c = c.default_weight.ensures ∙ sym (ap (λ w. w c.args.op.0) (list_weights (table_in c.args.self.now)))
