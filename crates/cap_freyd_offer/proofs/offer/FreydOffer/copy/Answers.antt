use Rattle.std.proofs.Common.{◌∙◌}
use Rattle.cap_freyd_offer.proofs.offer.FreydOffer.copy.Goals as goal

pub returns : goal.returns
returns c = c.new.ensures ∙ c.in_ok-table.ensures ∙ c.table.ensures
