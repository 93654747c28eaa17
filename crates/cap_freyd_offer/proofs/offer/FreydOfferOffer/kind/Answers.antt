use Rattle.std.proofs.Common.{sym}
use Rattle.cap_lincat.specs.Tables.{table_in}
use Rattle.cap_freyd_offer.specs.Members.{freyd_kind}
use Rattle.cap_freyd_offer.proofs.offer.FreydOfferOffer.kind.Goals as goal

pub returns : goal.returns
returns c = sym (freyd_kind (table_in c.args.self.now))
