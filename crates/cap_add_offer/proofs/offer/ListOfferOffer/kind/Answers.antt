use Rattle.std.proofs.Common.{sym}
use Rattle.cap_lincat.specs.Tables.{table_in}
use Rattle.cap_add_offer.specs.Members.{list_kind}
use Rattle.cap_add_offer.proofs.offer.ListOfferOffer.kind.Goals as goal

pub returns : goal.returns
returns c = sym (list_kind (table_in c.args.self.now))
