use Rattle.std.proofs.Common.{◌∙◌, sym, ap}
use Rattle.cap_lincat.specs.Tables.{table_in}
use Rattle.cap_lincat.specs.declared.table.LinTable.{LinTable}
use Rattle.cap_freyd_offer.specs.Members.{freyd_prime}
use Rattle.cap_freyd_offer.proofs.offer.FreydOfferOffer.field.Goals as goal

pub returns-clause-prime : goal.returns-clause-prime
returns-clause-prime c = freyd_prime (table_in c.args.self.now) ∙ ap (λ (t : LinTable). t.field) (sym c.self.view_is) ∙ c.field.ensures
