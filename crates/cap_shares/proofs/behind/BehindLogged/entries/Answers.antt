use Rattle.std.proofs.Common.{◌≤◌, length, ap, arith}
use Rattle.cap_data.specs.Counts.{cells_in_object, cells_in_morphism}
use Rattle.cap_offer.specs.Labels.{any_offer}
use Rattle.cap_history.specs.Replies.{most_entries}
use Rattle.cap_desk.specs.Books.{frame}
use Rattle.cap_shares.proofs.Short.{legal-short}
use Rattle.cap_shares.proofs.behind.BehindLogged.entries.Goals as goal

pub overflow_cast-result : goal.overflow_cast-result
overflow_cast-result c =
    let ledger = c.args.self.now.ledger in
    let short : length ledger.entries ≤ most_entries = legal-short (frame (any_offer ledger.offer) cells_in_object cells_in_morphism) ledger.entries c.history.ensures.legal in
    omega (arith, short, ap length c.history.ensures.is)
