use Rattle.std.proofs.Common.{◌≡◌, sym, ◌∙◌, rules}
use Rattle.cap_rules.specs.Table.{rule_table}
use Rattle.cap_vec_offer.specs.Offer.{matrix_offer}
use Rattle.cap_list_board.proofs.Readied.{new-bench}
use Rattle.cap_list_board.proofs.tests.benches.open.Goals as goal

pub returns-clause-is : goal.returns-clause-is
returns-clause-is g c =
    let own : c.expect-board_rules.result ≡ rule_table = search rules in
    let other : c.expect-call_rules.result ≡ rule_table = search rules in
    new-bench matrix_offer c.new-board.result c.new-first.result c.new-offer.result c.expect-board_rules.result c.expect-call_rules.result c.args.limit c.new-board.ensures.is c.new-board.ensures.holds (c.new-first.ensures ∙ sym c.new-offer.ensures) own other
