use Rattle.std.proofs.Common.{◌≡◌, ◌∙◌, sym, ap, refl, append_assoc, arith}
use Rattle.cap_block_faults.proofs.Each.{each_more, each_more_at, two, three}
use Rattle.cap_block_faults.specs.Literals.{entry_item}
use Rattle.cap_block_faults.proofs.literals.put_row.Goals as goal

pub entries-preserved : goal.entries-preserved
entries-preserved c = each_more (entry_item c.args.coeffs) _ _ _ _ _ c.entry-item.result c.entries-test.true c.entry-item.is c.entries.invariant c.in_ok-put_entry.ensures
