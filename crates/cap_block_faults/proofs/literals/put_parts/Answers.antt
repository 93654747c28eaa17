use Rattle.std.proofs.Common.{◌≡◌, ◌∙◌, sym, ap, refl, append_assoc, arith}
use Rattle.cap_block_faults.proofs.Each.{each_more, each_more_at, two, three}
use Rattle.cap_block_faults.specs.Literals.{part_item}
use Rattle.cap_block_faults.proofs.literals.put_parts.Goals as goal

pub names-preserved : goal.names-preserved
names-preserved c = each_more (part_item c.args.objects.now) _ _ _ _ _ c.index-names-i.result c.names-test.true c.index-names-i.is c.names.invariant (cc (c.in_ok-put.ensures, c.part_mark.ensures))
