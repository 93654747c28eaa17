use Rattle.std.proofs.Common.{◌≡◌, ◌∙◌, sym, ap, refl, append_assoc, arith}
use Rattle.cap_block_faults.proofs.Each.{each_more, each_more_at, two, three}
use Rattle.cap_block_faults.specs.Blocks.{new_object}
use Rattle.cap_block_faults.proofs.blocks.put_objects.Goals as goal

pub names-preserved : goal.names-preserved
names-preserved c = each_more (new_object c.args.names.now) _ _ _ _ _ c.index-names-i.result c.names-test.true c.index-names-i.is c.names.invariant (grind (arith, c.in_ok-put.ensures, c.new_object_mark.ensures))
