use Rattle.std.proofs.Common.{◌≡◌, ◌∙◌, sym, ap, refl, append_assoc, arith}
use Rattle.cap_block_faults.proofs.Each.{each_more, each_more_at, two, three}
use Rattle.cap_block_faults.specs.Blocks.{path_item}
use Rattle.cap_block_faults.proofs.blocks.put_path.Goals as goal

pub names-preserved : goal.names-preserved
names-preserved c = each_more (path_item c.args.lines.now c.args.star c.args.whole) _ _ _ _ _ c.index-path-i.result c.names-test.true c.index-path-i.is c.names.invariant (grind (arith, append_assoc, c.in_ok-put.ensures, c.in_ok-put_separator.ensures, c.path_mark.ensures))
