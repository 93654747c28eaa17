use Rattle.std.proofs.Common.{◌≡◌, ◌∙◌, sym, ap, refl, append_assoc, arith}
use Rattle.cap_block_faults.proofs.Each.{each_more, each_more_at, two, three}
use Rattle.cap_block_faults.specs.Literals.{map_item}
use Rattle.cap_block_faults.proofs.literals.put_maps.Goals as goal

pub maps-preserved : goal.maps-preserved
maps-preserved c = each_more (map_item c.args.lines.now c.args.table c.args.maps.now) _ _ _ _ _ c.index-maps-i.result c.maps-test.true c.index-maps-i.is c.maps.invariant (grind (arith, append_assoc, c.told-star.ensures, c.has_map.ensures, c.told-whole.ensures, c.as_slice.ensures, c.in_ok-put_path.ensures, c.in_ok-put.ensures, c.in_ok-put_rows.ensures))
