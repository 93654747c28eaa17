use Rattle.std.proofs.Common.{◌≡◌, ◌-◌, ◌*◌, ◌%◌, ◌^◌, ◌<◌, ◌≤◌}
use Rattle.cap_field.proofs.Field.inv.Given as goal

abbrev pub invariant-loop-left : goal.invariant-loop-left
invariant-loop-left l = record {
  small : l.p ≤ 251;
  product_below : l.product < l.p;
  base_below : l.base < l.p;
  power : (l.product * l.base ^ l.left) % l.p ≡ (l.a ^ (l.p - 2)) % l.p;
}

abbrev pub decreases-loop-left : goal.decreases-loop-left
decreases-loop-left l = l.left
