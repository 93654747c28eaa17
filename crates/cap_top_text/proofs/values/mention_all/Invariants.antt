use Rattle.std.proofs.Common.{◌≡◌, ◌++◌, drop, map}
use Rattle.std.specs.List.{flat_map}
use Rattle.cap_top_text.specs.Values.{ends_of, new_objects, seen_behind}
use Rattle.cap_top_text.proofs.values.mention_all.Given as goal

abbrev pub invariant-arrows : goal.invariant-arrows
invariant-arrows l = record {
  text : l.out.items ++ new_objects l.home (map (λ x. x.now) l.objects) l.seen (flat_map ends_of (drop l.arrow-index l.arrows)) ≡ l.fn.out.items ++ new_objects l.home (map (λ x. x.now) l.objects) l.fn.seen (flat_map ends_of l.arrows);
  seen : seen_behind l.home l.seen (flat_map ends_of (drop l.arrow-index l.arrows)) ≡ seen_behind l.home l.fn.seen (flat_map ends_of l.arrows);
}
