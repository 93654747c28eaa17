use Rattle.std.proofs.Common.{◌≡◌, map, take}
use Rattle.cap_checked.specs.Checked.{map_at_path}
use Rattle.cap_checked.proofs.objects.maps_at_paths.Given as goal

abbrev pub invariant-maps : goal.invariant-maps
invariant-maps l = l.checked.items ≡ map (map_at_path l.names) (take l.map-index l.maps)
