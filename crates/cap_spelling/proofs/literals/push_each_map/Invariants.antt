use Rattle.std.proofs.Common.{◌≡◌, ◌++◌, take}
use Rattle.std.specs.List.{flat_map}
use Rattle.cap_spelling.specs.Spelling.{map_symbols}
use Rattle.cap_spelling.proofs.literals.push_each_map.Given as goal

abbrev pub invariant-maps : goal.invariant-maps
invariant-maps l = l.out.items ≡ l.fn.out.items ++ flat_map map_symbols (take l.map-index l.maps)
