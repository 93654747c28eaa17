use Rattle.std.proofs.Common.{◌≡◌, ◌++◌, take}
use Rattle.std.specs.List.{flat_map}
use Rattle.cap_spelling.specs.Spelling.{name_symbols}
use Rattle.cap_spelling.proofs.words.push_names.Given as goal

abbrev pub invariant-names : goal.invariant-names
invariant-names l = l.out.items ≡ l.fn.out.items ++ flat_map name_symbols (take l.name-index l.names)
