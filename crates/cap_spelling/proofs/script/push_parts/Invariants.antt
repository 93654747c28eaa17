use Rattle.std.proofs.Common.{◌≡◌, ◌++◌, take}
use Rattle.std.specs.List.{flat_map}
use Rattle.cap_spelling.specs.Spelling.{part_of_script_symbols}
use Rattle.cap_spelling.proofs.script.push_parts.Given as goal

abbrev pub invariant-parts : goal.invariant-parts
invariant-parts l = l.out.items ≡ l.fn.out.items ++ flat_map (λ x. part_of_script_symbols x.node) (take l.part-index l.parts)
