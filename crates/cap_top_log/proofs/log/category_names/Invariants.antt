use Rattle.std.proofs.Common.{◌≡◌, ◌++◌, drop}
use Rattle.cap_top_log.specs.Log.{category_names}
use Rattle.cap_top_log.proofs.log.category_names.Given as goal

abbrev pub invariant-parts : goal.invariant-parts
invariant-parts l = l.names.items ++ category_names (drop l.part-index l.prelude) ≡ category_names l.prelude
