use Rattle.std.proofs.Common.{◌≡◌, map, take}
use Rattle.cap_laws.specs.NullCategory.{between}
use Rattle.cap_laws.proofs.examples.null.NullCategoryLifts.solve_system.Given as goal

abbrev pub invariant-loop-from : goal.invariant-loop-from
invariant-loop-from l = l.solution.items ≡ map between (take l.from-index l.s.unknowns)
