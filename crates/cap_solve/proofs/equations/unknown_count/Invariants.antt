use Rattle.std.proofs.Common.{◌≡◌, ◌-◌, ◌^◌, min, take}
use Rattle.cap_solve_laws.specs.Systems.{unknowns_width}
use Rattle.cap_solve.proofs.equations.unknown_count.Given as goal

abbrev pub invariant-loop-from : goal.invariant-loop-from
invariant-loop-from g l = l.count ≡ min (unknowns_width (g.C.HomFp.hom l.c) (take l.from-index l.unknowns)) (2 ^ 32 - 1)
