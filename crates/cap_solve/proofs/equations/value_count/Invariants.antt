use Rattle.std.proofs.Common.{◌≡◌, ◌-◌, ◌^◌, min, take}
use Rattle.cap_solve_laws.specs.Systems.{values_width}
use Rattle.cap_solve.proofs.equations.value_count.Given as goal

abbrev pub invariant-loop-equation : goal.invariant-loop-equation
invariant-loop-equation g l = l.count ≡ min (values_width (g.C.Cat.category l.c) (g.C.HomFp.hom l.c) (take l.equation-index l.equations)) (2 ^ 32 - 1)
