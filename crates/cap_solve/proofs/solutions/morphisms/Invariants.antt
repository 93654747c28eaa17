use Rattle.std.proofs.Common.{◌≡◌, take, drop}
use Rattle.cap_solve_laws.specs.Systems.{unknowns_width, morphisms_of}
use Rattle.cap_solve.proofs.Faults.{FitSoFar}
use Rattle.cap_solve.proofs.solutions.morphisms.Given as goal

abbrev pub invariant-loop-from : goal.invariant-loop-from
invariant-loop-from g l = record {
  start : l.start ≡ unknowns_width (g.C.HomFp.hom l.c) (take l.from-index l.unknowns);
  xs : l.xs.items ≡ morphisms_of (g.C.HomFp.hom l.c) (take l.from-index l.unknowns) l.row;
  sizes : FitSoFar l.unknowns
      (λ n e. (g.C.HomFp.hom_meets l.c).back e.0 e.1 (take ((g.C.HomFp.hom l.c).dim e.0 e.1) (drop (unknowns_width (g.C.HomFp.hom l.c) (take n l.unknowns)) l.row))) l.from-index;
}
