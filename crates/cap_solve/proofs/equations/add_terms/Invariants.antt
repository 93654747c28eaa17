use Rattle.std.proofs.Common.{take}
use Rattle.std.specs.List.{sum_by}
use Rattle.cap_solve_laws.specs.Systems.{unknowns_width}
use Rattle.cap_solve.specs.Blocks.{IsBlockAdded}
use Rattle.cap_solve.proofs.Entries.{term_entry}
use Rattle.cap_solve.proofs.Faults.{FitSoFar}
use Rattle.cap_solve.proofs.equations.add_terms.Given as goal

abbrev pub invariant-loop-term : goal.invariant-loop-term
invariant-loop-term g l =
    let C = g.C.Cat.category l.c in
    let H = g.C.HomFp.hom l.c in
    let n = H.dim (C.source l.equation.value) (C.target l.equation.value) in
    record {
      added : IsBlockAdded C.prime l.columns.width l.initial.cells l.cells 0 l.columns.start (unknowns_width H l.unknowns) n
          (λ i j. sum_by (term_entry C H l.unknowns n i j) (take l.term-index l.term-items));
      sizes : FitSoFar l.term-items (λ _ t. (g.C.HomFp.hom_meets l.c).h t.left t.right) l.term-index;
    }
