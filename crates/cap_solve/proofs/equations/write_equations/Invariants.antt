use Rattle.std.proofs.Common.{◌≡◌, ◌⊎◌, ℕ, ◌<◌, ◌≤◌, get_or, take}
use Rattle.cap_matrix.specs.Grid.{entry}
use Rattle.cap_reduce.specs.Flat.{cell}
use Rattle.cap_solve_laws.specs.Systems.{unknowns_width, values_width, system_matrix, values_row}
use Rattle.cap_solve.specs.Sizes.{OneMeets}
use Rattle.cap_solve.proofs.Faults.{FitSoFar}
use Rattle.cap_solve.proofs.equations.write_equations.Given as goal

abbrev pub invariant-loop-equation : goal.invariant-loop-equation
invariant-loop-equation g l =
    let C = g.C.Cat.category l.c in
    let H = g.C.HomFp.hom l.c in
    let W = g.C.HomFp.hom_meets l.c in
    record {
      start : l.start ≡ values_width C H (take l.equation-index l.equations);
      values : l.values.items ≡ values_row H (take l.equation-index l.equations);
      inside : (a j : ℕ) → a < unknowns_width H l.unknowns → j < l.start → cell l.cells l.width a j ≡ entry (system_matrix C H l.unknowns l.equations).entries a j;
      after : (a j : ℕ) → a < unknowns_width H l.unknowns → l.start ≤ j → j < l.width → cell l.cells l.width a j ≡ 0;
      small : (k : ℕ) → get_or l.cells k 0 < C.prime;
      sizes : FitSoFar l.equations (λ _ e z. OneMeets e.terms (λ t. W.h t.left t.right z) ⊎ W.nu e.value z) l.equation-index;
    }
