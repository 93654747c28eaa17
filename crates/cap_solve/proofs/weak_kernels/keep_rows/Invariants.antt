use Rattle.std.proofs.Common.{◌≡◌, ℕ, ◌<◌, map, take}
use Rattle.cap_laws.specs.Linear.{Arrow}
use Rattle.cap_laws.specs.Answers.{Size, Fits}
use Rattle.cap_solve_laws.proofs.WeakKernels.{kept_of}
use Rattle.cap_solve.proofs.Kept.{sum_meets, sum_data}
use Rattle.cap_solve.specs.Sizes.{IsSizeAtRow}
use Rattle.cap_solve.proofs.weak_kernels.keep_rows.Given as goal

abbrev pub invariant-loop-i : goal.invariant-loop-i
invariant-loop-i g l =
    let C = g.C.Cat.category l.c in
    let H = g.C.HomFp.hom l.c in
    let V = sum_meets (g.C.Additive.zero_object_meets l.c) (g.C.Cat.identity_meets l.c) (g.C.Preadditive.zero_meets l.c) (g.C.Preadditive.add_meets l.c) (g.C.Cat.compose_meets l.c) (g.C.Additive.direct_sum_meets l.c) in
    let Z = sum_data (g.C.Additive.zero_object_of l.c) (g.C.Additive.sum_of l.c) in
    let x = C.source l.unit in
    let a = C.source l.f in
    record {
      kept : l.kept ≡ kept_of C H Z l.initial.kept (map (λ r. H.back x a r) (take l.i l.rows.entries));
      arrow : Arrow C (C.source l.kept) a l.kept;
      sizes : (n : ℕ) → n < l.i → (s : Size) → IsSizeAtRow V (g.C.HomFp.hom_meets l.c) C H Z x a l.initial.kept l.rows.entries n s → Fits s;
    }
