use Rattle.std.proofs.Common.{◌≡◌, ℕ, ◌<◌}
use Rattle.cap_laws.specs.Linear.{Arrow}
use Rattle.cap_laws.specs.Answers.{Size, Fits}
use Rattle.cap_solve_laws.proofs.WeakKernels.{kept_of, first_morphisms}
use Rattle.cap_solve.proofs.Kept.{sum_meets, sum_data}
use Rattle.cap_solve.specs.Sizes.{IsSizeAtGenerator}
use Rattle.cap_solve.proofs.weak_kernels.weak_kernel.Given as goal

abbrev pub invariant-loop-number : goal.invariant-loop-number
invariant-loop-number g l =
    let C = g.C.Cat.category l.c in
    let H = g.C.HomFp.hom l.c in
    let V = sum_meets (g.C.Additive.zero_object_meets l.c) (g.C.Cat.identity_meets l.c) (g.C.Preadditive.zero_meets l.c) (g.C.Preadditive.add_meets l.c) (g.C.Cat.compose_meets l.c) (g.C.Additive.direct_sum_meets l.c) in
    let Z = sum_data (g.C.Additive.zero_object_of l.c) (g.C.Additive.sum_of l.c) in
    let first = C.zero Z.zero_object (C.source l.f) in
    record {
      kept : l.kept ≡ kept_of C H Z first (first_morphisms C H l.f l.number);
      arrow : Arrow C (C.source l.kept) (C.source l.f) l.kept;
      sizes : (n : ℕ) → n < l.number → (s : Size) → IsSizeAtGenerator V (g.C.HomFp.hom_meets l.c) C H Z l.f n (kept_of C H Z first (first_morphisms C H l.f n)) s → Fits s;
    }
