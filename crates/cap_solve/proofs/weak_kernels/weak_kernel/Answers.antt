use Rattle.std.proofs.Common.{◌≡◌, ◌⊎◌, ◌<◌, inl, inr, refl, sym, ap, ◌∙◌, subst, arith}
use Rattle.cap_laws.specs.Linear.{Arrow}
use Rattle.cap_laws.specs.Answers.{Answers, Size, Fits}
use Rattle.cap_solve_laws.proofs.WeakKernels.{kept_of, first_morphisms, null_morphisms, weak_kernel_of}
use Rattle.cap_solve.specs.Sizes.{IsSizeAtGenerator, IsSizeInGenerators, IsSizeInWeakKernel}
use Rattle.cap_solve.proofs.Faults.{err-is, fault_of, either_fits}
use Rattle.cap_solve.proofs.Kept.{sum_meets, sum_data, below-next, generators-next}
use Rattle.cap_solve.proofs.weak_kernels.weak_kernel.Goals as goal

pub zero-requires-clause-left : goal.zero-requires-clause-left
zero-requires-clause-left g c =
    let q = c.args.c.now in
    subst (λ x. (g.C.Cat.category q).is_object x) (sym c.in_ok-zero_object.ensures.0) (g.met.C.Additive.zero_object_is q).object

pub zero-requires-clause-right : goal.zero-requires-clause-right
zero-requires-clause-right g c =
    let q = c.args.c.now in
    subst (λ x. (g.C.Cat.category q).is_object x) (sym c.source.ensures) ((g.met.C.Cat.linear q).source_object c.args.f.now c.requires)

pub keep_generator-requires-clause-number : goal.keep_generator-requires-clause-number
keep_generator-requires-clause-number g c = omega (arith, c.loop-number-test.true, c.generators-number-end.ensures)

pub keep_generator-requires-clause-kept : goal.keep_generator-requires-clause-kept
keep_generator-requires-clause-kept g c = c.loop-number.invariant.arrow.is

pub keep_generator-requires-clause-target : goal.keep_generator-requires-clause-target
keep_generator-requires-clause-target g c = c.loop-number.invariant.arrow.to

pub loop-number-init : goal.loop-number-init
loop-number-init g c =
    let q = c.args.c.now in
    let C = g.C.Cat.category q in
    let L = g.met.C.Cat.linear q in
    let z = g.C.Additive.zero_object_of q in
    let f = c.args.f.now in
    let a = C.source f in
    let made = c.in_ok-kept.ensures.0 ∙ ap (λ x. C.zero x c.source.result.now) c.in_ok-zero_object.ensures.0 ∙ ap (λ x. C.zero z x) c.source.ensures in
    let G = subst (λ m. Arrow C z a m) (sym made) (L.zero_arrow z a (g.met.C.Additive.zero_object_is q).object (L.source_object f c.requires)) in
    record {
      kept = made;
      arrow = record { is = G.is; from = refl; to = G.to };
      sizes = λ n lt s m. absurd (omega (arith, lt));
    }

pub loop-number-preserved : goal.loop-number-preserved
loop-number-preserved g c =
    let q = c.args.c.now in
    let C = g.C.Cat.category q in
    let H = g.C.HomFp.hom q in
    let W = g.C.HomFp.hom_meets q in
    let V = sum_meets (g.C.Additive.zero_object_meets q) (g.C.Cat.identity_meets q) (g.C.Preadditive.zero_meets q) (g.C.Preadditive.add_meets q) (g.C.Cat.compose_meets q) (g.C.Additive.direct_sum_meets q) in
    let Z = sum_data (g.C.Additive.zero_object_of q) (g.C.Additive.sum_of q) in
    let f = c.args.f.now in
    let n = c.loop-number.number in
    let first = C.zero Z.zero_object (C.source f) in
    let answer = c.in_ok-kept-2.ensures in
    record {
      kept = answer.0.0 ∙ ap (λ k. kept_of C H Z k (null_morphisms C H f n)) c.loop-number.invariant.kept ∙ sym (generators-next C H Z f first n);
      arrow = answer.0.1;
      sizes = below-next (λ m. (s : Size) → IsSizeAtGenerator V W C H Z f m (kept_of C H Z first (first_morphisms C H f m)) s → Fits s) n c.loop-number.invariant.sizes
          (λ s m. answer.1 s (subst (λ k. IsSizeAtGenerator V W C H Z f n k s) (sym c.loop-number.invariant.kept) m));
    }

pub returns : goal.returns
returns g c =
    let q = c.args.c.now in
    let C = g.C.Cat.category q in
    let H = g.C.HomFp.hom q in
    let W = g.C.HomFp.hom_meets q in
    let V = sum_meets (g.C.Additive.zero_object_meets q) (g.C.Cat.identity_meets q) (g.C.Preadditive.zero_meets q) (g.C.Preadditive.add_meets q) (g.C.Cat.compose_meets q) (g.C.Additive.direct_sum_meets q) in
    let Z = sum_data (g.C.Additive.zero_object_of q) (g.C.Additive.sum_of q) in
    let f = c.args.f.now in
    let a = C.source f in
    let first = C.zero Z.zero_object a in
    let all : c.loop-number.number ≡ H.generators = omega (arith, c.loop-number-test.false, c.loop-number.auto.number-end, c.generators-number-end.ensures) in (
      c.loop-number.invariant.kept ∙ ap (λ m. kept_of C H Z first (first_morphisms C H f m)) all,
      either_fits (λ z. V.zero_object z ⊎ V.zero Z.zero_object a z) (IsSizeInGenerators V W C H Z f)
          (either_fits V.zero_object (V.zero Z.zero_object a) c.in_ok-zero_object.ensures.1
          (λ s m. c.in_ok-kept.ensures.1 s (subst (λ x. V.zero x c.source.result.now s) (sym c.in_ok-zero_object.ensures.0) (subst (λ y. V.zero Z.zero_object y s) (sym c.source.ensures) m))))
          (λ s m. c.loop-number.invariant.sizes m.number (omega (arith, all, m.below)) s m.meets),
    )

pub returns-in_err-zero_object : goal.returns-in_err-zero_object
returns-in_err-zero_object g c =
    let q = c.args.c.now in
    let C = g.C.Cat.category q in
    let H = g.C.HomFp.hom q in
    let W = g.C.HomFp.hom_meets q in
    let V = sum_meets (g.C.Additive.zero_object_meets q) (g.C.Cat.identity_meets q) (g.C.Preadditive.zero_meets q) (g.C.Preadditive.add_meets q) (g.C.Cat.compose_meets q) (g.C.Additive.direct_sum_meets q) in
    let Z = sum_data (g.C.Additive.zero_object_of q) (g.C.Additive.sum_of q) in
    let f = c.args.f.now in
    let e = c.in_err-zero_object.field-0.0 in
    let is = err-is c.from_residual.result e c.from_residual.ensures.1 in
    let right = λ (x : _). x ≡ weak_kernel_of C H Z f in
    subst (λ r. Answers (IsSizeInWeakKernel V W C H Z f) right r) (sym is)
    (fault_of (IsSizeInWeakKernel V W C H Z f) V.zero_object right (λ x. x ≡ Z.zero_object) e (λ s m. inl (inl m)) c.in_err-zero_object.ensures)

pub returns-in_err-kept : goal.returns-in_err-kept
returns-in_err-kept g c =
    let q = c.args.c.now in
    let C = g.C.Cat.category q in
    let H = g.C.HomFp.hom q in
    let W = g.C.HomFp.hom_meets q in
    let V = sum_meets (g.C.Additive.zero_object_meets q) (g.C.Cat.identity_meets q) (g.C.Preadditive.zero_meets q) (g.C.Preadditive.add_meets q) (g.C.Cat.compose_meets q) (g.C.Additive.direct_sum_meets q) in
    let Z = sum_data (g.C.Additive.zero_object_of q) (g.C.Additive.sum_of q) in
    let f = c.args.f.now in
    let z' = c.in_ok-zero_object.zero_object in
    let a' = c.source.result.now in
    let e = c.in_err-kept.field-0.0 in
    let is = err-is c.from_residual-in_err-kept.result e c.from_residual-in_err-kept.ensures.1 in
    let right = λ (x : _). x ≡ weak_kernel_of C H Z f in
    subst (λ r. Answers (IsSizeInWeakKernel V W C H Z f) right r) (sym is)
    (fault_of (IsSizeInWeakKernel V W C H Z f) (V.zero z' a') right (λ x. x ≡ C.zero z' a') e
    (λ s m. inl (inr (subst (λ y. V.zero Z.zero_object y s) c.source.ensures (subst (λ x. V.zero x a' s) c.in_ok-zero_object.ensures.0 m)))) c.in_err-kept.ensures)

pub returns-in_err-kept-2 : goal.returns-in_err-kept-2
returns-in_err-kept-2 g c =
    let q = c.args.c.now in
    let C = g.C.Cat.category q in
    let H = g.C.HomFp.hom q in
    let W = g.C.HomFp.hom_meets q in
    let V = sum_meets (g.C.Additive.zero_object_meets q) (g.C.Cat.identity_meets q) (g.C.Preadditive.zero_meets q) (g.C.Preadditive.add_meets q) (g.C.Cat.compose_meets q) (g.C.Additive.direct_sum_meets q) in
    let Z = sum_data (g.C.Additive.zero_object_of q) (g.C.Additive.sum_of q) in
    let f = c.args.f.now in
    let a = C.source f in
    let n = c.loop-number.number in
    let kept = c.loop-number.kept in
    let lt : n < H.generators = omega (arith, c.loop-number-test.true, c.generators-number-end.ensures) in
    let e = c.in_err-kept-2.field-0.0 in
    let is = err-is c.from_residual-in_err-kept-2.result e c.from_residual-in_err-kept-2.ensures.1 in
    let right = λ (x : _). x ≡ weak_kernel_of C H Z f in
    subst (λ r. Answers (IsSizeInWeakKernel V W C H Z f) right r) (sym is)
    (fault_of (IsSizeInWeakKernel V W C H Z f) (IsSizeAtGenerator V W C H Z f n kept) right (λ m. (m ≡ kept_of C H Z kept (null_morphisms C H f n)) × Arrow C (C.source m) a m) e
    (λ s m. inr (record { number = n; below = lt; meets = subst (λ k. IsSizeAtGenerator V W C H Z f n k s) c.loop-number.invariant.kept m })) c.in_err-kept-2.ensures)
