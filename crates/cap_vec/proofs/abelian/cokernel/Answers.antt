use Rattle.std.proofs.Common.{◌≡◌, Err, sym, subst, rules, inl, Result}
use Rattle.cap_matrix.specs.Grid.{Grid, transposed_of, IsMatrix}
use Rattle.cap_matrix.proofs.Transpose.{transposed-matrix}
use Rattle.cap_reduce.proofs.NullBasis.{matrix-ends}
use Rattle.cap_laws.specs.declared.faults.CatFault.{CatFault}
use Rattle.cap_laws.specs.Answers.{Answers, Size, Fits}
use Rattle.cap_laws.proofs.Sizes.{answers-after}
use Rattle.cap_vec.specs.Members.{kernel_of, cokernel_of}
use Rattle.cap_vec.specs.Sizes.{IsSizeOf, IsSizeInKernel, IsSizeInCokernel}
use Rattle.cap_vec.proofs.Faults.{fault_of}
use Rattle.cap_vec.proofs.abelian.cokernel.Goals as goal

pub kernel-requires : goal.kernel-requires
kernel-requires c = subst (λ (g : Grid). IsMatrix c.args.field g) (sym c.in_ok-turned.ensures.answer.0) (transposed-matrix (matrix-ends c.requires)).is

pub returns-in_err-turned : goal.returns-in_err-turned
returns-in_err-turned c = λ t.
    let p = c.args.field in
    let f = c.args.f.now in
    let is : c.from_residual.result ≡ Err c.in_err-turned.field-0.0 = search rules in
    subst (λ (r : Result Grid CatFault). Answers (IsSizeInCokernel p t f) (λ x. x ≡ cokernel_of p t f) r) (sym is)
    (fault_of (IsSizeInCokernel p t f) (IsSizeOf (transposed_of f)) (λ x. x ≡ cokernel_of p t f) (λ x. x ≡ transposed_of f) c.in_err-turned.field-0.0
    (λ s m. inl (inl m)) c.in_err-turned.ensures.answer)

pub returns-in_err-rows : goal.returns-in_err-rows
returns-in_err-rows c = λ t.
    let p = c.args.field in
    let f = c.args.f.now in
    let is : c.from_residual-in_err-rows.result ≡ Err c.in_err-rows.field-0.0 = search rules in
    let fault = subst (λ (g : Grid). Answers (IsSizeInKernel p t g) (λ x. x ≡ kernel_of p t g) (Err c.in_err-rows.field-0.0)) c.in_ok-turned.ensures.answer.0 (c.in_err-rows.ensures t) in
    subst (λ (r : Result Grid CatFault). Answers (IsSizeInCokernel p t f) (λ x. x ≡ cokernel_of p t f) r) (sym is)
    (fault_of (IsSizeInCokernel p t f) (IsSizeInKernel p t (transposed_of f)) (λ x. x ≡ cokernel_of p t f) (λ x. x ≡ kernel_of p t (transposed_of f)) c.in_err-rows.field-0.0
    (λ s m. inl m) fault)

pub returns : goal.returns
returns c = λ t.
    let p = c.args.field in
    let f = c.args.f.now in
    let made = subst (λ (g : Grid). (c.in_ok-rows.rows ≡ kernel_of p t g) × ((s : Size) → IsSizeInKernel p t g s → Fits s)) c.in_ok-turned.ensures.answer.0 (c.in_ok-rows.ensures t) in
    let last = subst (λ (g : Grid). Answers (IsSizeOf (transposed_of g)) (λ x. x ≡ transposed_of g) c.transposed-2.result) made.0 c.transposed-2.ensures.answer in
    answers-after (IsSizeInKernel p t (transposed_of f)) (IsSizeOf (cokernel_of p t f)) (λ x. x ≡ cokernel_of p t f) (λ x. x ≡ cokernel_of p t f) made.1 (λ x e. e) c.transposed-2.result last
