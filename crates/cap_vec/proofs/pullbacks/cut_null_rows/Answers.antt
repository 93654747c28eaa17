use Rattle.std.proofs.Common.{◌≡◌, ℕ, ◌+◌, ◌∙◌, Err, ap, sym, subst, rules, Result}
use Rattle.cap_matrix.specs.Grid.{Grid, IsMatrix}
use Rattle.cap_laws.specs.declared.faults.CatFault.{CatFault}
use Rattle.cap_laws.specs.Answers.{Answers, Size, Fits}
use Rattle.cap_vec_laws.specs.Vec.{stacked_difference, first_columns, last_columns}
use Rattle.cap_vec.specs.Members.{kernel_of}
use Rattle.cap_vec_laws.proofs.Members.{kernel_of-is}
use Rattle.cap_vec.specs.Sizes.{IsSizeInKernel, IsSizeInPair, pullback_of}
use Rattle.cap_vec.proofs.Faults.{fault_of, answers_kept}
use Rattle.cap_vec.proofs.PullbackLaws.{difference_is}
use Rattle.cap_vec.proofs.pullbacks.cut_null_rows.Goals as goal

pub kernel-requires : goal.kernel-requires
kernel-requires c =
    let p = c.args.field in
    subst (λ (y : Grid). IsMatrix p y) (sym c.in_ok-stacked.ensures.0) (difference_is p c.prime.ensures.tabled c.args.f.now c.args.g.now c.requires.f c.requires.g c.requires.targets).is

pub returns-in_err-rows : goal.returns-in_err-rows
returns-in_err-rows c = λ t.
    let p = c.args.field in
    let f = c.args.f.now in
    let g = c.args.g.now in
    let d = stacked_difference f g in
    let e = c.in_err-rows.field-0.0 in
    let right = λ (x : Grid × Grid). (x ≡ pullback_of p t f g) × ((s : Size) → IsSizeInPair (pullback_of p t f g) s → Fits s) in
    let is : c.from_residual-in_err-rows.result ≡ Err e = search rules in
    let fault = subst (λ (y : Grid). Answers (IsSizeInKernel p t y) (λ x. x ≡ kernel_of p t y) (Err e)) c.in_ok-stacked.ensures.0 (c.in_err-rows.ensures t) in
    subst (λ (r : Result (Grid × Grid) CatFault). Answers (IsSizeInKernel p t d) right r) (sym is)
    (fault_of (IsSizeInKernel p t d) (IsSizeInKernel p t d) right (λ x. x ≡ kernel_of p t d) e (λ s m. m) fault)

pub cut-requires : goal.cut-requires
cut-requires c =
    let p = c.args.field in
    let t = c.prime.ensures.tabled in
    let f = c.args.f.now in
    let g = c.args.g.now in
    let d = stacked_difference f g in
    let D = (difference_is p t f g c.requires.f c.requires.g c.requires.targets).is in
    let rows = subst (λ (y : Grid). (c.in_ok-rows.rows ≡ kernel_of p t y) × ((s : Size) → IsSizeInKernel p t y s → Fits s)) c.in_ok-stacked.ensures.0 (c.in_ok-rows.ensures t) in
    ap (λ (y : Grid). y.column_count) rows.0 ∙ (kernel_of-is p t d D).width ∙ ap (λ n. n + g.row_count) (sym c.source.ensures) ∙ ap (λ n. c.source.result.now + n) (sym c.source-2.ensures)

pub returns : goal.returns
returns c = λ t.
    let p = c.args.field in
    let f = c.args.f.now in
    let g = c.args.g.now in
    let d = stacked_difference f g in
    let n = kernel_of p t d in
    let rows = subst (λ (y : Grid). (c.in_ok-rows.rows ≡ kernel_of p t y) × ((s : Size) → IsSizeInKernel p t y s → Fits s)) c.in_ok-stacked.ensures.0 (c.in_ok-rows.ensures t) in
    let pair = λ (a b : ℕ) (y : Grid). let z : Grid × Grid = (first_columns a y, last_columns a b y) in z in
    let e = ap (λ y. pair c.source.result.now c.source-2.result.now y) rows.0 ∙ ap (λ a. pair a c.source-2.result.now n) c.source.ensures ∙ ap (λ b. pair f.row_count b n) c.source-2.ensures in
    answers_kept (IsSizeInKernel p t d) (IsSizeInPair (pullback_of p t f g)) (λ x. x ≡ pullback_of p t f g) c.cut.result rows.1
    (subst (λ (v : Grid × Grid). Answers (IsSizeInPair v) (λ x. x ≡ v) c.cut.result) e c.cut.ensures.answer) c.cut.ensures.fault
