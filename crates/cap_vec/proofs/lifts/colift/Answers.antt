use Rattle.std.proofs.Common.{◌≡◌, ◌∙◌, sym, ap, subst, inl, Err, Option}
use Rattle.std.specs.Prelude.{Some}
use Rattle.cap_matrix.specs.Grid.{Grid, IsMatrix, transposed_of}
use Rattle.cap_matrix.proofs.Transpose.{transposed-matrix}
use Rattle.cap_reduce.proofs.NullBasis.{matrix-ends}
use Rattle.cap_laws.specs.Answers.{Answers, Size, Fits}
use Rattle.cap_vec_laws.specs.Vec.{map_option}
use Rattle.cap_vec.specs.Members.{lift_of, colift_of}
use Rattle.cap_vec.specs.Sizes.{IsSizeOfSome, IsSizeInLift, IsSizeInColift}
use Rattle.cap_vec.proofs.Faults.{fault_of, either_fits}
use Rattle.cap_vec.proofs.lifts.colift.Goals as goal

pub lift-requires-clause-x : goal.lift-requires-clause-x
lift-requires-clause-x c = subst (λ (g : Grid). IsMatrix c.args.field g) (sym c.in_ok-turned_x.ensures.answer.0) (transposed-matrix (matrix-ends c.requires.x)).is

pub lift-requires-clause-f : goal.lift-requires-clause-f
lift-requires-clause-f c = subst (λ (g : Grid). IsMatrix c.args.field g) (sym c.in_ok-turned_f.ensures.answer.0) (transposed-matrix (matrix-ends c.requires.f)).is

pub returns-in-Ok : goal.returns-in-Ok
returns-in-Ok c = λ t.
    let p = c.args.field in
    let f = c.args.f.now in
    let x = c.args.x.now in
    let o = c.in-Ok-Some.field-0 in
    let tf = c.in_ok-turned_f.turned_f in
    let first = subst (λ (g : Grid). (o ≡ lift_of p t g tf) × ((s : Size) → IsSizeInLift p t g tf s → Fits s)) c.in_ok-turned_x.ensures.answer.0 (c.in-Ok-Some.ensures t) in
    let made = subst (λ (g : Grid). (o ≡ lift_of p t (transposed_of x) g) × ((s : Size) → IsSizeInLift p t (transposed_of x) g s → Fits s)) c.in_ok-turned_f.ensures.answer.0 first in
    let whole = ap (map_option transposed_of) (sym c.in-Ok-Some.field-0-is ∙ made.0) in (
      ap Some c.in-Ok.ensures.answer.0 ∙ whole,
      either_fits (IsSizeInLift p t (transposed_of x) (transposed_of f)) (IsSizeOfSome (colift_of p t f x)) made.1
          (subst (λ (q : Option Grid). (s : Size) → IsSizeOfSome q s → Fits s) whole c.in-Ok.ensures.answer.1),
    )

pub returns : goal.returns
returns c = λ t.
    let p = c.args.field in
    let f = c.args.f.now in
    let x = c.args.x.now in
    let e = c.in-Err.fault in
    let tf = c.in_ok-turned_f.turned_f in
    let first = subst (λ (g : Grid). Answers (IsSizeInLift p t g tf) (λ o. o ≡ lift_of p t g tf) (Err e)) c.in_ok-turned_x.ensures.answer.0 (c.in-Err.ensures t) in
    let fault = subst (λ (g : Grid). Answers (IsSizeInLift p t (transposed_of x) g) (λ o. o ≡ lift_of p t (transposed_of x) g) (Err e)) c.in_ok-turned_f.ensures.answer.0 first in
    fault_of (IsSizeInColift p t f x) (IsSizeInLift p t (transposed_of x) (transposed_of f)) (λ o. o ≡ colift_of p t f x) (λ o. o ≡ lift_of p t (transposed_of x) (transposed_of f)) e
    (λ s m. inl m) fault
