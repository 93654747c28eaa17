use Rattle.std.proofs.Common.{◌≡◌, ℕ, true, ◌∙◌, Err, ap, sym, subst, rules, inl, Result}
use Rattle.cap_field.specs.Residue.{is_tabled}
use Rattle.cap_matrix.specs.Grid.{Grid, IsMatrix, transposed_of}
use Rattle.cap_matrix.proofs.Transpose.{transposed-matrix}
use Rattle.cap_reduce.proofs.NullBasis.{matrix-ends}
use Rattle.cap_laws.specs.declared.faults.CatFault.{CatFault}
use Rattle.cap_laws.specs.Answers.{Answers, Size, Fits}
use Rattle.cap_laws.specs.Universal.{IsPushout}
use Rattle.cap_vec_laws.specs.Vec.{vec_data, stacked_difference}
use Rattle.cap_vec.specs.Sizes.{IsSizeOf, IsSizeInKernel, IsSizeInPair, IsSizeInPushout, pullback_of, pushout_of}
use Rattle.cap_vec.proofs.Faults.{fault_of, either_fits}
use Rattle.cap_vec.proofs.PullbackLaws.{pushout_is}
use Rattle.cap_vec.proofs.category.VecCat.pushout.Goals as goal

pub cut_null_rows-requires-clause-f : goal.cut_null_rows-requires-clause-f
cut_null_rows-requires-clause-f c = subst (λ (y : Grid). IsMatrix c.args.self.now.field y) (sym c.in_ok-turned_f.ensures.answer.0) (transposed-matrix (matrix-ends c.requires.left)).is

pub cut_null_rows-requires-clause-g : goal.cut_null_rows-requires-clause-g
cut_null_rows-requires-clause-g c = subst (λ (y : Grid). IsMatrix c.args.self.now.field y) (sym c.in_ok-turned_g.ensures.answer.0) (transposed-matrix (matrix-ends c.requires.right)).is

pub returns-in_err-first-clause-answer : goal.returns-in_err-first-clause-answer
returns-in_err-first-clause-answer c =
    let p = c.args.self.now.field in
    let t = c.args.self.now.tabled in
    let f = c.args.f.now in
    let g = c.args.g.now in
    let e = c.in_err-first.field-0.0 in
    let right = λ (y z : Grid) (x : Grid × Grid). (x ≡ pullback_of p t y z) × ((s : Size) → IsSizeInPair (pullback_of p t y z) s → Fits s) in
    let is : c.from_residual-in_err-first.result ≡ Err e = search rules in
    let tg = c.in_ok-turned_g.turned_g in
    let first = subst (λ (y : Grid). Answers (IsSizeInKernel p t (stacked_difference y tg)) (right y tg) (Err e)) c.in_ok-turned_f.ensures.answer.0 (c.in_err-first.ensures t) in
    let fault = subst (λ (y : Grid). Answers (IsSizeInKernel p t (stacked_difference (transposed_of f) y)) (right (transposed_of f) y) (Err e)) c.in_ok-turned_g.ensures.answer.0 first in
    subst (λ (r : Result (Grid × Grid) CatFault). Answers (IsSizeInPushout p t f g) (λ x. x ≡ pushout_of p t f g) r) (sym is)
    (fault_of (IsSizeInPushout p t f g) (IsSizeInKernel p t (stacked_difference (transposed_of f) (transposed_of g))) (λ x. x ≡ pushout_of p t f g) (right (transposed_of f) (transposed_of g)) e
    (λ s m. inl m) fault)

-- the two parts that are answered are the pushout's
parts : (p : ℕ) (t : is_tabled p ≡ true) (f g tf tg first last x y : Grid) → tf ≡ transposed_of f → tg ≡ transposed_of g
    → ((first, last) ≡ pullback_of p t tf tg) → x ≡ transposed_of first → y ≡ transposed_of last → (x, y) ≡ pushout_of p t f g
parts p t f g tf tg first last x y ef eg made ex ey =
    let pair = λ (u v : Grid). let z : Grid × Grid = (u, v) in z in
    ap (λ u. pair u y) ex ∙ ap (λ v. pair (transposed_of first) v) ey
    ∙ ap (λ (z : Grid × Grid). pair (transposed_of z.0) (transposed_of z.1))
    (made ∙ ap (λ u. pullback_of p t u tg) ef ∙ ap (λ v. pullback_of p t (transposed_of f) v) eg)

pub returns-clause-answer : goal.returns-clause-answer
returns-clause-answer c =
    let p = c.args.self.now.field in
    let t = c.args.self.now.tabled in
    let f = c.args.f.now in
    let g = c.args.g.now in
    let tf = c.in_ok-turned_f.turned_f in
    let tg = c.in_ok-turned_g.turned_g in
    let made = c.in_ok-first.ensures t in
    let x = c.in_ok-first-2 in
    let y = c.in_ok-last in
    let e = parts p t f g tf tg c.in_ok-first.first c.in_ok-first.last x.first y.last c.in_ok-turned_f.ensures.answer.0 c.in_ok-turned_g.ensures.answer.0 made.0.0 x.ensures.answer.0 y.ensures.answer.0 in
    let kernel = subst (λ (u : Grid). (s : Size) → IsSizeInKernel p t (stacked_difference u tg) s → Fits s) c.in_ok-turned_f.ensures.answer.0 made.1 in
    let kernels = subst (λ (u : Grid). (s : Size) → IsSizeInKernel p t (stacked_difference (transposed_of f) u) s → Fits s) c.in_ok-turned_g.ensures.answer.0 kernel in
    let first = subst (λ (u : Grid). (s : Size) → IsSizeOf u s → Fits s) (sym x.ensures.answer.0) x.ensures.answer.1 in
    let last = subst (λ (u : Grid). (s : Size) → IsSizeOf u s → Fits s) (sym y.ensures.answer.0) y.ensures.answer.1 in (
      e,
      either_fits (IsSizeInKernel p t (stacked_difference (transposed_of f) (transposed_of g))) (IsSizeInPair (pushout_of p t f g)) kernels
          (subst (λ (z : Grid × Grid). (s : Size) → IsSizeInPair z s → Fits s) e (either_fits (IsSizeOf x.first) (IsSizeOf y.last) first last)),
    )

pub returns-clause-pushout : goal.returns-clause-pushout
returns-clause-pushout c =
    let p = c.args.self.now.field in
    let t = c.args.self.now.tabled in
    let f = c.args.f.now in
    let g = c.args.g.now in
    let made = c.in_ok-first.ensures t in
    let x = c.in_ok-first-2 in
    let y = c.in_ok-last in
    let e = parts p t f g c.in_ok-turned_f.turned_f c.in_ok-turned_g.turned_g c.in_ok-first.first c.in_ok-first.last x.first y.last
    c.in_ok-turned_f.ensures.answer.0 c.in_ok-turned_g.ensures.answer.0 made.0.0 x.ensures.answer.0 y.ensures.answer.0 in
    subst (λ (z : Grid × Grid). IsPushout (vec_data p) f.row_count f.column_count g.column_count z.0.column_count f g z.0 z.1) (sym e)
    (pushout_is p t f g c.requires.left c.requires.right c.requires.sources)
