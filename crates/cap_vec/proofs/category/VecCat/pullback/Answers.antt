use Rattle.std.proofs.Common.{◌≡◌}
use Rattle.cap_matrix.specs.Grid.{Grid}
use Rattle.cap_laws.specs.Universal.{IsPullback}
use Rattle.cap_vec_laws.specs.Vec.{vec_data, stacked_difference}
use Rattle.cap_vec.specs.Sizes.{IsSizeInKernel, IsSizeInPair, IsSizeInPullback, pullback_of}
use Rattle.cap_vec.proofs.Faults.{answers_with, if_answered}
use Rattle.cap_vec.proofs.PullbackLaws.{pullback_is}
use Rattle.cap_vec.proofs.category.VecCat.pullback.Goals as goal

pub returns-clause-answer : goal.returns-clause-answer
returns-clause-answer c =
    let p = c.args.self.now.field in
    let t = c.args.self.now.tabled in
    let f = c.args.f.now in
    let g = c.args.g.now in
    answers_with (IsSizeInKernel p t (stacked_difference f g)) (IsSizeInPair (pullback_of p t f g)) (λ x. x ≡ pullback_of p t f g) c.cut_null_rows.result (c.cut_null_rows.ensures t)

pub returns-clause-pullback : goal.returns-clause-pullback
returns-clause-pullback c =
    let p = c.args.self.now.field in
    let t = c.args.self.now.tabled in
    let f = c.args.f.now in
    let g = c.args.g.now in
    if_answered (IsSizeInPullback p t f g) (λ (x : Grid × Grid). IsPullback (vec_data p) x.0.row_count f.row_count g.row_count f.column_count f g x.0 x.1) (pullback_of p t f g) c.cut_null_rows.result
    (answers_with (IsSizeInKernel p t (stacked_difference f g)) (IsSizeInPair (pullback_of p t f g)) (λ x. x ≡ pullback_of p t f g) c.cut_null_rows.result (c.cut_null_rows.ensures t))
    (pullback_is p t f g c.requires.left c.requires.right c.requires.targets)
