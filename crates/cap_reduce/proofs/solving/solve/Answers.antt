use Rattle.std.proofs.Common.{◌<◌, subst, List, ℕ}
use Rattle.std.specs.Option.{MatchOption}
use Rattle.cap_matrix.specs.Reduced.{IsInSpan, IsObstruction}
use Rattle.cap_reduce.specs.Answers.{AreSolved}
use Rattle.cap_reduce.proofs.SolveAnswers.{row_in, one_solved, one_outside}
use Rattle.cap_reduce.proofs.solving.solve.Goals as goal

pub unreachable-requires : goal.unreachable-requires
unreachable-requires c =
    let m = c.args.m.now in
    let v = c.args.v.now in
    one_outside m v c.in-Unsolved.field-0 c.requires.width (subst (λ s. AreSolved m 1 (row_in m.column_count v) s) c.in-Unsolved.is c.in_ok-x.ensures)
    (subst (λ o. MatchOption o (IsInSpan m v) (λ y. IsObstruction m v y)) c.in-None.is c.in_ok-y-in-Unsolved.ensures)

pub returns-in-All : goal.returns-in-All
returns-in-All c =
    let m = c.args.m.now in
    let v = c.args.v.now in
    one_solved m v c.in-All.x c.requires.width (subst (λ s. AreSolved m 1 (row_in m.column_count v) s) c.in-All.is c.in_ok-x.ensures)
