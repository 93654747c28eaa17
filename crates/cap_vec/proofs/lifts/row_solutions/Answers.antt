use Rattle.std.proofs.Common.{subst, [], get_or}
use Rattle.cap_matrix.specs.Grid.{Grid}
use Rattle.cap_reduce.specs.declared.solving.SolvedRows.{SolvedRows}
use Rattle.cap_reduce.specs.Answers.{AreSolved, AreSolutions, IsFirstOutside}
use Rattle.cap_vec.proofs.RowBuffers.{solved_buffer}
use Rattle.cap_vec.proofs.lifts.row_solutions.Goals as goal

pub returns-in-Ok-All : goal.returns-in-Ok-All
returns-in-Ok-All c =
    let x = c.args.x.now in
    let f = c.args.f.now in
    let cells = c.in-Ok-All.cells in
    let solved = subst (λ (s : SolvedRows). AreSolved c.matrix.result.now c.matrix-2.result.now.row_count (λ i. get_or c.matrix-2.result.now.entries i []) s) c.in-Ok-All.field-0-is c.in-Ok-All.ensures in
    solved_buffer x f cells (subst (λ (g : Grid). AreSolutions f g.row_count (λ i. get_or g.entries i []) cells) c.matrix-2.ensures
    (subst (λ (g : Grid). AreSolutions g c.matrix-2.result.now.row_count (λ i. get_or c.matrix-2.result.now.entries i []) cells) c.matrix.ensures solved))

pub returns-in-Ok-Unsolved : goal.returns-in-Ok-Unsolved
returns-in-Ok-Unsolved c =
    let i = c.in-Ok-Unsolved.field-0-0 in
    let solved = subst (λ (s : SolvedRows). AreSolved c.matrix.result.now c.matrix-2.result.now.row_count (λ i. get_or c.matrix-2.result.now.entries i []) s) c.in-Ok-Unsolved.field-0-is c.in-Ok-Unsolved.ensures in
    let h = subst (λ (g : Grid). IsFirstOutside c.args.f.now g.row_count (λ i. get_or g.entries i []) i) c.matrix-2.ensures
    (subst (λ (g : Grid). IsFirstOutside g c.matrix-2.result.now.row_count (λ i. get_or c.matrix-2.result.now.entries i []) i) c.matrix.ensures solved) in
    (i, h.inside, h.outside)
