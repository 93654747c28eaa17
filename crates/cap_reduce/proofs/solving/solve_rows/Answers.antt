use Rattle.std.proofs.Common.{[], get_or, subst}
use Rattle.std.specs.Prelude.{IfOk}
use Rattle.cap_reduce.specs.Answers.{AreSolved}
use Rattle.cap_reduce.proofs.SolveAnswers.{row_in, result_same, rows_of_buffer}
use Rattle.cap_reduce.proofs.solving.solve_rows.Goals as goal

pub returns : goal.returns
returns c =
    let m = c.args.m.now in
    let t = c.args.t.now in
    let rows = row_in m.column_count c.cells.result.now in
    result_same m t.row_count rows (λ i. get_or t.entries i []) c.solve_flat.result
    (rows_of_buffer t c.cells.result.now m.column_count c.requires.width c.cells.ensures)
    (subst (λ k. IfOk c.solve_flat.result (λ s. AreSolved m k rows s)) c.rows.ensures.value c.solve_flat.ensures)
