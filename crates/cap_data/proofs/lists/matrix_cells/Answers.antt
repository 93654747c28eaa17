use Rattle.std.proofs.Common.{rules, sym, ◌∙◌, arith}
use Rattle.std.proofs.lemmas.Bool.Decides.{nat_tests}
use Rattle.cap_data.proofs.lists.matrix_cells.Goals as goal

pub returns-clause-few : goal.returns-clause-few
returns-clause-few c =
    let f = c.cells.ensures.flat in
    let e = f.cells_length in
    let s = f.size in
    grind (arith, nat_tests)
