use Rattle.std.proofs.Common.{get_or, arith}
use Rattle.cap_matrix.specs.Grid.{entry}
use Rattle.cap_quiver_ideal.proofs.Growth.{nothing-left}
use Rattle.cap_quiver_ideal.proofs.reducing.is_spanned.Goals as goal

pub returns : goal.returns
returns c = λ t.
    let J = c.args.rows.now in
    nothing-left J.prime J.row_count J.column_count (entry J.entries) (λ q. get_or c.args.row.now q 0) (λ q. get_or c.reduce_by.new.row q 0)
    (omega (arith, c.prime.ensures.low, c.prime.ensures.value, c.field.ensures.value)) c.reduce_by.ensures
    (λ q lq. c.is_zero.ensures.0 t q (omega (arith, lq, c.requires.width, c.reduce_by.auto.row)))
