use Rattle.std.proofs.Common.{get_or, refl, arith}
use Rattle.cap_matrix.specs.Grid.{entry}
use Rattle.cap_quiver_laws.proofs.Congruence.{cong-same}
use Rattle.cap_quiver_ideal.proofs.Growth.{taken-off}
use Rattle.cap_quiver_ideal.proofs.reducing.clear.Goals as goal

pub returns-then-row-at-ne0-clause-congruent : goal.returns-then-row-at-ne0-clause-congruent
returns-then-row-at-ne0-clause-congruent c =
    let J = c.args.rows.now in
    taken-off J.prime J.row_count J.column_count (entry J.entries) c.args.f (get_or c.args.row.now c.args.at 0) (λ q. get_or c.args.row.now q 0) (λ q. get_or c.take_off.new.row q 0) c.requires.inside
    (λ q lt. c.take_off.ensures q (omega (arith, lt, c.requires.width)))

pub returns-else-at-row-clause-congruent : goal.returns-else-at-row-clause-congruent
returns-else-at-row-clause-congruent c =
    let J = c.args.rows.now in
    cong-same J.prime J.row_count J.column_count (entry J.entries) (λ q. get_or c.args.row.now q 0) (λ q. get_or c.args.row.now q 0) (λ q lt. refl)
