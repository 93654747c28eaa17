use Rattle.std.proofs.Common.{get_or, refl, arith}
use Rattle.cap_matrix.specs.Grid.{entry}
use Rattle.cap_quiver_laws.proofs.Congruence.{cong-same, cong-trans}
use Rattle.cap_quiver_ideal.proofs.reducing.reduce_by.Goals as goal

pub loop-f-init : goal.loop-f-init
loop-f-init c =
    let J = c.args.rows.now in
    record {
      residues = c.requires.residues;
      congruent = cong-same J.prime J.row_count J.column_count (entry J.entries) (λ q. get_or c.args.row.now q 0) (λ q. get_or c.args.row.now q 0) (λ q lt. refl);
    }

pub loop-f-preserved : goal.loop-f-preserved
loop-f-preserved c =
    let J = c.args.rows.now in
    record {
      residues = λ q lt. c.clear.ensures.residues q (omega (arith, lt, c.clear.auto.row));
      congruent = cong-trans J.prime J.row_count J.column_count (entry J.entries) c.clear.ensures.congruent c.loop-f.invariant.congruent;
    }
