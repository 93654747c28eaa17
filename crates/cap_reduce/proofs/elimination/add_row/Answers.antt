use Rattle.std.proofs.Common.{◌+◌, ◌*◌, ◌%◌, get_or, sym, ap, ◌∙◌, arith}
use Rattle.std.proofs.Math.Nat.{mul-zero, add-zero, mod-eq_of_lt}
use Rattle.cap_reduce.specs.Flat.{cell}
use Rattle.cap_reduce.proofs.Rows.{row_so_far_from}
use Rattle.cap_matrix.proofs.Writes.{row_so_far_more}
use Rattle.cap_reduce.proofs.elimination.add_row.Goals as goal

pub loop-c-init : goal.loop-c-init
loop-c-init c =
    row_so_far_from c.args.cols c.args.cells.now c.args.to c.args.from
    (λ q. (cell c.args.cells.now c.args.cols c.args.to q + c.args.factor * get_or c.args.source.now q 0) % c.args.p)
    (λ q lt. let old = cell c.args.cells.now c.args.cols c.args.to q in
    sym (ap (λ y. (old + c.args.factor * y) % c.args.p) (c.requires.before q lt) ∙ ap (λ y. (old + y) % c.args.p) (mul-zero c.args.factor)
    ∙ ap (λ y. y % c.args.p) (add-zero old) ∙ mod-eq_of_lt (c.requires.to_small q (omega arith))))

pub loop-c-preserved : goal.loop-c-preserved
loop-c-preserved c =
    row_so_far_more c.args.cols c.args.cells.now c.loop-c.cells c.args.to c.loop-c.c c.args.rows _
    (λ q. (cell c.args.cells.now c.args.cols c.args.to q + c.args.factor * get_or c.args.source.now q 0) % c.args.p)
    c.loop-c.invariant (omega arith) c.requires.to_within (omega arith)
    (c.reduced.ensures
    ∙ ap (λ y. (y + c.args.factor * get_or c.args.source.now c.loop-c.c 0) % c.args.p)
    (c.loop-c.invariant.later c.loop-c.c (omega arith) (omega arith)))
