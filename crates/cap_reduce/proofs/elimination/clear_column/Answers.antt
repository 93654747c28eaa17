use Rattle.std.proofs.Common.{◌+◌, ◌-◌, ◌*◌, ◌%◌, sym, ap, ◌∙◌, arith}
use Rattle.cap_reduce.specs.Flat.{cell}
use Rattle.cap_reduce.proofs.Rows.{column_skip, column_zero, column_more}
use Rattle.cap_reduce.proofs.elimination.clear_column.Goals as goal
use Rattle.cap_reduce.proofs.elimination.clear_column.Goals.{then-i-row+then-entry-ne0, else-i-row, else-i-row-via-then-i-row+else-entry-ne0, else-i-row-via-else-i-row}

pub loop-i-preserved : goal.loop-i-preserved
loop-i-preserved c =
    let p = c.args.p in
    let m = c.args.cols in
    let first = c.args.cells.now in
    let now = c.loop-i.cells in
    let row = c.args.row in
    let i = c.loop-i.i in
    let h = c.loop-i.invariant in
    elim c.if-i-row.branch [
      | then-i-row+then-entry-ne0 w ↦ rw w.cells-is
          (column_more p m first now w.add_row.new.cells row c.args.col i h (λ e. absurd (omega arith)) c.requires.column
          (λ q lt. w.add_row.ensures.added q lt
          ∙ ap (λ y. (cell now m i q + (p - cell now m i c.args.col) * y) % p) (c.requires.copied q lt ∙ sym (h.kept q lt)))
          w.add_row.ensures.others)
      | else-i-row w ↦ rw w.cells-is (elim w.else-i-row.branch [
        | else-i-row-via-then-i-row+else-entry-ne0 v ↦ column_zero p m first now row c.args.col i h c.requires.column (omega arith)
            (λ q lt. omega (arith, h.later i q (omega arith) lt, c.requires.residues i q (omega arith) lt))
        | else-i-row-via-else-i-row v ↦ column_skip p m first now row c.args.col i h (omega arith)
      ])
    ]
