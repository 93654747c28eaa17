use Rattle.std.proofs.Common.{◌≡◌, ◌+◌, ◌-◌, ◌*◌, ◌/◌, ◌%◌, ◌<◌, length, get_or, take, drop, sym, ap, ◌∙◌, arith}
use Rattle.std.proofs.lemmas.Nat.{div_below, mod_below}
use Rattle.std.proofs.lemmas.List.{length-take, length-drop}
use Rattle.std.proofs.Math.Nat.{div-add-mod'}
use Rattle.cap_matrix.proofs.Writes.{rows_more, part-at, some_below}
use Rattle.cap_matrix.proofs.kernels.kron_rows.Goals as goal

pub loop-i-preserved : goal.loop-i-preserved
loop-i-preserved c =
    let cols = c.args.shape.cols in
    let i = c.loop-i.i in
    let part = take (i * cols + cols - i * cols) (drop (i * cols) c.args.b.now) in
    rows_more (length c.args.a.now * cols) i c.args.shape.rows _ c.loop-i.out c.kron_row.new.out
    (λ i j. (get_or c.args.a.now (j / cols) 0 * get_or c.args.b.now (i * cols + j % cols) 0) % c.args.p)
    c.loop-i.invariant (omega arith) (omega arith) (omega arith)
    (λ j below.
    let some : 0 < cols = some_below j (length c.args.a.now) cols below in
    let long : length part ≡ cols = omega (arith, length-take (i * cols + cols - i * cols) (drop (i * cols) c.args.b.now), length-drop (i * cols) c.args.b.now) in
    let inner = mod_below j cols some in
    ap (λ y. get_or c.kron_row.new.out y 0) (sym (div-add-mod' j cols))
    ∙ ap (λ w. get_or c.kron_row.new.out (j / cols * w + j % cols) 0) (sym long)
    ∙ c.kron_row.ensures (j / cols) (j % cols) (div_below j cols (length c.args.a.now) some below) (omega arith)
    ∙ ap (λ y. (get_or c.args.a.now (j / cols) 0 * y) % c.args.p) (part-at c.args.b.now (i * cols) (i * cols + cols) (j % cols) (omega arith)))
