use Rattle.std.proofs.Common.{◌≡◌, ◌+◌, ◌-◌, ◌*◌, ◌/◌, ◌%◌, ◌<◌, ◌≤◌, length, get_or, take, drop, sym, ap, ◌∙◌, arith, rules}
use Rattle.std.proofs.lemmas.Nat.{row_fits, div_below, div-mul-add, mod-mul-add}
use Rattle.std.proofs.lemmas.List.{length-take, length-drop}
use Rattle.cap_matrix.proofs.Writes.{blocks_more, part-at, some_below}
use Rattle.cap_matrix.proofs.kernels.kron.Goals as goal

pub loop-i-preserved : goal.loop-i-preserved
loop-i-preserved c =
    let t = c.loop-i.i in
    let rows = c.args.shape.rows in
    let cols = c.args.shape.cols in
    let wide = c.args.a_shape.cols in
    let part = take (t * wide + wide - t * wide) (drop (t * wide) c.args.a.now) in
    let long : length part ≡ wide = omega (arith, length-take (t * wide + wide - t * wide) (drop (t * wide) c.args.a.now), length-drop (t * wide) c.args.a.now) in
    blocks_more (wide * cols) rows t c.args.a_shape.rows _ c.loop-i.out c.kron_rows.new.out
    (λ i j. (get_or c.args.a.now (i / rows * wide + j / cols) 0 * get_or c.args.b.now (i % rows * cols + j % cols) 0) % c.args.p)
    c.loop-i.invariant (omega arith) (omega arith) (omega arith)
    (λ r j lt below.
    let some : 0 < cols = some_below j wide cols below in
    ap (λ w. get_or c.kron_rows.new.out (r * (w * cols) + j) 0) (sym long)
    ∙ c.kron_rows.ensures r j lt (omega (arith, ap (λ w. w * cols) long))
    ∙ ap (λ x. (x * get_or c.args.b.now (r * cols + j % cols) 0) % c.args.p) (part-at c.args.a.now (t * wide) (t * wide + wide) (j / cols) (omega (arith, div_below j cols wide some below)))
    ∙ ap (λ y. (get_or c.args.a.now (y * wide + j / cols) 0 * get_or c.args.b.now (r * cols + j % cols) 0) % c.args.p) (sym (div-mul-add t rows r lt))
    ∙ ap (λ y. (get_or c.args.a.now ((t * rows + r) / rows * wide + j / cols) 0 * get_or c.args.b.now (y * cols + j % cols) 0) % c.args.p) (sym (mod-mul-add t rows r lt)))

pub slice_bounds-kron_rows-end : goal.slice_bounds-kron_rows-end
slice_bounds-kron_rows-end c =
    let block = c.args.shape.rows * (c.args.a_shape.cols * c.args.shape.cols) in
    let fits : c.loop-i.i * block + block ≤ c.args.a_shape.rows * block = row_fits c.loop-i.i block c.args.a_shape.rows block (omega arith) (omega arith) in
    search rules
