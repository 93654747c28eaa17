use Rattle.std.proofs.Common.{ℕ, ◌+◌, ◌-◌, ◌*◌, ◌%◌, ◌<◌, get_or, take, drop, sym, ap, ◌∙◌, subst, arith}
use Rattle.cap_matrix.specs.Grid.{entry}
use Rattle.cap_solve.specs.Blocks.{IsAdded}
use Rattle.cap_solve.proofs.Additions.{block_row, line_part, line_length, line_small}
use Rattle.cap_solve.proofs.blocks.add_block.Goals as goal

pub add_row-requires-clause-source_small : goal.add_row-requires-clause-source_small
add_row-requires-clause-source_small c =
    let g = c.args.block.now in
    let cells = c.cells-source.result.now in
    let i = c.loop-i.i in
    let n = c.cols-n.result in
    let small = c.requires.small 0 in
    let prime = c.prime-p.ensures.value ∙ c.field.ensures.value in
    subst (λ p. (k : ℕ) → get_or (take (i * n + n - i * n) (drop (i * n) cells)) k 0 < p) (sym prime)
    (line_small g cells (i * n) (i * n + n) i (omega (arith, small)) c.cells-source.ensures (omega (arith, c.loop-i-test.true, c.rows-i-end.ensures.value))
    (ap (λ x. i * x) c.cols-n.ensures.value) (ap (λ x. i * n + x) c.cols-n.ensures.value))

pub loop-i-preserved : goal.loop-i-preserved
loop-i-preserved c =
    let g = c.args.block.now in
    let p = g.prime in
    let cells = c.cells-source.result.now in
    let i = c.loop-i.i in
    let n = c.cols-n.result in
    let part = take (i * n + n - i * n) (drop (i * n) cells) in
    let line : i < g.row_count = omega (arith, c.loop-i-test.true, c.rows-i-end.ensures.value) in
    let start = ap (λ x. i * x) c.cols-n.ensures.value in
    let end = ap (λ x. i * n + x) c.cols-n.ensures.value in
    let long = line_length g cells (i * n) (i * n + n) i c.cells-source.ensures line start end in
    let prime = c.prime-p.ensures.value ∙ c.field.ensures.value in
    let at = (c.args.row + i) * c.args.width + c.args.col in
    let now = c.add_row.new.cells in
    let own = subst (λ q. IsAdded q c.loop-i.cells now at g.column_count (λ k. get_or part k 0)) prime
    (subst (λ m. IsAdded c.prime-p.result c.loop-i.cells now at m (λ k. get_or part k 0)) long c.add_row.ensures) in
    block_row p c.args.width c.args.cells.now c.loop-i.cells now c.args.row c.args.col i g.column_count (entry g.entries) (λ k. get_or part k 0)
    c.requires.columns c.loop-i.invariant own
    (λ j below. ap (λ z. z % p) (line_part g cells (i * n) (i * n + n) i c.cells-source.ensures line start end j below))
