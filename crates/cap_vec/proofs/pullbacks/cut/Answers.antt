use Rattle.std.proofs.Common.{◌≡◌, ap, ◌∙◌, subst}
use Rattle.std.specs.Prelude.{IfOk}
use Rattle.cap_matrix.specs.Grid.{Grid, block_of}
use Rattle.cap_vec_laws.specs.Vec.{first_columns, last_columns}
use Rattle.cap_vec.specs.Sizes.{IsSizeOf}
use Rattle.cap_vec.proofs.Faults.{either_fits}
use Rattle.cap_vec.proofs.pullbacks.cut.Goals as goal

pub returns-clause-answer : goal.returns-clause-answer
returns-clause-answer c =
    let n = c.args.rows.now in
    let a = c.args.a in
    let b = c.args.b in
    let m = c.matrix-m.result.now in
    let e = c.matrix-m.ensures in
    let e1 : block_of 0 0 c.rows.result a m ≡ first_columns a n = ap (λ r. block_of 0 0 r a m) c.rows.ensures.value ∙ ap (λ y. first_columns a y) e in
    let e2 : block_of 0 a c.rows-2.result b m ≡ last_columns a b n = ap (λ r. block_of 0 a r b m) c.rows-2.ensures.value ∙ ap (λ y. last_columns a b y) e in
    let first = c.in_ok-first.ensures.answer (first_columns a n) (subst (λ (y : Grid). IfOk c.block.result (λ z. z ≡ y)) e1 c.block.ensures) in
    let last = c.in_ok-last.ensures.answer (last_columns a b n) (subst (λ (y : Grid). IfOk c.block-2.result (λ z. z ≡ y)) e2 c.block-2.ensures) in
    let pair = λ (x y : Grid). let z : Grid × Grid = (x, y) in z in (
      ap (λ x. pair x c.in_ok-last.last) first.0 ∙ ap (λ y. pair (first_columns a n) y) last.0,
      either_fits (IsSizeOf (first_columns a n)) (IsSizeOf (last_columns a b n)) first.1 last.1,
    )
