use Rattle.std.proofs.Common.{◌+◌, ◌<◌, ℕ, get_or, take, length-take, sym, ap, ◌∙◌, subst, arith}
use Rattle.std.proofs.lemmas.Nat.{mul-le}
use Rattle.cap_matrix.specs.Grid.{Grid, entry}
use Rattle.cap_laws.proofs.Systems.{nth-below}
use Rattle.cap_homlaw.specs.Hom.{hom_matrix}
use Rattle.cap_homlaw.proofs.TwoSided.{hom_matrix-matrix}
use Rattle.cap_solve_laws.specs.Systems.{unknowns_width}
use Rattle.cap_solve.specs.Blocks.{IsBlockAdded}
use Rattle.cap_solve.proofs.Places.{ends-taken, unknowns-within, uncut}
use Rattle.cap_solve.proofs.Written.{block_in_rows}
use Rattle.cap_solve.proofs.equations.add_term.Goals as goal

pub slice_bounds-unknown_count-end : goal.slice_bounds-unknown_count-end
slice_bounds-unknown_count-end g c =
    let lt = nth-below c.requires.term.ends.is in
    let h = length-take c.args.term.now.unknown c.args.unknowns.now in
    omega (arith, lt, h)

pub unknown_count-row-requires : goal.unknown_count-row-requires
unknown_count-row-requires g c = ends-taken c.args.unknowns.now c.args.term.now.unknown c.requires.unknowns

pub add_block-requires-clause-few : goal.add_block-requires-clause-few
add_block-requires-clause-few g c =
    let H = g.C.HomFp.hom c.args.c.now in
    let T = c.requires.term in
    let us = c.args.unknowns.now in
    let high = ap (λ (m : Grid). m.row_count) c.in_ok-block.ensures.0 ∙ ap (λ x. H.dim x ((g.C.Cat.category c.args.c.now).source c.args.term.now.right)) T.left.to ∙ ap (λ y. H.dim T.ends.from y) T.right.from in
    let within = unknowns-within H T.ends.is in
    let row = uncut (unknowns_width H (take c.args.term.now.unknown us)) c.unknown_count-row.result (omega (arith, within, c.requires.few)) c.unknown_count-row.ensures in
    omega (arith, high, within, row, c.requires.few)

pub add_block-requires-clause-rows : goal.add_block-requires-clause-rows
add_block-requires-clause-rows g c =
    let H = g.C.HomFp.hom c.args.c.now in
    let T = c.requires.term in
    let us = c.args.unknowns.now in
    let high = ap (λ (m : Grid). m.row_count) c.in_ok-block.ensures.0 ∙ ap (λ x. H.dim x ((g.C.Cat.category c.args.c.now).source c.args.term.now.right)) T.left.to ∙ ap (λ y. H.dim T.ends.from y) T.right.from in
    let within = unknowns-within H T.ends.is in
    let row = uncut (unknowns_width H (take c.args.term.now.unknown us)) c.unknown_count-row.result (omega (arith, within, c.requires.few)) c.unknown_count-row.ensures in
    let fits = mul-le (c.unknown_count-row.result + c.in_ok-block.block.row_count) c.args.columns.width (unknowns_width H us) c.args.columns.width (omega (arith, high, within, row)) (omega arith) in
    omega (arith, fits, c.requires.size)

pub add_block-requires-clause-columns : goal.add_block-requires-clause-columns
add_block-requires-clause-columns g c =
    let wide = ap (λ (m : Grid). m.column_count) c.in_ok-block.ensures.0 in
    omega (arith, wide, c.requires.columns)

pub add_block-requires-clause-small : goal.add_block-requires-clause-small
add_block-requires-clause-small g c =
    subst (λ p. (k : ℕ) → get_or c.args.cells.now k 0 < p) (sym (ap (λ (m : Grid). m.prime) c.in_ok-block.ensures.0)) c.requires.small

pub returns : goal.returns
returns g c =
    let q = c.args.c.now in
    let C = g.C.Cat.category q in
    let H = g.C.HomFp.hom q in
    let L = g.met.C.Cat.linear q in
    let S = g.met.C.HomFp.is_hom q in
    let T = c.requires.term in
    let us = c.args.unknowns.now in
    let t = c.args.term.now in
    let m = hom_matrix C H t.left t.right in
    let n = H.dim (C.source t.left) (C.target t.right) in
    let w = c.args.columns.width in
    let start = c.args.columns.start in
    let first = c.args.cells.now in
    let now = c.add_block.new.cells in
    let row = c.unknown_count-row.result in
    let within = unknowns-within H T.ends.is in
    let at = uncut (unknowns_width H (take t.unknown us)) row (omega (arith, within, c.requires.few)) c.unknown_count-row.ensures in
    let block = subst (λ (b : Grid). IsBlockAdded b.prime w first now row start b.row_count b.column_count (entry b.entries)) c.in_ok-block.ensures.0 c.add_block.ensures in
    let high = ap (λ x. H.dim x (C.source t.right)) T.left.to ∙ ap (λ y. H.dim T.ends.from y) T.right.from in (
      block_in_rows L S T.ends.is (hom_matrix-matrix L S T.left T.right) w first now row start at c.requires.columns c.requires.small
          (subst (λ r. IsBlockAdded C.prime w first now row start r n (entry m.entries)) high block),
      c.in_ok-block.ensures.1,
    )
