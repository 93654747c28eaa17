use Rattle.std.proofs.Common.{◌<◌, ◌≤◌, arith}
use Rattle.cap_reduce.specs.Flat.{cell}
use Rattle.cap_reduce.proofs.Steps.{cleared_skip, cleared_swap, cleared_pivot, with_lead}
use Rattle.cap_reduce.proofs.Kept.{same_span_refl, same_span_trans, same_span_swap, same_span_pivot, swapped_residues, pivoted_residues}
use Rattle.cap_reduce.proofs.elimination.clear_next.Goals as goal

pub returns-in-None-clause-span : goal.returns-in-None-clause-span
returns-in-None-clause-span c = same_span_refl c.args.field c.args.rows c.args.cols (cell c.args.cells.now c.args.cols)

pub returns-in-None-clause-cleared : goal.returns-in-None-clause-cleared
returns-in-None-clause-cleared c =
    let lead = c.requires.cleared.0 in
    (lead, cleared_skip c.args.field c.args.rows c.args.cols (cell c.args.cells.now c.args.cols) lead c.args.done c.args.col c.requires.cleared.1 c.in-None.ensures)

pub returns-in-Some-clause-span : goal.returns-in-Some-clause-span
returns-in-Some-clause-span c =
    let first = cell c.args.cells.now c.args.cols in
    let mid = cell c.bring_up.new.cells c.args.cols in
    let last = cell c.pivot.new.cells c.args.cols in
    let low = c.in-Some.ensures.0 in
    let within = c.in-Some.ensures.1 in
    let top : c.args.done < c.args.rows = omega arith in
    let small = swapped_residues c.args.field c.args.rows c.args.cols first mid c.args.done c.in-Some.found top within c.bring_up.ensures c.requires.cleared.1.residues in
    same_span_trans c.args.field c.args.rows c.args.cols first mid last
    (same_span_swap c.args.field c.args.rows c.args.cols first mid c.args.done c.in-Some.found top within c.bring_up.ensures)
    (same_span_pivot c.args.field c.args.rows c.args.cols mid last c.args.done c.args.col c.pivot.ensures.pivoted.0 top c.requires.column
    (λ i lt. small i c.args.col lt c.requires.column) c.pivot.ensures.pivoted.1)

pub returns-in-Some-clause-cleared : goal.returns-in-Some-clause-cleared
returns-in-Some-clause-cleared c =
    let lead = c.requires.cleared.0 in
    let h = c.requires.cleared.1 in
    let first = cell c.args.cells.now c.args.cols in
    let mid = cell c.bring_up.new.cells c.args.cols in
    let last = cell c.pivot.new.cells c.args.cols in
    let low = c.in-Some.ensures.0 in
    let within = c.in-Some.ensures.1 in
    let top : c.args.done < c.args.rows = omega arith in
    let column : c.args.col ≤ c.args.cols = omega (arith, c.requires.column) in (
      with_lead lead c.args.done c.args.col,
      cleared_pivot c.args.field c.args.rows c.args.cols mid last lead c.args.done c.args.col c.pivot.ensures.pivoted.0 c.pivot.ensures.big top c.requires.column
          (cleared_swap c.args.field c.args.rows c.args.cols first mid lead c.args.done c.args.col c.in-Some.found column low within h c.bring_up.ensures)
          c.pivot.ensures.pivoted.1
          (pivoted_residues c.args.field c.args.rows c.args.cols mid last c.args.done c.args.col c.pivot.ensures.pivoted.0 c.pivot.ensures.big c.pivot.ensures.pivoted.1),
    )
