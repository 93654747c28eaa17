use Rattle.cap_matrix.specs.Grid.{entry}
use Rattle.cap_solve.specs.Blocks.{IsBlockAdded}
use Rattle.cap_solve.proofs.blocks.add_block.Given as goal

abbrev pub invariant-loop-i : goal.invariant-loop-i
invariant-loop-i l = IsBlockAdded l.block.prime l.width l.initial.cells l.cells l.row l.col l.i l.block.column_count (entry l.block.entries)
