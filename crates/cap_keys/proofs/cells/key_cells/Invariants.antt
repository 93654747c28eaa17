use Rattle.std.proofs.Common.{◌≡◌, ◌*◌, ◌^◌, ◌≤◌, take}
use Rattle.std.specs.List.{sum_by}
use Rattle.cap_ops.specs.Cells.{argument_cells}
use Rattle.cap_keys.proofs.cells.key_cells.Given as goal

abbrev pub invariant-loop-arg : goal.invariant-loop-arg
invariant-loop-arg g l = (l.total ≡ sum_by (argument_cells g.M.Datum.cells_of) (take l.arg-index l.key.args)) × (l.total ≤ l.arg-index * 2 ^ 32)
