use Rattle.std.proofs.Common.{◌≡◌, ◌*◌, ◌≤◌, take}
use Rattle.cap_data.specs.Cells.{cells_of_all}
use Rattle.cap_data.proofs.lists.count_cells.Given as goal

abbrev pub invariant-loop-m : goal.invariant-loop-m
invariant-loop-m l = (l.count ≡ cells_of_all (take l.m-index l.matrices)) × (l.count ≤ l.m-index * 1048576)
