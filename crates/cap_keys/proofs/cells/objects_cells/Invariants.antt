use Rattle.std.proofs.Common.{◌≡◌, ◌*◌, ◌^◌, ◌≤◌, take}
use Rattle.std.specs.List.{sum_by}
use Rattle.cap_keys.proofs.cells.objects_cells.Given as goal

abbrev pub invariant-loop-object : goal.invariant-loop-object
invariant-loop-object g l = (l.total ≡ sum_by g.O.Datum.cells_of (take l.object-index l.objects)) × (l.total ≤ l.object-index * 2 ^ 32)
