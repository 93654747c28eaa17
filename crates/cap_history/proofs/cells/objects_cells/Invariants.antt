use Rattle.std.proofs.Common.{◌≡◌, ◌*◌, ◌^◌, ◌≤◌, take}
use Rattle.std.specs.List.{sum_by}
use Rattle.cap_history.proofs.cells.objects_cells.Given as goal

abbrev pub invariant-loop-told : goal.invariant-loop-told
invariant-loop-told g l = (l.total ≡ sum_by (λ x. g.O.Datum.cells_of x.1) (take l.told-index l.objects)) × (l.total ≤ l.told-index * 2 ^ 32)
