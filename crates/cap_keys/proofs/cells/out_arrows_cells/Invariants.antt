use Rattle.std.proofs.Common.{◌≡◌, ◌*◌, ◌^◌, ◌≤◌, take}
use Rattle.std.specs.List.{sum_by}
use Rattle.cap_keys.proofs.cells.out_arrows_cells.Given as goal

abbrev pub invariant-loop-f : goal.invariant-loop-f
invariant-loop-f g l = (l.total ≡ sum_by (λ x. g.M.Datum.cells_of x.value) (take l.f-index l.arrows)) × (l.total ≤ l.f-index * 2 ^ 32)
