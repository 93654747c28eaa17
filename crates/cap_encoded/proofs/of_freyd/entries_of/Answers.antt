use Rattle.std.proofs.Common.{◌≤◌, ℕ, List, ap, arith}
use Rattle.cap_data.specs.Cells.{coefficients}
use Rattle.cap_encoded.proofs.Coefficients.{coefficients-joined}
use Rattle.cap_encoded.proofs.of_freyd.entries_of.Goals as goal

pub new-requires-2-clause-cells : goal.new-requires-2-clause-cells
new-requires-2-clause-cells c =
    let e = ap (λ (z : List (List ℕ)). coefficients z) c.new.ensures in
    omega (arith, e, coefficients-joined c.args.lists.items, c.requires.few)
