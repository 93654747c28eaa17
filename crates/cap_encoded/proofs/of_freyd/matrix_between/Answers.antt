use Rattle.std.proofs.Common.{◌≤◌, ℕ, List, length, ap, ◌∙◌, sym, arith}
use Rattle.cap_add_laws.specs.Closure.{joined}
use Rattle.cap_data.specs.Cells.{coefficients}
use Rattle.cap_encoded.proofs.Coefficients.{coefficients-joined}
use Rattle.cap_encoded.proofs.of_freyd.matrix_between.Goals as goal

pub known_morphism-requires-clause-few : goal.known_morphism-requires-clause-few
known_morphism-requires-clause-few g c =
    let e = ap (λ (z : List (List ℕ)). length (joined z)) c.in_ok-lists.ensures in
    let k = coefficients-joined c.as_slice-3.result.now in
    omega (arith, e, k, c.as_slice-3.ensures.cells)
