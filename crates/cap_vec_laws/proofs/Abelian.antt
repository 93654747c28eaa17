-- Matrices modulo a prime of the table are an abelian category.
use Rattle.std.proofs.Common.{◌≡◌, ℕ, true}
use Rattle.cap_field.specs.Residue.{is_tabled}
use Rattle.cap_laws.specs.Universal.{IsAbelian}
use Rattle.cap_laws.proofs.Split.{half-abelian, half-abelian-opposite}
use Rattle.cap_vec_laws.specs.Vec.{vec_data}
use Rattle.cap_vec_laws.proofs.Linear.{vec_linear}
use Rattle.cap_vec_laws.proofs.Splits.{has_splits}
use Rattle.cap_vec_laws.proofs.DirectSum.{additive}

pub vec_abelian : (p : ℕ) → is_tabled p ≡ true → IsAbelian (vec_data p)
vec_abelian p t =
    let L = vec_linear p t in
    let S = has_splits p t in
    record { additive = additive p t; kernels = half-abelian L S; cokernels = half-abelian-opposite L S }
