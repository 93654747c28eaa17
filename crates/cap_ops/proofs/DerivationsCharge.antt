-- The sum by the index.
use Rattle.std.proofs.Common.{◌≡◌, ℕ, ◌+◌, ◌*◌, ◌<◌, ◌≤◌, List, length, drop, refl, drop-cons, add-one, get_or}
use Rattle.std.proofs.lemmas.List.{drop_all}
use Rattle.cap_ops.specs.Derivations.{charge}

pub charge_more : (counts bounds : List ℕ) (i : ℕ) → i < length counts → i < length bounds → charge (drop i counts) (drop i bounds) ≡ get_or counts i 0 * get_or bounds i 0 + charge (drop (i + 1) counts) (drop (i + 1) bounds)
charge_more counts bounds i h k = rw (drop-cons counts i 0 h, drop-cons bounds i 0 k, add-one) refl

pub charge_done : (counts bounds : List ℕ) (i : ℕ) → length counts ≤ i → charge (drop i counts) (drop i bounds) ≡ 0
charge_done counts bounds i h = rw (drop_all i counts h) refl
