use Rattle.std.proofs.Common.{◌≡◌, ℕ, ◌<◌, length}
use Rattle.cap_lincat.specs.Data.{shape}
use Rattle.cap_lincat.specs.Parts.{IsGiven, ArePlaces, given_at}
use Rattle.cap_lincat.proofs.dimensions.given_places.Given as goal

abbrev pub invariant-loop-r : goal.invariant-loop-r
invariant-loop-r l = record {
  each : (s : ℕ) → s < l.r → IsGiven (shape l.fn.field l.fn.objects l.basis) (given_at l.products s);
  once : (q s : ℕ) → q < s → s < l.r → (given_at l.products q).i ≡ (given_at l.products s).i → (given_at l.products q).j ≡ (given_at l.products s).j → ⊥;
  places : ArePlaces l.products (length l.basis) l.places.items l.r;
}
