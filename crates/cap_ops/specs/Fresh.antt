-- Where the new objects of an answer stand, and what is taken once: laws above `AreUsed` and `once`.
use Rattle.std.specs.Prelude.{◌≡◌, ℕ, ◌<◌, ◌↔◌, List, length, Option, Some, slice_get}
use Rattle.std.specs.List.{Contains}
use Rattle.cap_names.specs.declared.identifiers.Handle.{Handle}
use Rattle.cap_ops.specs.declared.arrows.End.{End}
use Rattle.cap_ops.specs.declared.arrows.End.TheVariants.{Old, New}
use Rattle.cap_ops.specs.declared.keys.Value.{Value as Answer}
use Rattle.cap_ops.specs.Ends.{profile_of, ends_in, places, IsNew}
use Rattle.cap_ops.specs.Values.{none, FitsWithAnswer}
use Rattle.cap_ops.specs.Arrows.{ValueOver, over, olds}
use Rattle.cap_ops.specs.Primitives.{AreUsed}
use Rattle.cap_ops.specs.Mentions.{mentions, mentioned}

-- at the letters of arguments stand objects that were told, at the other letters of the answer new ones, and each new object stands at one of these
pub record StandAtNew {M : Type 0} (op : ℕ) (ends : ℕ → Option End) (value : ValueOver End M) (count : ℕ) : Type 0 where
  pub told : (letter : ℕ) → Contains (places (profile_of op).arguments) letter → (h : Handle) × (ends letter ≡ Some (Old h))
  pub new : (letter : ℕ) → Contains (ends_in (profile_of op).answer) letter → IsNew (profile_of op) letter → (k : ℕ) × (ends letter ≡ Some (New k))
  pub each : (value ≡ none → ⊥) → (k : ℕ) → k < count → (letter : ℕ) × Contains (ends_in (profile_of op).answer) letter × IsNew (profile_of op) letter × (ends letter ≡ Some (New k))

-- new objects that are used stand so
abbrev pub UsedStandAtNew : Type 0 → Type 0 → Type 0
UsedStandAtNew O M = (p op : ℕ) (args : List (ValueOver Handle M)) (value : ValueOver End M) (fresh : List O) (fits : FitsWithAnswer (over p) op (olds args) value) → AreUsed op fits.objects value fresh → StandAtNew op fits.objects value (length fresh)

-- the objects that a value names are those of its ends, and none is named twice
pub record NamesEachOnce {M : Type 0} (v : Answer M) : Type 0 where
  pub same : (h : Handle) → Contains (mentioned v) h ↔ Contains (mentions v) h
  pub once : (i j : ℕ) (h : Handle) → slice_get (mentioned v) i ≡ Some h → slice_get (mentioned v) j ≡ Some h → i ≡ j
