-- A primitive's answer with handles for its new objects, which come after those that were told.
use Rattle.std.specs.Prelude.{ℕ, ◌+◌, ◌^◌, ◌<◌, map}
use Rattle.std.specs.List.{All}
use Rattle.cap_names.specs.declared.identifiers.Handle.{Handle}
use Rattle.cap_ops.specs.declared.arrows.Arrow.{Arrow}
use Rattle.cap_ops.specs.declared.arrows.OutArrow.{OutArrow}
use Rattle.cap_ops.specs.declared.arrows.End.{End}
use Rattle.cap_ops.specs.declared.arrows.End.TheVariants.{Old, New}
use Rattle.cap_ops.specs.declared.keys.Out.{Out}
use Rattle.cap_ops.specs.declared.keys.Out.TheVariants.{One as OutOne, Many as OutMany, Truth as OutTruth, Nothing as OutNothing}
use Rattle.cap_ops.specs.declared.keys.Value.{Value as Answer}
use Rattle.cap_ops.specs.declared.keys.Value.TheVariants.{One, Many, Truth, Nothing}

-- where objects with this many handles were told, the new object at place k gets the handle after them by k
abbrev pub settled_end : ℕ → End → Handle
settled_end count (Old h) = h
settled_end count (New k) = record { 0 = count + k }

abbrev pub settled_arrow : {M : Type 0} → ℕ → OutArrow M → Arrow M
settled_arrow count f = record { src = settled_end count f.src; tgt = settled_end count f.tgt; value = f.value }

abbrev pub settled : {M : Type 0} → ℕ → Out M → Answer M
settled count (OutOne f) = One (settled_arrow count f)
settled count (OutMany fs) = Many (map (settled_arrow count) fs)
settled count (OutTruth b) = Truth b
settled count OutNothing = Nothing

-- the new handles are numbers below 2^32
abbrev pub EndFits : ℕ → End → Type 0
EndFits count (Old h) = Unit {0}
EndFits count (New k) = count + k < 2 ^ 32

pub record ArrowFits {M : Type 0} (count : ℕ) (f : OutArrow M) : Type 0 where
  pub src : EndFits count f.src
  pub tgt : EndFits count f.tgt

abbrev pub OutFits : {M : Type 0} → ℕ → Out M → Type 0
OutFits count (OutOne f) = ArrowFits count f
OutFits count (OutMany fs) = All (ArrowFits count) fs
OutFits count (OutTruth b) = Unit {0}
OutFits count OutNothing = Unit {0}
