use Rattle.std.proofs.Common.{◌≡◌, take}
use Rattle.std.specs.Prelude.{map}
use Rattle.cap_ops.specs.Ends.{padded, profile_of, renamed}
use Rattle.cap_terms.specs.declared.symbol.Symbol.TheVariants.{Given}
use Rattle.cap_terms.proofs.check.known_parameters.Given as goal

-- the parameters so far have the shapes of the head's arguments
abbrev pub invariant-loop-place : goal.invariant-loop-place
invariant-loop-place l = (l.place-items ≡ padded (profile_of l.fn.head.0).arguments) × (l.known ≡ map (renamed Given) (take l.place-index (profile_of l.fn.head.0).arguments))
