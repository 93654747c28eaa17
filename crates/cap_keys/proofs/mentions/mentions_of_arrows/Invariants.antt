use Rattle.std.proofs.Common.{◌≡◌, take}
use Rattle.std.specs.List.{flat_map}
use Rattle.cap_ops.specs.Mentions.{ends_of}
use Rattle.cap_keys.proofs.mentions.mentions_of_arrows.Given as goal

abbrev pub invariant-loop-f : goal.invariant-loop-f
invariant-loop-f g l = l.all.items ≡ flat_map ends_of (take l.f-index l.arrows)
