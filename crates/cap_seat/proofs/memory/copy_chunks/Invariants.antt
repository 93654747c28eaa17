use Rattle.std.proofs.Common.{◌≡◌, take}
use Rattle.std.specs.List.{flat_map}
use Rattle.cap_seat.proofs.memory.copy_chunks.Given as goal

-- copies of all in the chunks that came
abbrev pub invariant-loop-told : goal.invariant-loop-told
invariant-loop-told g l = l.copies.items ≡ flat_map (λ told. told) (take l.told-index l.chunks)
