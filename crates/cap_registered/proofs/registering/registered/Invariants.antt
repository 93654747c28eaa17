use Rattle.std.proofs.Common.{◌≡◌, ℕ, ◌+◌, ◌<◌, None, length, take}
use Rattle.std.specs.List.{All, filter_map, slice_index_or}
use Rattle.cap_ops.specs.Derivations.{IsWeight}
use Rattle.cap_registered.specs.Registrations.{registration, weight_among}
use Rattle.cap_registered.proofs.registering.registered.Given as goal

abbrev pub invariant-asks : goal.invariant-asks
invariant-asks l =
    record {
      long : length l.regs.weights ≡ 44;
      ranged : All IsWeight l.regs.weights;
      each : (k : ℕ) → k < 44 → slice_index_or l.regs.weights k None ≡ weight_among l.fn.kind (filter_map (λ p. registration l.name p.node) (take l.part-index l.part-items)) (k + 1);
    }
