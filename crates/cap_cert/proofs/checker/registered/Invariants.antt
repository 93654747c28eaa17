use Rattle.std.proofs.Common.{◌≡◌, ◌≤◌, take}
use Rattle.std.specs.Prelude.{count_by, is_some}
use Rattle.cap_cert.proofs.checker.registered.Given as goal

abbrev pub invariant-places : goal.invariant-places
invariant-places l =
    record {
      told : l.count ≡ count_by is_some (take l.place l.regs.weights);
      few : l.count ≤ l.place;
    }
