use Rattle.std.proofs.Common.{◌≡◌, ◌+◌, ◌*◌, ◌≤◌, drop}
use Rattle.cap_ops.specs.Derivations.{charge}
use Rattle.cap_ops.specs.declared.plans.TheConstants.{NO_PLAN}
use Rattle.cap_cert.proofs.sums.called_weight.Given as goal

abbrev pub invariant-places : goal.invariant-places
invariant-places l =
    record {
      told : l.weight + charge (drop l.place l.calls) (drop l.place l.printed) ≡ charge l.calls l.printed;
      small : l.weight ≤ l.place * (NO_PLAN * 255);
    }
