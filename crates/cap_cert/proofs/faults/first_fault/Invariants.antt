use Rattle.std.proofs.Common.{◌≡◌, ◌≤◌, take, Some}
use Rattle.cap_cert.specs.Reading.{texts_of}
use Rattle.cap_cert.specs.Machine.{run, begun, IsInside}
use Rattle.cap_cert.proofs.faults.first_fault.Given as goal

abbrev pub invariant-tokens : goal.invariant-tokens
invariant-tokens l =
    record {
      runs : run l.strict (Some begun) (take l.index (texts_of l.bytes l.tokens)) ≡ Some l.state;
      inside : IsInside l.strict l.state;
      few : l.state.read ≤ l.index;
    }
