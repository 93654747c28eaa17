use Rattle.std.proofs.Common.{take}
use Rattle.std.specs.List.{All}
use Rattle.cap_cert.specs.Lines.{AllHold, IsTrueCert}
use Rattle.cap_cert.proofs.checker.verify.Given as goal

abbrev pub invariant-certs : goal.invariant-certs
invariant-certs l =
    record {
      hold : All (AllHold l.costs) (take l.cert-index l.certs);
      truth : All (IsTrueCert l.costs) (take l.cert-index l.certs);
    }
