use Rattle.std.proofs.Common.{subst}
use Rattle.std.specs.List.{All}
use Rattle.std.proofs.lemmas.List.Elements.{All-more}
use Rattle.std.proofs.lemmas.List.{take_all}
use Rattle.cap_cert.specs.Lines.{AllHold, IsTrueCert}
use Rattle.cap_cert.proofs.TrueCerts.{true_cert}
use Rattle.cap_cert.proofs.checker.verify.Goals as goal

pub certs-preserved : goal.certs-preserved
certs-preserved c =
    let hold : AllHold c.args.costs.now c.cert-item.result = c.in_default.ensures.none in
    let true_one : IsTrueCert c.args.costs.now c.cert-item.result = true_cert c.args.costs.now c.cert-item.result c.requires.costs c.in_default.ensures.long c.in_default.ensures.choices hold in
    record {
      hold = All-more (AllHold c.args.costs.now) c.args.certs.now c.certs.cert-index c.cert-item.result c.certs-test.true c.certs.invariant.hold (subst (AllHold c.args.costs.now) c.cert-item.is hold);
      truth = All-more (IsTrueCert c.args.costs.now) c.args.certs.now c.certs.cert-index c.cert-item.result c.certs-test.true c.certs.invariant.truth (subst (IsTrueCert c.args.costs.now) c.cert-item.is true_one);
    }

pub returns-clause-exact : goal.returns-clause-exact
returns-clause-exact c = subst (All (AllHold c.args.costs.now)) (take_all c.certs.cert-index c.args.certs.now c.certs-test.false) c.certs.invariant.hold

pub returns-clause-truth : goal.returns-clause-truth
returns-clause-truth c = subst (All (IsTrueCert c.args.costs.now)) (take_all c.certs.cert-index c.args.certs.now c.certs-test.false) c.certs.invariant.truth
