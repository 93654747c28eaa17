use Rattle.cap_ops.proofs.Scanned.{fits-clause, wrong-clause}
use Rattle.cap_ops.proofs.fitting.ends_fit.Goals as goal

pub returns-clause-fits : goal.returns-clause-fits
returns-clause-fits g c = fits-clause c.args.op.0 c.args.args.now c.requires c.scan_arguments.result c.scan_arguments.ensures

pub returns-clause-wrong : goal.returns-clause-wrong
returns-clause-wrong g c = wrong-clause c.args.op.0 c.args.args.now c.scan_arguments.result c.scan_arguments.ensures
