use Rattle.cap_names.proofs.OperationNames.{named_in}
use Rattle.cap_names.proofs.operations.op_name.Goals as goal

pub returns : goal.returns
returns c = named_in c.names-names.result.now _ c.args.op.0 c.names-names.ensures c.requires.first c.requires.last
