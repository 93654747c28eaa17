use Rattle.cap_ops.proofs.Table.{line-arguments, line-answer}
use Rattle.cap_ops.proofs.ends.operation_ends.Goals as goal

pub returns-clause-args : goal.returns-clause-args
returns-clause-args c = line-arguments _ _ _ c.from.ensures c.requires.0 c.requires.1

pub returns-clause-answer : goal.returns-clause-answer
returns-clause-answer c = line-answer _ _ _ c.from.ensures c.requires.0 c.requires.1
