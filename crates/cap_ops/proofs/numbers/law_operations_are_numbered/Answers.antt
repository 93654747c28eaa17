use Rattle.cap_ops.proofs.Numbering.{named_as_numbered, words_are_numbered, constants_are_numbered}
use Rattle.cap_ops.proofs.numbers.law_operations_are_numbered.Goals as goal

pub returns : goal.returns
returns c = record { names = named_as_numbered; words = words_are_numbered; constants = constants_are_numbered }
