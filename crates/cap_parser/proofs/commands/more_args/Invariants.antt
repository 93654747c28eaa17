use Rattle.std.proofs.Common.{◌≡◌, length}
use Rattle.cap_reading.specs.Steps.{many, with_front}
use Rattle.cap_literals.specs.Reading.{starts_arg, arg_at}
use Rattle.cap_parser.proofs.commands.more_args.Given as goal

abbrev pub invariant-values : goal.invariant-values
invariant-values l = with_front l.args (many starts_arg arg_at l.rest) ≡ with_front l.fn.args (many starts_arg arg_at l.symbols)

abbrev pub decreases-values : goal.decreases-values
decreases-values l = length l.rest
