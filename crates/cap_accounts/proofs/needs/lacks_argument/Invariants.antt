use Rattle.std.proofs.Common.{◌≡◌, drop, find, not}
use Rattle.cap_accounts.specs.Commands.{argument_needs}
use Rattle.cap_accounts.proofs.needs.lacks_argument.Given as goal

abbrev pub invariant-args-2 : goal.invariant-args-2
invariant-args-2 g l = find (λ need. not need.1) (argument_needs l.situation (drop l.arg-index l.args)) ≡ find (λ need. not need.1) (argument_needs l.fn.situation l.fn.args)
