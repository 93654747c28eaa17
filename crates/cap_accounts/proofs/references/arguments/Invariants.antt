use Rattle.std.proofs.Common.{take}
use Rattle.cap_accounts.specs.Commands.{AreArguments}
use Rattle.cap_accounts.proofs.references.arguments.Given as goal

abbrev pub invariant-tokens : goal.invariant-tokens
invariant-tokens g l = AreArguments l.situation l.field (take l.token-index l.tokens) l.args.items
