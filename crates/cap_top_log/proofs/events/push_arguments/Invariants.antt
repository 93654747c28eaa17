use Rattle.std.proofs.Common.{◌≡◌, ◌++◌, drop}
use Rattle.std.specs.Prelude.{codes}
use Rattle.std.specs.List.{flat_map}
use Rattle.cap_top_log.specs.Log.{argument_text}
use Rattle.cap_top_log.proofs.events.push_arguments.Given as goal

abbrev pub invariant-arguments : goal.invariant-arguments
invariant-arguments l = l.out.items ++ flat_map (λ a. codes " " ++ argument_text a) (drop l.argument-index l.arguments) ≡ l.fn.out.items ++ flat_map (λ a. codes " " ++ argument_text a) l.arguments
