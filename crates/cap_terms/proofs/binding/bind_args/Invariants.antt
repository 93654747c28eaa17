use Rattle.std.proofs.Common.{◌≡◌, ℕ, List, length, take, drop}
use Rattle.cap_ops.specs.declared.ends.Shape.{Shape}
use Rattle.cap_ops.specs.Ends.{padded}
use Rattle.cap_terms.specs.declared.symbol.Symbol.{Symbol}
use Rattle.cap_terms.specs.Checker.{bound_args, no_bindings}
use Rattle.cap_terms.specs.Nameable.{nameable}
use Rattle.cap_terms.proofs.binding.bind_args.Given as goal

-- what the rest of the arguments gives, the whole gives
abbrev pub invariant-loop-i : goal.invariant-loop-i
invariant-loop-i l = (full : List (Shape Symbol)) (ss : List (Shape ℕ)) → l.known ≡ take nameable full → l.wanted ≡ padded ss → length ss ≡ length l.args
    → bound_args full no_bindings ss l.args ≡ bound_args full l.bindings (drop l.i ss) (drop l.i l.args)
