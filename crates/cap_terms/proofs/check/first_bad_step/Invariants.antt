use Rattle.std.proofs.Common.{◌≡◌, List, take, drop}
use Rattle.cap_ops.specs.declared.ends.Shape.{Shape}
use Rattle.cap_terms.specs.declared.symbol.Symbol.{Symbol}
use Rattle.cap_terms.specs.Checker.{given_shapes, steps_fault}
use Rattle.cap_terms.specs.Nameable.{nameable}
use Rattle.cap_terms.proofs.check.first_bad_step.Given as goal

-- what the rest of the steps gives, the whole gives, where the shapes so far are known as far as variables can name them
abbrev pub invariant-loop-k : goal.invariant-loop-k
invariant-loop-k l =
    (full : List (Shape Symbol)) × (l.known ≡ take nameable full)
    × (steps_fault (given_shapes l.head.0) l.head.0 l.body.params l.body.answer 0 l.body.steps ≡ steps_fault full l.head.0 l.body.params l.body.answer l.k (drop l.k l.body.steps))
