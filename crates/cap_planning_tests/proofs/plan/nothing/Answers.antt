use Rattle.std.proofs.Common.{None}
use Rattle.std.proofs.lemmas.List.Elements.{All-replicate}
use Rattle.cap_ops.specs.Derivations.{IsWeight}
use Rattle.cap_planning_tests.proofs.plan.nothing.Goals as goal

pub returns : goal.returns
returns c = All-replicate IsWeight 44 None (record { from = λ n h. absurd (cc (h)); to = λ n h. absurd (cc (h)) })
