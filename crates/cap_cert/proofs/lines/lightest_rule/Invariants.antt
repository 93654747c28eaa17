use Rattle.std.proofs.Common.{◌≡◌, ◌≤◌, drop}
use Rattle.cap_ops.specs.Derivations.{lesser, lightest, ways_by_rule}
use Rattle.cap_ops.specs.declared.plans.TheConstants.{NO_PLAN}
use Rattle.cap_cert.proofs.lines.lightest_rule.Given as goal

abbrev pub invariant-rules : goal.invariant-rules
invariant-rules l =
    record {
      small : l.least ≤ NO_PLAN;
      told : lesser l.least (lightest (ways_by_rule l.kind l.printed l.place (drop l.rule-index l.costs))) ≡ lesser l.weight (lightest (ways_by_rule l.kind l.printed l.place l.costs));
    }
