use Rattle.std.proofs.Common.{◌≡◌, cond, true}
use Rattle.cap_plan.proofs.Rounds.{walked_step, capped_step}
use Rattle.cap_plan.proofs.bounds.round.Goals as goal
use Rattle.cap_plan.proofs.bounds.round.Goals.{then-relax, else-relax}

pub loop-rule-preserved : goal.loop-rule-preserved
loop-rule-preserved c =
    let after : c.if-relax.changed ≡ cond c.relax.result true c.loop-rule.changed =
    elim c.if-relax.branch [ then-relax w ↦ rw w.if-relax.true w.changed-is | else-relax w ↦ rw w.if-relax.false w.changed-is ] in
    record {
      long = c.relax.array_long;
      capped = capped_step c.args.kind c.loop-rule.bounds c.relax.new.bounds _ c.relax.result c.relax.ensures.yes c.relax.ensures.new c.loop-rule.invariant.long (c.requires.costs _ _ c.loop-rule-test.true) c.loop-rule.invariant.capped;
      walked = walked_step c.args.kind c.args.rules.now c.loop-rule.rule-index c.args.bounds.now c.loop-rule.bounds c.relax.new.bounds c.loop-rule.changed c.if-relax.changed _ c.loop-rule-test.true c.loop-rule.invariant.long c.requires.costs c.loop-rule.invariant.walked c.relax.result c.relax.ensures.yes c.relax.ensures.new after;
    }
