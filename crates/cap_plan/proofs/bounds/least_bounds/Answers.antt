use Rattle.std.proofs.Common.{refl}
use Rattle.cap_ops.specs.Derivations.{means}
use Rattle.cap_plan.proofs.Least.{least_where_still, real_first}
use Rattle.cap_plan.proofs.bounds.least_bounds.Goals as goal

pub loop-changed-init : goal.loop-changed-init
loop-changed-init c = record {
  long = c.first_bounds-bounds.ensures.long;
  real = real_first (means c.args.regs.now c.args.costs.now c.args.kind) c.first_bounds-bounds.result c.requires.registered c.first_bounds-bounds.ensures.long c.first_bounds-bounds.ensures.first;
  still = λ e. absurd (cc (e));
}

pub loop-changed-preserved : goal.loop-changed-preserved
loop-changed-preserved c = record {
  long = c.round-changed.array_long;
  real = c.round-changed.ensures.kept (means c.args.regs.now c.args.costs.now c.args.kind) refl refl c.loop-changed.invariant.real;
  still = λ e. let s = c.round-changed.ensures.same e in rw (s.0) s.1;
}

pub returns-clause-least : goal.returns-clause-least
returns-clause-least c = least_where_still (means c.args.regs.now c.args.costs.now c.args.kind) c.loop-changed.bounds c.loop-changed.invariant.real (c.loop-changed.invariant.still c.loop-changed-test.false) c.loop-changed.invariant.long
