use Rattle.std.proofs.Common.{◌≡◌, ◌+◌, length, false, cond}
use Rattle.std.specs.Prelude.{sum}
use Rattle.cap_ops.specs.Derivations.{means}
use Rattle.cap_plan.specs.Rounds.{AreReal, AreStill}
use Rattle.cap_plan.proofs.bounds.least_bounds.Given as goal

abbrev pub invariant-loop-changed : goal.invariant-loop-changed
invariant-loop-changed l =
    record {
      long : length l.bounds ≡ 44;
      real : AreReal (means l.regs l.costs l.kind) l.bounds;
      still : l.changed ≡ false → AreStill l.kind l.costs l.bounds;
    }

abbrev pub decreases-loop-changed : goal.decreases-loop-changed
decreases-loop-changed l = sum l.bounds + cond l.changed 1 0
