use Rattle.std.proofs.Common.{◌≡◌, ◌∙◌, subst, arith}
use Rattle.cap_quiver_paths.specs.Data.{AreUnitsSoFar}
use Rattle.cap_quiver_paths.proofs.FirstLevels.{units-level}
use Rattle.cap_quiver_paths.proofs.walks.units.Goals as goal

pub returns : goal.returns
returns c =
    let e : c.loop-start.start ≡ c.args.objects = omega (arith, c.loop-start-test.false, c.loop-start.auto.start-end) in (
      units-level c.args.objects c.args.arrows.now c.loop-start.level.items (subst (λ n. AreUnitsSoFar c.loop-start.level.items n) e c.loop-start.invariant),
      c.loop-start.invariant.long ∙ e,
    )
