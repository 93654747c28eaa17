use Rattle.std.proofs.Common.{◌≡◌, length, ◌∙◌, subst, arith}
use Rattle.cap_quiver_paths.specs.Data.{AreSinglesSoFar}
use Rattle.cap_quiver_paths.proofs.FirstLevels.{singles-level}
use Rattle.cap_quiver_paths.proofs.walks.singles.Goals as goal

pub returns : goal.returns
returns c =
    let e : c.loop-x.x ≡ length c.args.arrows.now = omega (arith, c.loop-x-test.false, c.loop-x.auto.x-end) in (
      singles-level c.args.objects c.args.arrows.now c.loop-x.level.items c.requires.ends (subst (λ n. AreSinglesSoFar c.args.arrows.now c.loop-x.level.items n) e c.loop-x.invariant),
      c.loop-x.invariant.long ∙ e,
    )
