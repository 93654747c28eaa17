use Rattle.cap_traces.proofs.Items.{items-more}
use Rattle.cap_session.proofs.PreludeParts.{part-comes, stands-on-part}
use Rattle.cap_session.proofs.prelude.run_parts.Goals as goal

pub run_part-requires-clause-comes : goal.run_part-requires-clause-comes
run_part-requires-clause-comes g c κs within =
    part-comes items-more c.args.course.now c.args.parts.now c.parts.invariant.0 c.parts.part-index c.parts.course c.part-item.result c.parts-test.true c.part-item.is c.parts.invariant.1

pub parts-preserved : goal.parts-preserved
parts-preserved g c = (
  c.parts.invariant.0,
  stands-on-part items-more c.args.course.now c.args.parts.now c.parts.invariant.0 c.parts.part-index c.parts.course c.part-item.result c.parts-test.true c.part-item.is c.parts.invariant.1 c.run_part.new.course c.in_ok-run_part.ensures,
)
