use Rattle.std.proofs.Common.{sym, ◌∙◌}
use Rattle.cap_check.proofs.Fronts.{none_more, first_at}
use Rattle.cap_check.proofs.building.parts_built.Goals as goal

pub returns-in-Some : goal.returns-in-Some
returns-in-Some c =
    first_at c.args.parts.now c.parts.part-index c.part-item.result c.in-Some.fault c.parts-test.true c.part-item.is c.parts.invariant (sym c.unbuilt_part.ensures ∙ c.in-Some.is)

pub parts-preserved : goal.parts-preserved
parts-preserved c =
    none_more c.args.parts.now c.parts.part-index c.part-item.result c.parts-test.true c.part-item.is c.parts.invariant (sym c.unbuilt_part.ensures ∙ c.in_default.is)
