use Rattle.std.proofs.Common.{Some, None, take, refl, sym, ◌∙◌}
use Rattle.cap_block_faults.proofs.Each.{none_at_all}
use Rattle.cap_faults.specs.Scripts.{part_faults, bound_by_part}
use Rattle.cap_faults.proofs.Loops.{none_more, first_at, part_first, behind_more}
use Rattle.cap_faults.proofs.parts.prelude_values.Goals as goal

pub returns-in-Some : goal.returns-in-Some
returns-in-Some c =
    first_at (part_faults c.args.parts.now) _ _ c.index-parts-i.result c.in-Some.fault c.parts-test.true c.index-parts-i.is c.parts.invariant.none
    (part_first c.args.parts.now c.parts.i c.index-parts-i.result (take c.parts.i c.args.parts.now) c.deref.result.now (Some c.in-Some.fault) (sym c.in_ok-fault.ensures ∙ c.in-Some.is) refl (c.deref.ensures.value ∙ c.parts.invariant.bound))

pub parts-preserved : goal.parts-preserved
parts-preserved c = record {
  none = none_more (part_faults c.args.parts.now) _ _ c.index-parts-i.result c.parts-test.true c.index-parts-i.is c.parts.invariant.none
      (none_at_all _ (part_first c.args.parts.now c.parts.i c.index-parts-i.result (take c.parts.i c.args.parts.now) c.deref.result.now None (sym c.in_ok-fault.ensures ∙ c.in_default.is) refl (c.deref.ensures.value ∙ c.parts.invariant.bound)));
  bound = behind_more bound_by_part _ _ _ _ c.index-parts-i.result _ c.parts-test.true c.index-parts-i.is c.parts.invariant.bound c.in_ok-bind_part.ensures;
}
