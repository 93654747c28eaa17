use Rattle.std.proofs.Common.{sym, ◌∙◌, below_more}
use Rattle.std.proofs.lemmas.Bool.{false≢true}
use Rattle.cap_quiver_laws.specs.Ideal.{IsRelation}
use Rattle.cap_quiver_paths.specs.Data.{quiver}
use Rattle.cap_quiver_paths.specs.Relations.{relations_of}
use Rattle.cap_quiver_paths.proofs.RelationTerms.{relation-from, relation-to}
use Rattle.cap_quiver_paths.proofs.relations.first_bad.Goals as goal

pub loop-r-preserved : goal.loop-r-preserved
loop-r-preserved c =
    below_more (λ r. IsRelation (quiver 0 c.args.arrows.now 0) (relations_of c.args.relations.now) r) c.loop-r.r c.loop-r.invariant
    (relation-from (quiver 0 c.args.arrows.now 0) c.args.relations.now c.loop-r.r c.loop-r-test.true c.index-relations-r.result c.as_slice.result.now c.as_slice.ensures
    (c.is_relation.ensures.0 c.if-not-is_relation.false))

pub returns-then-not-is_relation : goal.returns-then-not-is_relation
returns-then-not-is_relation c = (
  c.loop-r-test.true,
  λ h. false≢true (sym c.if-not-is_relation.true ∙ c.is_relation.ensures.1
      (relation-to (quiver 0 c.args.arrows.now 0) c.args.relations.now c.loop-r.r c.loop-r-test.true c.index-relations-r.result c.as_slice.result.now c.as_slice.ensures h)),
  c.loop-r.invariant,
)
