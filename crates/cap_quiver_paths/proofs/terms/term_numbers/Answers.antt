use Rattle.cap_quiver_paths.specs.Data.{quiver}
use Rattle.cap_quiver_paths.proofs.RelationTerms.{relation-to}
use Rattle.cap_quiver_paths.proofs.terms.term_numbers.Goals as goal

pub relation_numbers-requires-clause-relation : goal.relation_numbers-requires-clause-relation
relation_numbers-requires-clause-relation c =
    relation-to (quiver 0 c.args.arrows.now c.args.bound) c.args.relations.now c.loop-r.r c.loop-r-test.true c.index-relations-r.result c.as_slice.result.now c.as_slice.ensures
    (c.requires.good c.loop-r.r c.loop-r-test.true)
