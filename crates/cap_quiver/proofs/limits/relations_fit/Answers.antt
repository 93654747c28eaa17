use Rattle.std.proofs.Common.{◌≡◌, [], sym, ◌∙◌, subst, below_more}
use Rattle.std.proofs.lemmas.Bool.{false≢true}
use Rattle.cap_quiver_laws.specs.Paths.{QuiverData}
use Rattle.cap_quiver_paths.specs.Relations.{relations_of}
use Rattle.cap_quiver_paths.proofs.RelationTerms.{terms-are}
use Rattle.cap_quiver.specs.Limits.{FitsRelation}
use Rattle.cap_quiver.proofs.limits.relations_fit.Goals as goal

abbrev no_quiver : QuiverData
no_quiver = record { objects = 0; arrows = []; bound = 0 }

pub loop-r-preserved : goal.loop-r-preserved
loop-r-preserved c =
    let rs = c.args.relations.now in
    let r = c.loop-r.r in
    let terms : c.as_slice.result.now ≡ (relations_of rs).terms r = terms-are no_quiver rs r c.loop-r-test.true c.index-relations-r.result c.as_slice.result.now c.as_slice.ensures in
    below_more (λ i. FitsRelation c.args.field ((relations_of rs).terms i)) r c.loop-r.invariant
    (subst (λ ts. FitsRelation c.args.field ts) terms (c.relation_fits.ensures.0 c.if-not-relation_fits.false))

pub returns-then-not-relation_fits : goal.returns-then-not-relation_fits
returns-then-not-relation_fits c =
    let rs = c.args.relations.now in
    let r = c.loop-r.r in
    let terms : c.as_slice.result.now ≡ (relations_of rs).terms r = terms-are no_quiver rs r c.loop-r-test.true c.index-relations-r.result c.as_slice.result.now c.as_slice.ensures in (
      λ t. absurd (false≢true t),
      λ h. absurd (false≢true (sym c.if-not-relation_fits.true ∙ c.relation_fits.ensures.1 (subst (λ ts. FitsRelation c.args.field ts) (sym terms) (h r c.loop-r-test.true)))),
    )
