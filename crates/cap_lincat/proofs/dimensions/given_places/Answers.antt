use Rattle.std.proofs.Common.{◌≡◌, ◌∙◌, sym, subst}
use Rattle.cap_lincat.specs.Data.{shape}
use Rattle.cap_lincat.specs.Parts.{IsGiven}
use Rattle.cap_lincat.proofs.Drafts.{clash}
use Rattle.cap_lincat.proofs.ProductRows.{given-is}
use Rattle.cap_lincat.proofs.Places.{given-twice, each-more, once-more, listed-more}
use Rattle.cap_lincat.proofs.dimensions.given_places.Goals as goal

pub returns-then-not-is_given : goal.returns-then-not-is_given
returns-then-not-is_given c = λ G.
    let t = shape c.args.field c.args.objects c.args.basis.now in
    clash c.is_given.result c.if-not-is_given.true
    (c.is_given.ensures.1 (subst (λ x. IsGiven t x) (given-is c.args.products.now c.loop-r.r c.index-products-r.result c.loop-r-test.true c.index-products-r.is) (G.each c.loop-r.r c.loop-r-test.true)))

pub returns-then-is_some : goal.returns-then-is_some
returns-then-is_some c =
    given-twice (shape c.args.field c.args.objects c.args.basis.now) c.args.products.now c.loop-r.places.items c.loop-r.r c.index-products-r.result c.index.result.now c.loop-r.invariant.places
    c.loop-r-test.true c.index-products-r.is (c.is_given.ensures.0 c.if-not-is_given.false) c.index.ensures (sym c.is_some.ensures ∙ c.if-is_some.true)

pub loop-r-preserved : goal.loop-r-preserved
loop-r-preserved c =
    let t = shape c.args.field c.args.objects c.args.basis.now in
    let ps = c.args.products.now in
    let old = c.loop-r.places.items in
    let row = c.index-products-r.result in
    let F = c.is_given.ensures.0 c.if-not-is_given.false in
    record {
      each = each-more t ps old c.loop-r.r row c.index.result.now c.loop-r.invariant.places c.loop-r-test.true c.index-products-r.is F c.index.ensures c.loop-r.invariant.each;
      once = once-more t ps old c.loop-r.r row c.index.result.now c.loop-r.invariant.places c.loop-r-test.true c.index-products-r.is F c.index.ensures (sym c.is_some.ensures ∙ c.if-is_some.false) c.loop-r.invariant.once;
      places = listed-more t ps old c.loop-r.r row c.index.result.now c.loop-r.invariant.places c.loop-r-test.true c.index-products-r.is F c.index.ensures;
    }
