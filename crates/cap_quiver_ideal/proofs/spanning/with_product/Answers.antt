use Rattle.std.proofs.Common.{get_or, ap, ◌∙◌, subst}
use Rattle.cap_quiver_paths.specs.Read.{numbers_in}
use Rattle.cap_quiver_ideal.specs.Products.{product_at}
use Rattle.cap_quiver_ideal.specs.Spans.{IsGrown}
use Rattle.cap_quiver_ideal.proofs.Terms.{none-product}
use Rattle.cap_quiver_ideal.proofs.Growth.{grown-zeros, grown-alike}
use Rattle.cap_quiver_ideal.proofs.spanning.with_product.Goals as goal

pub returns-then-not-some_fits : goal.returns-then-not-some_fits
returns-then-not-some_fits c =
    let A = numbers_in c.args.numbers.now in
    let J = c.args.rows in
    let f = product_at J.prime A c.args.terms.now c.args.list.now c.args.u c.args.v in
    grown-zeros 1 A.count (λ _. f) J c.requires.short
    (λ i q li lq. none-product J.prime A c.args.terms.now c.args.list.now c.args.u c.args.v q lq c.requires.long (c.some_fits.ensures c.if-not-some_fits.true))

pub returns : goal.returns
returns c =
    let A = numbers_in c.args.numbers.now in
    let J = c.args.rows in
    let row = c.in_ok-row.row.items in
    let f = product_at J.prime A c.args.terms.now c.args.list.now c.args.u c.args.v in
    grown-alike 1 A.count (λ _ q. get_or row q 0) (λ _. f) J c.in_ok-more.more
    (subst (λ m. IsGrown 1 m (λ _ q. get_or row q 0) J c.in_ok-more.more) c.requires.short.matrix.to c.in_ok-more.ensures)
    (λ i q li lq. c.in_ok-row.ensures.at q lq ∙ ap (λ p. product_at p A c.args.terms.now c.args.list.now c.args.u c.args.v q) c.field-field.ensures.value)
