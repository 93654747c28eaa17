use Rattle.std.proofs.Common.{◌≡◌, ℕ, subst, arith}
use Rattle.cap_quiver_paths.specs.Read.{numbers_in}
use Rattle.cap_quiver_ideal.specs.Products.{product_at}
use Rattle.cap_quiver_ideal.specs.Spans.{IsGrown}
use Rattle.cap_quiver_ideal.proofs.Terms.{none-product, none-fits}
use Rattle.cap_quiver_ideal.proofs.Growth.{grown-same, grown-zeros}
use Rattle.cap_quiver_ideal.proofs.Steps.{right-step}
use Rattle.cap_quiver_ideal.proofs.spanning.with_left.Goals as goal

pub returns-then-not-some_follows : goal.returns-then-not-some_follows
returns-then-not-some_follows c =
    let n = c.args.numbers.now in
    let A = numbers_in n in
    let J = c.args.rows in
    let terms = c.args.terms.now in
    let list = c.args.list.now in
    let u = c.args.u in
    grown-zeros A.count A.count (product_at J.prime A terms list u) J c.requires.short
    (λ v q lv lq. none-product J.prime A terms list u v q lq c.requires.long (none-fits n.objects n.ends n.units n.joins list u v (c.some_follows.ensures c.if-not-some_follows.true)))

pub loop-v-init : goal.loop-v-init
loop-v-init c =
    let A = numbers_in c.args.numbers.now in
    grown-same A.count (product_at c.args.rows.prime A c.args.terms.now c.args.list.now c.args.u) c.args.rows c.requires.short

pub loop-v-preserved : goal.loop-v-preserved
loop-v-preserved c =
    let A = numbers_in c.args.numbers.now in
    let J = c.args.rows in
    let F = c.loop-v.more in
    let G = c.in_ok-more.more in
    let f : ℕ → ℕ → ℕ → ℕ = λ p. product_at p A c.args.terms.now c.args.list.now c.args.u in
    right-step A.count c.loop-v.v (f J.prime) J F G c.loop-v.invariant
    (subst (λ p. IsGrown 1 A.count (λ _. f p c.loop-v.v) F G) c.loop-v.invariant.short.matrix.is.prime c.in_ok-more.ensures)

pub returns : goal.returns
returns c =
    let A = numbers_in c.args.numbers.now in
    let J = c.args.rows in
    subst (λ n. IsGrown n A.count (product_at J.prime A c.args.terms.now c.args.list.now c.args.u) J c.loop-v.more)
    (let e : c.loop-v.v ≡ A.count = omega (arith, c.loop-v-test.false, c.loop-v.auto.v-end, c.count-v-end.ensures.value) in e) c.loop-v.invariant
