use Rattle.std.proofs.Common.{◌≡◌, ℕ, ◌*◌, ◌/◌, ◌%◌, sym, subst, arith}
use Rattle.std.proofs.Math.Nat.{zero-mul}
use Rattle.cap_quiver_paths.specs.Read.{numbers_in}
use Rattle.cap_quiver_ideal.specs.Products.{product_at}
use Rattle.cap_quiver_ideal.specs.Spans.{IsGrown}
use Rattle.cap_quiver_ideal.proofs.Growth.{grown-same}
use Rattle.cap_quiver_ideal.proofs.Steps.{left-step}
use Rattle.cap_quiver_ideal.proofs.spanning.with_relation.Goals as goal

pub loop-u-init : goal.loop-u-init
loop-u-init c =
    let A = numbers_in c.args.numbers.now in
    let J = c.args.rows in
    let f : ℕ → ℕ → ℕ = λ i. product_at J.prime A c.args.terms.now c.args.list.now (i / A.count) (i % A.count) in
    subst (λ n. IsGrown n A.count f J J) (sym (zero-mul A.count)) (grown-same A.count f J c.requires.short)

pub loop-u-preserved : goal.loop-u-preserved
loop-u-preserved c =
    let A = numbers_in c.args.numbers.now in
    let J = c.args.rows in
    let F = c.loop-u.more in
    let G = c.in_ok-more.more in
    let f : ℕ → ℕ → ℕ → ℕ → ℕ = λ p. product_at p A c.args.terms.now c.args.list.now in
    left-step A.count c.loop-u.u (f J.prime) J F G c.loop-u.invariant
    (subst (λ p. IsGrown A.count A.count (f p c.loop-u.u) F G) c.loop-u.invariant.short.matrix.is.prime c.in_ok-more.ensures)

pub returns : goal.returns
returns c =
    let A = numbers_in c.args.numbers.now in
    let J = c.args.rows in
    subst (λ n. IsGrown (n * A.count) A.count (λ i. product_at J.prime A c.args.terms.now c.args.list.now (i / A.count) (i % A.count)) J c.loop-u.more)
    (let e : c.loop-u.u ≡ A.count = omega (arith, c.loop-u-test.false, c.loop-u.auto.u-end, c.count-u-end.ensures.value) in e) c.loop-u.invariant
