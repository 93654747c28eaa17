use Rattle.std.proofs.lemmas.Bool.{false≢true}
use Rattle.std.proofs.Common.{◌≡◌, refl, ◌<◌, length, sym, ap, ◌∙◌, subst, arith, ⊎_elim}
use Rattle.std.proofs.lemmas.Bool.{cases_lt}
use Rattle.cap_laws.specs.Table.{width_of}
use Rattle.cap_lincat.specs.Data.{table_of}
use Rattle.cap_lincat_laws.proofs.Products.{left_triple_at, right_triple_at, associative-sums, sums-associative}
use Rattle.cap_lincat.proofs.Drafts.{width-small, own-member, next-member, left-sum, right-sum}
use Rattle.cap_lincat.proofs.draft.Draft.has_equal_sums.Goals as goal

pub overflow_cast-m-end : goal.overflow_cast-m-end
overflow_cast-m-end c =
    let t = table_of c.args.self.now.field c.args.self.now.objects c.args.self.now.basis c.args.self.now.units c.args.self.now.rows in
    omega (arith, ap length c.hom.ensures, width-small t c.args.self.now.dimensioned c.ends-x.result.0 c.ends-2.result.1)

pub returns-then-sum_left-sum_right : goal.returns-then-sum_left-sum_right
returns-then-sum_left-sum_right c =
    let t = table_of c.args.self.now.field c.args.self.now.objects c.args.self.now.basis c.args.self.now.units c.args.self.now.rows in
    let M = own-member t c.args.i c.ends-x.result c.requires.first c.ends-x.ensures in
    let N = next-member t c.args.i c.args.j c.ends-x.result c.ends.result c.requires.second c.ends-x.ensures c.ends.ensures c.requires.left in
    let O = next-member t c.args.j c.args.k c.ends.result c.ends-2.result c.requires.third c.ends.ensures c.ends-2.ensures c.requires.right in
    let a = left-sum t c.ends-x.result.0 c.ends.result.1 c.args.i c.args.j c.args.k c.loop-m.m c.sum_left.result c.product-left.result.now c.product-left.ensures c.sum_left.ensures in
    let b = right-sum t c.ends-x.result.1 c.ends-2.result.1 c.args.i c.args.j c.args.k c.loop-m.m c.sum_right.result c.product-right.result.now c.product-right.ensures c.sum_right.ensures in
    let lt : c.loop-m.m < width_of t c.ends-x.result.0 c.ends-2.result.1 = omega (arith, c.loop-m-test.true, ap length c.hom.ensures) in
    (λ e. absurd (false≢true e), λ h. absurd (c.if-sum_left-sum_right.true (a ∙ associative-sums t M N O h c.loop-m.m lt ∙ sym b)))

pub loop-m-preserved : goal.loop-m-preserved
loop-m-preserved c =
    let t = table_of c.args.self.now.field c.args.self.now.objects c.args.self.now.basis c.args.self.now.units c.args.self.now.rows in
    let a = left-sum t c.ends-x.result.0 c.ends.result.1 c.args.i c.args.j c.args.k c.loop-m.m c.sum_left.result c.product-left.result.now c.product-left.ensures c.sum_left.ensures in
    let b = right-sum t c.ends-x.result.1 c.ends-2.result.1 c.args.i c.args.j c.args.k c.loop-m.m c.sum_right.result c.product-right.result.now c.product-right.ensures c.sum_right.ensures in
    λ n lt. ⊎_elim
    (λ less. c.loop-m.invariant n less)
    (λ ge. subst (λ x. left_triple_at t c.ends-x.result.0 c.ends.result.1 c.args.i c.args.j c.args.k x ≡ right_triple_at t c.ends-x.result.1 c.ends-2.result.1 c.args.i c.args.j c.args.k x)
    (let e : c.loop-m.m ≡ n = omega (arith, lt, ge) in e) (sym a ∙ c.if-sum_left-sum_right.false ∙ b))
    (cases_lt n c.loop-m.m)

pub returns : goal.returns
returns c =
    let t = table_of c.args.self.now.field c.args.self.now.objects c.args.self.now.basis c.args.self.now.units c.args.self.now.rows in
    let M = own-member t c.args.i c.ends-x.result c.requires.first c.ends-x.ensures in
    let N = next-member t c.args.i c.args.j c.ends-x.result c.ends.result c.requires.second c.ends-x.ensures c.ends.ensures c.requires.left in
    let O = next-member t c.args.j c.args.k c.ends.result c.ends-2.result c.requires.third c.ends.ensures c.ends-2.ensures c.requires.right in
    (λ e. sums-associative t M N O (λ m lt. c.loop-m.invariant m (omega (arith, c.loop-m-test.false, ap length c.hom.ensures, lt))), λ h. refl)
