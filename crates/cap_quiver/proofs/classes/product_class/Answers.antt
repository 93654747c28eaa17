use Rattle.std.proofs.Common.{◌≡◌, ℕ, ◌+◌, ◌*◌, ◌<◌, List, [], length, get_or, ap, ◌∙◌, arith}
use Rattle.std.proofs.lemmas.Nat.{mul-add-lt}
use Rattle.cap_matrix.specs.Grid.{entry}
use Rattle.cap_quiver_paths.specs.Read.{numbers_in}
use Rattle.cap_quiver.specs.Rows.{class_of}
use Rattle.cap_quiver.proofs.Listed.{list-is, list-inside}
use Rattle.cap_quiver.proofs.classes.product_class.Goals as goal

pub bounds-homs-x : goal.bounds-homs-x
bounds-homs-x c =
    let A = numbers_in c.args.numbers.now in
    let x = c.ends-x.result.0 in
    let y = c.ends-y.result.1 in
    let o = c.objects.result in
    let ex : x ≡ A.start c.args.a = ap (λ (e : ℕ × ℕ). e.0) c.ends-x.ensures in
    let ey : y ≡ A.finish c.args.b = ap (λ (e : ℕ × ℕ). e.1) c.ends-y.ensures in
    let lx : x < o = omega (arith, ex, c.objects.ensures.value, (c.requires.algebra.ends c.args.a c.requires.first).0) in
    let ly : y < o = omega (arith, ey, c.objects.ensures.value, (c.requires.algebra.ends c.args.b c.requires.second).1) in
    omega (arith, mul-add-lt x o y o lx ly, c.requires.many, ap (λ n. n * n) c.objects.ensures.value)

pub class_row-requires : goal.class_row-requires
class_row-requires c =
    let A = numbers_in c.args.numbers.now in
    let homs = c.args.homs.now in
    let x = c.ends-x.result.0 in
    let y = c.ends-y.result.1 in
    let o = c.objects.result in
    let ex : x ≡ A.start c.args.a = ap (λ (e : ℕ × ℕ). e.0) c.ends-x.ensures in
    let ey : y ≡ A.finish c.args.b = ap (λ (e : ℕ × ℕ). e.1) c.ends-y.ensures in
    let lx : x < o = omega (arith, ex, c.objects.ensures.value, (c.requires.algebra.ends c.args.a c.requires.first).0) in
    let ly : y < o = omega (arith, ey, c.objects.ensures.value, (c.requires.algebra.ends c.args.b c.requires.second).1) in
    let lt : x * o + y < length homs = omega (arith, mul-add-lt x o y o lx ly, c.requires.many, ap (λ n. n * n) c.objects.ensures.value) in
    list-inside c.args.rows.now.row_count homs (x * o + y) c.as_slice-hom.result.now (list-is homs (x * o + y) c.index-homs-x.result c.as_slice-hom.result.now c.as_slice-hom.ensures c.index-homs-x.is lt) lt c.requires.inside

pub returns : goal.returns
returns c =
    let A = numbers_in c.args.numbers.now in
    let g = c.args.rows.now in
    let e = entry g.entries in
    let homs = c.args.homs.now in
    let x = c.ends-x.result.0 in
    let y = c.ends-y.result.1 in
    let o = c.objects.result in
    let ex : x ≡ A.start c.args.a = ap (λ (e : ℕ × ℕ). e.0) c.ends-x.ensures in
    let ey : y ≡ A.finish c.args.b = ap (λ (e : ℕ × ℕ). e.1) c.ends-y.ensures in
    let lx : x < o = omega (arith, ex, c.objects.ensures.value, (c.requires.algebra.ends c.args.a c.requires.first).0) in
    let ly : y < o = omega (arith, ey, c.objects.ensures.value, (c.requires.algebra.ends c.args.b c.requires.second).1) in
    let lt : x * o + y < length homs = omega (arith, mul-add-lt x o y o lx ly, c.requires.many, ap (λ n. n * n) c.objects.ensures.value) in
    let i : x * o + y ≡ A.start c.args.a * A.objects + A.finish c.args.b = ap (λ s. s * o + y) ex ∙ ap (λ s. A.start c.args.a * s + y) c.objects.ensures.value ∙ ap (λ s. A.start c.args.a * A.objects + s) ey in
    let hom : c.as_slice-hom.result.now ≡ get_or homs (A.start c.args.a * A.objects + A.finish c.args.b) [] =
    list-is homs (x * o + y) c.index-homs-x.result c.as_slice-hom.result.now c.as_slice-hom.ensures c.index-homs-x.is lt ∙ ap (λ s. get_or homs s []) i in
    c.in_ok-row.ensures ∙ ap (λ (h : List ℕ). class_of g.column_count e h c.join.result) hom
    ∙ ap (λ q. class_of g.column_count e (get_or homs (A.start c.args.a * A.objects + A.finish c.args.b) []) q) c.join.ensures
