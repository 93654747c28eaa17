use Rattle.std.proofs.Common.{◌≡◌, ℕ, ◌+◌, ◌*◌, ◌++◌, ◌∷◌, ◌<◌, List, [], length, get_or, rules, sym, ap, ◌∙◌, subst, arith}
use Rattle.std.proofs.lemmas.Nat.{mul-add-lt}
use Rattle.cap_matrix.specs.Grid.{entry}
use Rattle.cap_quiver_paths.specs.Read.{numbers_in}
use Rattle.cap_quiver.specs.Rows.{class_of, AreUnitRows}
use Rattle.cap_quiver.proofs.Listed.{list-is, list-inside, units-push}
use Rattle.cap_quiver.proofs.classes.unit_rows.Goals as goal

pub class_row-requires : goal.class_row-requires
class_row-requires c =
    let homs = c.args.homs.now in
    let x = c.loop-x.x in
    let o = c.objects.result in
    let lx : x < o = omega (arith, c.loop-x-test.true, c.objects.ensures.value, c.objects-x-end.ensures.value) in
    let lt : x * o + x < length homs = omega (arith, mul-add-lt x o x o lx lx, c.requires.many, ap (λ n. n * n) c.objects.ensures.value) in
    list-inside c.args.rows.now.row_count homs (x * o + x) c.as_slice-hom.result.now (list-is homs (x * o + x) c.index-homs-x.result c.as_slice-hom.result.now c.as_slice-hom.ensures c.index-homs-x.is lt) lt c.requires.inside

pub loop-x-preserved : goal.loop-x-preserved
loop-x-preserved c =
    let A = numbers_in c.args.numbers.now in
    let g = c.args.rows.now in
    let e = entry g.entries in
    let homs = c.args.homs.now in
    let x = c.loop-x.x in
    let o = c.objects.result in
    let lx : x < o = omega (arith, c.loop-x-test.true, c.objects.ensures.value, c.objects-x-end.ensures.value) in
    let lt : x * o + x < length homs = omega (arith, mul-add-lt x o x o lx lx, c.requires.many, ap (λ n. n * n) c.objects.ensures.value) in
    let hom : c.as_slice-hom.result.now ≡ get_or homs (x * A.objects + x) [] =
    list-is homs (x * o + x) c.index-homs-x.result c.as_slice-hom.result.now c.as_slice-hom.ensures c.index-homs-x.is lt ∙ ap (λ s. get_or homs (x * s + x) []) c.objects.ensures.value in
    let old = c.loop-x.units.items in
    let row = c.in_ok-row.row.items in
    let is : c.push.new.self.items ≡ old ++ row ∷ [] = search rules in
    subst (λ l. AreUnitRows A g.column_count e homs l (x + 1)) (sym is)
    (units-push A g.column_count e homs old x row c.loop-x.invariant
    (c.in_ok-row.ensures ∙ ap (λ (h : List ℕ). class_of g.column_count e h c.unit.result) hom ∙ ap (λ q. class_of g.column_count e (get_or homs (x * A.objects + x) []) q) c.unit.ensures))
