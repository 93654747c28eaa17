use Rattle.std.proofs.Common.{◌≡◌, ◌≢◌, ◌+◌, ◌*◌, ◌<◌, length, get_or, set, sym, ap, ◌∙◌, arith, ⊎_elim}
use Rattle.std.proofs.lemmas.List.{get_or-set_same, get_or-set_other}
use Rattle.std.proofs.lemmas.Nat.{mul-add-lt, same_from_place}
use Rattle.std.proofs.lemmas.Bool.{cases_eq}
use Rattle.cap_reduce.specs.Flat.{cell}
use Rattle.cap_reduce.proofs.scan.write_column_as_row.Goals as goal

pub loop-i-preserved : goal.loop-i-preserved
loop-i-preserved c =
    let w = c.args.width in
    let t = c.args.column in
    let s = c.args.start in
    let i = c.loop-i.i in
    let old = c.loop-i.out in
    let at = t * w + (s + i) in
    let v = cell c.args.cells.now c.args.cols i t in
    let inner : s + i < w = omega arith in
    let place : at < length old = omega (arith, mul-add-lt t w (s + i) c.args.cols c.requires.within inner, c.requires.out_size) in
    record {
      written = λ k lt. ⊎_elim
          (λ same. ap (λ y. cell (set old at v) w t (s + y)) same ∙ get_or-set_same old at v 0 place ∙ ap (λ y. cell c.args.cells.now c.args.cols y t) (sym same))
          (λ ne. get_or-set_other old at (t * w + (s + k)) v 0 (λ x. ne (omega arith)) ∙ c.loop-i.invariant.written k (omega arith))
          (cases_eq k i);
      before = λ q lt. get_or-set_other old at (t * w + q) v 0 (λ x. absurd (omega arith)) ∙ c.loop-i.invariant.before q lt;
      others = λ j q lt ne. get_or-set_other old at (j * w + q) v 0 (λ x. ne (same_from_place j q t (s + i) w lt inner x).0) ∙ c.loop-i.invariant.others j q lt ne;
    }
