use Rattle.std.proofs.Common.{◌≡◌, ◌+◌, ◌*◌, ◌<◌, take, length, sym, ap, ◌∙◌, arith}
use Rattle.cap_add_laws.specs.Closure.{sum_list, widths_of}
use Rattle.cap_add_laws.proofs.Structure.{widths-many, width-at}
use Rattle.cap_addclosure.proofs.Widths.{sum-next, sum-all}
use Rattle.cap_addclosure.proofs.sizes.dimension.Goals as goal

pub loop-k-preserved : goal.loop-k-preserved
loop-k-preserved g c =
    let T = g.T.Table.table c.args.table.now in
    let a = c.args.a.now in
    let b = c.args.b.now in
    let k = c.loop-k.k in
    let lt : k < length a * length b = c.loop-k-test.true in
    record {
      count = ap (λ n. n + c.width-count.result) c.loop-k.invariant.count
          ∙ ap (λ n. sum_list (take k (widths_of T a b)) + n) (c.width-count.ensures.value ∙ sym (width-at T a b k lt))
          ∙ sym (sum-next (widths_of T a b) k (omega (arith, lt, widths-many T a b)));
      small = omega (arith, c.loop-k.invariant.small, c.width-count.ensures.few);
    }

pub returns : goal.returns
returns g c =
    let T = g.T.Table.table c.args.table.now in
    let a = c.args.a.now in
    let b = c.args.b.now in
    let done : c.loop-k.k ≡ length (widths_of T a b) = omega (arith, c.loop-k-test.false, c.loop-k.auto.k-end, widths-many T a b) in
    record { value = c.loop-k.invariant.count ∙ ap (λ n. sum_list (take n (widths_of T a b))) done ∙ sum-all (widths_of T a b) }
