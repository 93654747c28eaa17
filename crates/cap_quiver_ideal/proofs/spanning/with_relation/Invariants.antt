use Rattle.std.proofs.Common.{◌*◌, ◌/◌, ◌%◌}
use Rattle.cap_quiver_paths.specs.Read.{numbers_in}
use Rattle.cap_quiver_ideal.specs.Products.{product_at}
use Rattle.cap_quiver_ideal.specs.Spans.{IsGrown}
use Rattle.cap_quiver_ideal.proofs.spanning.with_relation.Given as goal

abbrev pub invariant-loop-u : goal.invariant-loop-u
invariant-loop-u l =
    let A = numbers_in l.numbers in
    IsGrown (l.u * A.count) A.count (λ i. product_at l.fn.rows.prime A l.terms l.list (i / A.count) (i % A.count)) l.fn.rows l.more
