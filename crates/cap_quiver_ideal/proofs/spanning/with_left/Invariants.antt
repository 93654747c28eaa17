use Rattle.cap_quiver_paths.specs.Read.{numbers_in}
use Rattle.cap_quiver_ideal.specs.Products.{product_at}
use Rattle.cap_quiver_ideal.specs.Spans.{IsGrown}
use Rattle.cap_quiver_ideal.proofs.spanning.with_left.Given as goal

abbrev pub invariant-loop-v : goal.invariant-loop-v
invariant-loop-v l = IsGrown l.v (numbers_in l.numbers).count (product_at l.fn.rows.prime (numbers_in l.numbers) l.terms l.list l.u) l.fn.rows l.more
