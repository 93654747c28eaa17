use Rattle.std.proofs.Common.{◌≡◌, ◌+◌, ◌++◌, ◌∷◌, [], rules, sym, subst}
use Rattle.cap_matrix.specs.Grid.{entry}
use Rattle.cap_quiver_paths.specs.Read.{numbers_in}
use Rattle.cap_quiver.specs.Rows.{AreProductRows}
use Rattle.cap_quiver.proofs.Listed.{products-push}
use Rattle.cap_quiver.proofs.classes.product_rows.Goals as goal

pub loop-k-preserved : goal.loop-k-preserved
loop-k-preserved c =
    let A = numbers_in c.args.numbers.now in
    let g = c.args.rows.now in
    let homs = c.args.homs.now in
    let bs = c.args.basis.now in
    let old = c.loop-k.products.items in
    let row = c.in_ok-row.row.items in
    let is : c.push.new.self.items ≡ old ++ row ∷ [] = search rules in
    subst (λ l. AreProductRows A g.column_count (entry g.entries) homs bs l (c.loop-k.k + 1)) (sym is)
    (products-push A g.column_count (entry g.entries) homs bs old c.loop-k.k row c.loop-k.invariant c.in_ok-row.ensures)
