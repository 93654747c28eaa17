use Rattle.std.proofs.Common.{◌≡◌, ℕ, ◌++◌, ◌∷◌, [], cond, ltb, get_or, rules, sym, ap, ◌∙◌}
use Rattle.cap_laws.specs.Table.{row_below}
use Rattle.cap_matrix.specs.Grid.{entry}
use Rattle.cap_quiver.proofs.ClassRows.{row-more}
use Rattle.cap_quiver.proofs.classes.class_row.Goals as goal

pub loop-l-preserved : goal.loop-l-preserved
loop-l-preserved c =
    let g = c.args.rows.now in
    let old = c.loop-l.row.items in
    let x = c.coordinate.result in
    let is : c.push.new.self.items ≡ old ++ x ∷ [] = search rules in
    let f : ℕ → ℕ = λ i. cond (ltb c.args.q g.column_count) (entry g.entries (get_or c.args.hom.now i 0) c.args.q) 0 in
    is ∙ ap (λ l. l ++ x ∷ []) c.loop-l.invariant ∙ ap (λ y. row_below c.loop-l.l f ++ y ∷ []) c.coordinate.ensures ∙ sym (row-more c.loop-l.l f)
