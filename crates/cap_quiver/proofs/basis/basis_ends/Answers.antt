use Rattle.std.proofs.Common.{◌≡◌, ◌+◌, ◌++◌, ◌∷◌, [], rules, sym, subst}
use Rattle.cap_quiver_paths.specs.Read.{numbers_in}
use Rattle.cap_quiver.specs.Rows.{AreEndsOf}
use Rattle.cap_quiver.proofs.Listed.{ends-push}
use Rattle.cap_quiver.proofs.basis.basis_ends.Goals as goal

pub loop-b-preserved : goal.loop-b-preserved
loop-b-preserved c =
    let A = numbers_in c.args.numbers.now in
    let bs = c.args.basis.now in
    let old = c.loop-b.ends.items in
    let is : c.push.new.self.items ≡ old ++ c.ends.result ∷ [] = search rules in
    subst (λ l. AreEndsOf A bs l (c.loop-b.b + 1)) (sym is) (ends-push A bs old c.loop-b.b c.ends.result c.loop-b.invariant c.ends.ensures)
