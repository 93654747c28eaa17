use Rattle.std.proofs.Common.{◌≡◌, ℕ, ◌*◌, List, [], get_or, ap, ◌∙◌, arith}
use Rattle.std.proofs.lemmas.List.{get_or_default}
use Rattle.cap_quiver_laws.specs.Quotient.{path_at}
use Rattle.cap_quiver_paths.specs.Read.{numbers_in}
use Rattle.cap_quiver_ideal.proofs.Terms.{term-step}
use Rattle.cap_quiver_ideal.proofs.products.add_terms.Goals as goal

pub loop-k-preserved : goal.loop-k-preserved
loop-k-preserved c = λ q lq.
    let A = numbers_in c.args.numbers.now in
    let terms = c.args.terms.now in
    let k = c.loop-k.k in
    let f = λ (i : ℕ). (get_or terms i (0, [])).0 * path_at (A.join (A.join c.args.u (get_or c.args.list.now i 0)) c.args.v) q in
    let found = get_or terms k c.index-terms-k.result in
    let item : found ≡ get_or terms k (0, []) = get_or_default terms k c.index-terms-k.result (0, []) c.loop-k-test.true in
    let joined : c.join-at.result ≡ A.join (A.join c.args.u (get_or c.args.list.now k 0)) c.args.v = c.join-at.ensures ∙ ap (λ a. A.join a c.args.v) c.join.ensures in
    term-step c.args.field k f (get_or c.loop-k.row q 0) (get_or c.add_at.new.row q 0) (found.0 * path_at c.join-at.result q) (c.loop-k.invariant q lq)
    (c.add_at.ensures q (omega (arith, lq, c.requires.width, c.loop-k.auto.row)))
    (ap (λ (e : ℕ × List ℕ). e.0 * path_at c.join-at.result q) item ∙ ap (λ a. (get_or terms k (0, [])).0 * path_at a q) joined)
