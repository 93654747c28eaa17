use Rattle.std.proofs.Common.{◌≡◌, ℕ, ◌*◌, ◌/◌, ◌%◌, List, [], length, get_or, sym, ap, ◌∙◌, subst, arith}
use Rattle.std.proofs.lemmas.List.{get_or_default}
use Rattle.cap_quiver_laws.specs.Ideal.{ideal_table}
use Rattle.cap_quiver_paths.specs.Read.{numbers_in}
use Rattle.cap_quiver_paths.specs.Relations.{relations_of}
use Rattle.cap_quiver_paths.specs.TermNumbers.{number_in}
use Rattle.cap_quiver_paths.proofs.RelationTerms.{terms-are}
use Rattle.cap_quiver_laws.specs.Paths.{QuiverData}
use Rattle.cap_quiver_ideal.specs.Products.{product_at, AreResidueTerms}
use Rattle.cap_quiver_ideal.specs.Spans.{IsGrown, IsSpanOf}
use Rattle.cap_quiver_ideal.proofs.Steps.{relation-step, span-all}
use Rattle.cap_quiver_ideal.proofs.spanning.spanning_rows.Goals as goal

abbrev no_quiver : QuiverData
no_quiver = record { objects = 0; arrows = []; bound = 0 }

pub with_relation-requires-clause-long : goal.with_relation-requires-clause-long
with_relation-requires-clause-long c =
    let rs = c.args.relations.now in
    let r = c.loop-r.r in
    let terms : c.as_slice.result.now ≡ (relations_of rs).terms r = terms-are no_quiver rs r c.loop-r-test.true c.index-relations-r.result c.as_slice.result.now c.as_slice.ensures in
    let list : c.as_slice-in-loop-r.result.now ≡ get_or c.args.terms.now r [] = c.as_slice-in-loop-r.ensures ∙ c.index-terms-r.is ∙ get_or_default c.args.terms.now r c.index-terms-r.result [] (omega (arith, c.loop-r-test.true, c.requires.many)) in
    ap (λ (l : List ℕ). length l) list ∙ c.requires.long r c.loop-r-test.true ∙ sym (ap (λ (l : List (ℕ × List ℕ)). length l) terms)

pub with_relation-requires-clause-residues : goal.with_relation-requires-clause-residues
with_relation-requires-clause-residues c =
    let rs = c.args.relations.now in
    let r = c.loop-r.r in
    let terms : c.as_slice.result.now ≡ (relations_of rs).terms r = terms-are no_quiver rs r c.loop-r-test.true c.index-relations-r.result c.as_slice.result.now c.as_slice.ensures in
    subst (λ ts. AreResidueTerms c.loop-r.rows.prime ts) (sym terms)
    (subst (λ p. AreResidueTerms p ((relations_of rs).terms r)) (sym c.loop-r.invariant.short.matrix.is.prime) (c.requires.residues r c.loop-r-test.true))

pub loop-r-preserved : goal.loop-r-preserved
loop-r-preserved c =
    let p = c.args.field in
    let A = numbers_in c.args.numbers.now in
    let m = A.count in
    let rs = c.args.relations.now in
    let r = c.loop-r.r in
    let J = c.loop-r.rows in
    let F = c.in_ok-rows-2.rows in
    let terms : c.as_slice.result.now ≡ (relations_of rs).terms r = terms-are no_quiver rs r c.loop-r-test.true c.index-relations-r.result c.as_slice.result.now c.as_slice.ensures in
    let list : c.as_slice-in-loop-r.result.now ≡ get_or c.args.terms.now r [] = c.as_slice-in-loop-r.ensures ∙ c.index-terms-r.is ∙ get_or_default c.args.terms.now r c.index-terms-r.result [] (omega (arith, c.loop-r-test.true, c.requires.many)) in
    relation-step p A (relations_of rs) (number_in c.args.terms.now) r J F c.loop-r.invariant
    (subst (λ x. IsGrown (m * m) m (λ i. product_at x A ((relations_of rs).terms r) (get_or c.args.terms.now r []) (i / m) (i % m)) J F) c.loop-r.invariant.short.matrix.is.prime
    (subst (λ ts. IsGrown (m * m) m (λ i. product_at J.prime A ts (get_or c.args.terms.now r []) (i / m) (i % m)) J F) terms
    (subst (λ l. IsGrown (m * m) m (λ i. product_at J.prime A c.as_slice.result.now l (i / m) (i % m)) J F) list c.in_ok-rows-2.ensures)))

pub returns : goal.returns
returns c =
    let p = c.args.field in
    let A = numbers_in c.args.numbers.now in
    let R = relations_of c.args.relations.now in
    let number = number_in c.args.terms.now in
    span-all p A R number c.loop-r.rows
    (subst (λ n. IsSpanOf p (n * (A.count * A.count)) A.count (ideal_table p A R number) c.loop-r.rows)
    (let e : c.loop-r.r ≡ R.count = omega (arith, c.loop-r-test.false, c.loop-r.auto.r-end) in e) c.loop-r.invariant)
