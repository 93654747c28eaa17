use Rattle.std.proofs.Common.{◌≡◌, ℕ, ◌<◌, List, [], length, get_or, sym, ap, ◌∙◌, subst, arith}
use Rattle.cap_quiver_laws.specs.Paths.{IsQuiver, IsPathList}
use Rattle.cap_quiver_laws.specs.Ideal.{IsRelation}
use Rattle.cap_quiver_laws.proofs.Numbering.{path-algebra}
use Rattle.cap_quiver_laws.proofs.Unique.{basis-short}
use Rattle.cap_quiver_paths.specs.Data.{quiver}
use Rattle.cap_quiver_paths.specs.Read.{numbers_in}
use Rattle.cap_quiver_paths.specs.Relations.{relations_of}
use Rattle.cap_quiver_paths.specs.TermNumbers.{HasShortTerms}
use Rattle.cap_quiver_paths.proofs.NumberLists.{terms-inside}
use Rattle.cap_quiver_ideal.specs.Products.{AreResidueTerms}
use Rattle.cap_quiver.proofs.Tabled.{relation-anywhere, fits-quiver, quiver-answer}
use Rattle.cap_quiver.proofs.quiver.Quiver.table_of_paths.Goals as goal

pub numbered-requires-clause-quiver : goal.numbered-requires-clause-quiver
numbered-requires-clause-quiver c =
    let q = c.args.self.now in
    let ps = c.args.paths.now in
    let ea = c.as_slice-arrows.ensures in
    let W : IsQuiver (quiver q.objects q.arrows q.bound) = fits-quiver q.field q.objects q.arrows q.relations q.bound q.fit in
    subst (λ a. IsQuiver (quiver q.objects a q.bound)) (sym ea) W

pub numbered-requires-clause-few_objects : goal.numbered-requires-clause-few_objects
numbered-requires-clause-few_objects c =
    c.args.self.now.fit.few_objects

pub numbered-requires-clause-paths : goal.numbered-requires-clause-paths
numbered-requires-clause-paths c =
    let q = c.args.self.now in
    let ps = c.args.paths.now in
    let ea = c.as_slice-arrows.ensures in
    let W : IsQuiver (quiver q.objects q.arrows q.bound) = fits-quiver q.field q.objects q.arrows q.relations q.bound q.fit in
    subst (λ a. IsPathList (quiver q.objects a q.bound) ps) (sym ea) c.requires.paths

pub term_numbers-requires-clause-known : goal.term_numbers-requires-clause-known
term_numbers-requires-clause-known c =
    let q = c.args.self.now in
    let ps = c.args.paths.now in
    let ea = c.as_slice-arrows.ensures in
    let W : IsQuiver (quiver q.objects q.arrows q.bound) = fits-quiver q.field q.objects q.arrows q.relations q.bound q.fit in
    subst (λ a. HasShortTerms (quiver 0 a q.bound) ps) (sym ea) (terms-inside q.objects q.arrows q.bound ps W c.requires.paths)

pub term_numbers-requires-clause-good : goal.term_numbers-requires-clause-good
term_numbers-requires-clause-good c =
    let q = c.args.self.now in
    let ps = c.args.paths.now in
    let ea = c.as_slice-arrows.ensures in
    let W : IsQuiver (quiver q.objects q.arrows q.bound) = fits-quiver q.field q.objects q.arrows q.relations q.bound q.fit in
    let er = c.as_slice-relations.ensures in
    subst (λ rs. (r : ℕ) → r < length rs → IsRelation (quiver 0 c.as_slice-arrows.result.now q.bound) (relations_of rs) r) (sym er)
    (subst (λ a. (r : ℕ) → r < length q.relations → IsRelation (quiver 0 a q.bound) (relations_of q.relations) r) (sym ea)
    (λ r lt. relation-anywhere q.objects 0 q.bound q.bound q.arrows (relations_of q.relations) r (c.requires.good r lt)))

pub quotient-requires-clause-algebra : goal.quotient-requires-clause-algebra
quotient-requires-clause-algebra c =
    let q = c.args.self.now in
    let ps = c.args.paths.now in
    let ea = c.as_slice-arrows.ensures in
    let W : IsQuiver (quiver q.objects q.arrows q.bound) = fits-quiver q.field q.objects q.arrows q.relations q.bound q.fit in
    let one = c.as_slice-arrows.result.now in
    let A = numbers_in c.in_ok-numbers.numbers in
    let V : IsQuiver (quiver q.objects one q.bound) = subst (λ a. IsQuiver (quiver q.objects a q.bound)) (sym ea) W in
    let L : IsPathList (quiver q.objects one q.bound) ps = subst (λ a. IsPathList (quiver q.objects a q.bound) ps) (sym ea) c.requires.paths in
    path-algebra (quiver q.objects one q.bound) ps A V L c.in_ok-numbers.ensures

pub quotient-requires-clause-many : goal.quotient-requires-clause-many
quotient-requires-clause-many c =
    ap (λ (l : List (List ℕ)). length l) c.as_slice.ensures ∙ c.in_ok-terms.ensures.long

pub quotient-requires-clause-long : goal.quotient-requires-clause-long
quotient-requires-clause-long c =
    subst (λ ts. (r : ℕ) → r < length c.as_slice-relations.result.now → length (get_or ts r []) ≡ length ((relations_of c.as_slice-relations.result.now).terms r)) (sym c.as_slice.ensures)
    (λ r lt. (c.in_ok-terms.ensures.at r lt).long)

pub quotient-requires-clause-residues : goal.quotient-requires-clause-residues
quotient-requires-clause-residues c =
    let q = c.args.self.now in
    let ps = c.args.paths.now in
    let ea = c.as_slice-arrows.ensures in
    let W : IsQuiver (quiver q.objects q.arrows q.bound) = fits-quiver q.field q.objects q.arrows q.relations q.bound q.fit in
    let er = c.as_slice-relations.ensures in
    subst (λ rs. (r : ℕ) → r < length rs → AreResidueTerms q.field ((relations_of rs).terms r)) (sym er) (λ r lt. (q.fit.relations_fit r lt).1)

pub basis_arrows-requires : goal.basis_arrows-requires
basis_arrows-requires c =
    let H = c.in_ok-made.ensures in
    let bs = c.in_ok-made.made.1.items in
    let eb = c.as_slice-2.ensures.value in
    λ b lt. omega (arith, ap (λ (l : List ℕ). get_or l b 0) eb, H.quotient.basis.inside b (omega (arith, lt, ap (λ (l : List ℕ). length l) eb)), c.in_ok-numbers.ensures.count)

pub invariant_of-result : goal.invariant_of-result
invariant_of-result c =
    let H = c.in_ok-made.ensures in
    let eb = c.as_slice-2.ensures.value in
    record {
      count = ap (λ (l : List (List ℕ)). length l) c.new.ensures ∙ c.in_ok-list.ensures.long ∙ ap (λ (l : List ℕ). length l) eb ∙ sym H.quotient.count;
      few = omega (arith, ap (λ (l : List (List ℕ)). length l) c.new.ensures, c.in_ok-list.ensures.long, ap (λ (l : List ℕ). length l) eb, basis-short H.quotient.basis, c.in_ok-numbers.ensures.count, c.requires.few);
    }

pub returns : goal.returns
returns c =
    let q = c.args.self.now in
    let ps = c.args.paths.now in
    quiver-answer q.field q.objects q.bound c.as_slice-arrows.result.now q.arrows c.as_slice-relations.result.now q.relations ps (numbers_in c.in_ok-numbers.numbers) c.as_slice.result.now c.in_ok-terms.terms
    c.as_slice-2.result.now c.in_ok-made.made.1.items c.in_ok-list.list.items c.new.result
    c.as_slice-arrows.ensures c.as_slice-relations.ensures c.as_slice.ensures c.as_slice-2.ensures.value c.new.ensures
    c.requires.paths c.requires.good c.in_ok-numbers.ensures c.in_ok-terms.ensures c.in_ok-made.ensures c.in_ok-list.ensures
