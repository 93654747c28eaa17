use Rattle.std.proofs.Common.{◌≡◌, ◌<◌, ◌≤◌, ℕ, List, [], length, get_or, refl, sym, ap, ◌∙◌, subst, arith, rules}
use Rattle.std.proofs.lemmas.List.{get_or_default}
use Rattle.cap_quiver_laws.specs.Ideal.{IsTermPath}
use Rattle.cap_quiver_paths.specs.Data.{quiver}
use Rattle.cap_quiver_paths.specs.Relations.{AreTerms}
use Rattle.cap_quiver_paths.proofs.relations.is_relation.Goals as goal

pub returns-then-is_empty : goal.returns-then-is_empty
returns-then-is_empty c =
    let none : length c.args.terms.now ≤ 0 = search rules in
    (λ t. (0, 0, λ k lt. absurd (omega (arith, lt, none))), λ h. refl)

pub returns-in-Some : goal.returns-in-Some
returns-in-Some c =
    let q = quiver 0 c.args.arrows.now 0 in
    let terms = c.args.terms.now in
    let some : 0 < length terms = search rules in
    let list : c.as_slice.result.now ≡ (get_or terms 0 (0, [])).1 = c.as_slice.ensures ∙ ap (λ (t : ℕ × List ℕ). t.1) (get_or_default terms 0 c.index-terms-0.result (0, []) some) in (
      λ t. (c.in-Some.x, c.in-Some.y, c.all_go.ensures.0 t),
      λ h.
          let ends = c.in-Some.ensures h.0 h.1 (subst (λ (l : List ℕ). IsTermPath q h.0 h.1 l) (sym list) (h.2 0 some)) in
          c.all_go.ensures.1 (subst (λ y. AreTerms q terms c.in-Some.x y) ends.1 (subst (λ x. AreTerms q terms x h.1) ends.0 h.2)),
    )
