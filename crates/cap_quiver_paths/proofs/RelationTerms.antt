-- Relations by the terms that a list of relations tells.
use Rattle.std.proofs.Common.{◌≡◌, ℕ, ◌<◌, List, [], length, get_or, sym, ap, ◌∙◌, subst}
use Rattle.std.proofs.lemmas.List.{get_or_default}
use Rattle.cap_quiver_laws.specs.Paths.{QuiverData}
use Rattle.cap_quiver_laws.specs.Ideal.{IsRelation}
use Rattle.cap_quiver_paths.specs.declared.relation.Relation.{Relation}
use Rattle.cap_quiver_paths.specs.Relations.{relations_of, AreTerms}

module _ (Q : QuiverData) (rs : List Relation) (r : ℕ) (lt : r < length rs) (found : Relation) (terms : List (ℕ × List ℕ)) (read : terms ≡ (get_or rs r found).terms) where
  pub terms-are : terms ≡ (relations_of rs).terms r
  terms-are = read ∙ ap (λ (x : Relation). x.terms) (get_or_default rs r found (record { terms = [] }) lt)

  pub relation-from : (x : ℕ) × (y : ℕ) × AreTerms Q terms x y → IsRelation Q (relations_of rs) r
  relation-from h =
      let all : AreTerms Q ((relations_of rs).terms r) h.0 h.1 = subst (λ ts. AreTerms Q ts h.0 h.1) terms-are h.2 in
      record { from = h.0; to = h.1; terms = all }

  pub relation-to : IsRelation Q (relations_of rs) r → (x : ℕ) × (y : ℕ) × AreTerms Q terms x y
  relation-to h = (h.from, h.to, subst (λ ts. AreTerms Q ts h.from h.to) (sym terms-are) h.terms)
