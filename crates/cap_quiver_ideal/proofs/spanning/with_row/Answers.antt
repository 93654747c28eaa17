use Rattle.std.proofs.Common.{◌≡◌, ℕ, List, get_or, ◌∙◌, subst}
use Rattle.cap_matrix.specs.Grid.{entry}
use Rattle.cap_matrix.specs.Reduced.{InSpan}
use Rattle.cap_quiver_ideal.proofs.Growth.{grown-spanned}
use Rattle.cap_quiver_ideal.proofs.spanning.with_row.Goals as goal

pub returns-then-is_spanned : goal.returns-then-is_spanned
returns-then-is_spanned c =
    let J = c.args.rows in
    let e : c.deref_mut.result.now ≡ c.args.row.items = c.deref_mut.ensures.value ∙ c.in_ok-rest.ensures.items ∙ c.as_slice.ensures.value in
    grown-spanned J.column_count (λ q. get_or c.args.row.items q 0) J c.requires.short
    (subst (λ (l : List ℕ). InSpan J.prime J.row_count J.column_count (entry J.entries) (λ q. get_or l q 0)) e (c.is_spanned.ensures c.if-is_spanned.true))
