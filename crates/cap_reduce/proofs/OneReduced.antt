-- A span has one reduced matrix.
use Rattle.std.proofs.Common.{◌≡◌, ℕ, ◌*◌, ◌%◌, ◌<◌, List, [], length, get_or, sym, ap, ◌∙◌, subst, arith}
use Rattle.std.proofs.lemmas.List.{ext_get_or}
use Rattle.std.proofs.Math.Nat.{mod-eq_of_lt, mod-mod}
use Rattle.cap_matrix.specs.Grid.{Grid, entry, total, row_by}
use Rattle.cap_matrix.specs.Reduced.{IsInSpan}
use Rattle.cap_matrix.proofs.Sums.{total-same}
use Rattle.cap_matrix.proofs.Rows.{length-row_by, row_by-at, row_by_is}
use Rattle.cap_matrix.specs.Reduced.{InSpan, IsReducedBy}
use Rattle.cap_matrix.specs.Reduced.{IsReduced}
use Rattle.cap_reduce.specs.Laws.{OneReducedMatrix}
use Rattle.cap_reduce.proofs.Spans.{span_row}
use Rattle.cap_reduce.proofs.Unique.{reduced_unique}

-- from a list of factors to a function, and back
pub span_from_list : (g : Grid) (v : List ℕ) → IsInSpan g v → InSpan g.prime g.row_count g.column_count (entry g.entries) (λ j. get_or v j 0)
span_from_list g v s = (
  λ i. get_or s.0 i 0,
  λ j lt.
      sym (mod-mod (total g.row_count (λ i. get_or s.0 i 0 * entry g.entries i j)) g.prime)
      ∙ ap (λ y. y % g.prime) (sym (row_by-at g.column_count (λ c. total g.row_count (λ i. get_or s.0 i 0 * entry g.entries i c) % g.prime) j lt)
      ∙ sym (ap (λ xs. get_or xs j 0) s.2)),
)

pub span_to_list : (g : Grid) (v : List ℕ) → InSpan g.prime g.row_count g.column_count (entry g.entries) (λ j. get_or v j 0)
    → length v ≡ g.column_count → ((j : ℕ) → j < g.column_count → get_or v j 0 < g.prime) → IsInSpan g v
span_to_list g v s long small =
    let x = row_by g.row_count s.0 in (
      x,
      length-row_by g.row_count s.0,
      row_by_is g.column_count (λ j. total g.row_count (λ i. get_or x i 0 * entry g.entries i j) % g.prime) v long
          (λ j lt. sym (mod-eq_of_lt (small j lt)) ∙ sym (s.1 j lt)
          ∙ ap (λ y. y % g.prime) (total-same g.row_count (λ i. s.0 i * entry g.entries i j) (λ i. get_or x i 0 * entry g.entries i j)
          (λ i below. ap (λ y. y * entry g.entries i j) (sym (row_by-at g.row_count s.0 i below))))),
    )

-- each row of a reduced matrix is in every span that holds its own
row_there : (g h : Grid) → g.prime ≡ h.prime → g.column_count ≡ h.column_count → IsReduced g
    → ((v : List ℕ) → IsInSpan g v → IsInSpan h v) → (i : ℕ) → i < g.row_count
    → InSpan h.prime h.row_count h.column_count (entry h.entries) (entry g.entries i)
row_there g h same wide r there i lt =
    span_from_list h (get_or g.entries i [])
    (there (get_or g.entries i []) (span_to_list g (get_or g.entries i [])
    (span_row g.prime g.row_count g.column_count (entry g.entries) i lt) (r.shaped.column_many i lt)
    (λ j below. r.by_leads.residues i j lt below)))

pub one_reduced_matrix : OneReducedMatrix
one_reduced_matrix g h big same wide rg rh spans =
    let hg = subst (λ q. IsReducedBy q h.row_count h.column_count (entry h.entries) rh.lead) (sym same) rh.by_leads in
    let hg2 = subst (λ w. IsReducedBy g.prime h.row_count w (entry h.entries) rh.lead) (sym wide) hg in
    let a = λ (i : ℕ) (lt : i < g.row_count). subst (λ w. InSpan g.prime h.row_count w (entry h.entries) (entry g.entries i)) (sym wide)
    (subst (λ q. InSpan q h.row_count h.column_count (entry h.entries) (entry g.entries i)) (sym same)
    (row_there g h same wide rg (λ v s. (spans v).0 s) i lt)) in
    let b = λ (i : ℕ) (lt : i < h.row_count). row_there h g (sym same) (sym wide) rh (λ v s. (spans v).1 s) i lt in
    let u = reduced_unique g.prime g.row_count h.row_count g.column_count (entry g.entries) (entry h.entries) rg.lead rh.lead big rg.by_leads hg2 a b in
    let count : g.row_count ≡ h.row_count = u.0 in
    let rows : g.entries ≡ h.entries =
    ext_get_or [] g.entries h.entries (rg.shaped.row_many ∙ count ∙ sym rh.shaped.row_many)
    (λ i lt. let below : i < g.row_count = let e = rg.shaped.row_many in omega arith in
    let below2 : i < h.row_count = omega arith in
    let widths = rg.shaped.column_many i below in let widths2 = rh.shaped.column_many i below2 in
    ext_get_or 0 (get_or g.entries i []) (get_or h.entries i []) (omega arith)
    (λ j inner. u.1 i j below (omega arith))) in
    let make : ℕ → ℕ → ℕ → List (List ℕ) → Grid = λ p n m e. record { prime = p; row_count = n; column_count = m; entries = e } in
    ap (λ x. make x g.row_count g.column_count g.entries) same
    ∙ ap (λ x. make h.prime x g.column_count g.entries) count
    ∙ ap (λ x. make h.prime h.row_count x g.entries) wide
    ∙ ap (λ x. make h.prime h.row_count h.column_count x) rows
