-- Lifts row by row.
use Rattle.std.proofs.Common.{◌≡◌, ℕ, ◌*◌, ◌%◌, ◌<◌, ◌≤◌, [], get_or, refl, sym, ap, ◌∙◌, arith}
use Rattle.cap_field.proofs.Fermat.{tabled_range}
use Rattle.cap_matrix.specs.Grid.{Grid, IsMatrixOf, entry, total, product_of, row_times}
use Rattle.cap_matrix.proofs.Rows.{row_by-at, row_by_is}
use Rattle.cap_matrix.proofs.Entries.{matrix_ext, same-at, product-matrix, product-at}
use Rattle.cap_vec_laws.specs.Laws.{LiftByRows, NoLiftByRow}
use Rattle.cap_vec_laws.proofs.Arrows.{as-arrow, as-matrix, as-same, whole-matrix}

-- the rows of a product
pub row-of-product : {p x a b : ℕ} {u f : Grid} → IsMatrixOf p x a u → IsMatrixOf p a b f → (i j : ℕ) → i < x → j < b
    → get_or (row_times (get_or u.entries i []) f) j 0 ≡ entry (product_of u f).entries i j
row-of-product {p} {x} {a} {b} {u} {f} U F i j lt below =
    row_by-at f.column_count (λ j. total f.row_count (λ k. entry u.entries i k * entry f.entries k j) % f.prime) j (omega (arith, F.to))
    ∙ ap (λ q. total f.row_count (λ k. entry u.entries i k * entry f.entries k j) % q) F.is.prime
    ∙ ap (λ n. total n (λ k. entry u.entries i k * entry f.entries k j) % p) F.from
    ∙ sym (product-at U F i j lt below)

pub lift_by_rows : LiftByRows
lift_by_rows p h t f u IT IF IU meet high wide rows =
    let pos : 1 ≤ p = omega (arith, (tabled_range p h).0) in
    let T : IsMatrixOf p t.row_count f.column_count t = record { is = IT; from = refl; to = meet } in
    let F = whole-matrix IF in
    let U : IsMatrixOf p t.row_count f.row_count u = record { is = IU; from = high; to = wide } in
    let UF = product-matrix pos U F in (
      as-arrow U,
      as-same UF T (matrix_ext UF T (λ i j lt below. sym (row-of-product U F i j lt below) ∙ ap (λ r. get_or r j 0) (rows i lt))),
    )

pub no_lift_by_row : NoLiftByRow
no_lift_by_row p t f IT IF meet i lt none =
    let F = whole-matrix IF in
    λ s.
    let S = as-matrix s.arrow in
    none (
      get_or s.by.entries i [],
      S.is.shaped.column_many i (omega (arith, S.from)) ∙ S.to,
      row_by_is f.column_count (λ j. total f.row_count (λ k. entry s.by.entries i k * entry f.entries k j) % f.prime) (get_or t.entries i []) (IT.shaped.column_many i lt ∙ meet)
          (λ j below. sym (same-at s.holds.congruent i j) ∙ sym (row-of-product S F i j lt below)
          ∙ row_by-at f.column_count (λ j. total f.row_count (λ k. entry s.by.entries i k * entry f.entries k j) % f.prime) j below),
    )
