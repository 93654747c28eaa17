-- The answer of the reduction of a turned transpose is the null-row basis.
use Rattle.std.proofs.Common.{◌≡◌, ℕ, zero, suc, ◌-◌, ◌%◌, ◌<◌, ◌≤◌, Result, Ok, Err, sym, ap, subst, arith, ⊎_elim}
use Rattle.std.proofs.lemmas.Bool.{cases_eq}
use Rattle.cap_matrix.specs.Grid.{Grid, IsMatrixOf, matrix_by}
use Rattle.cap_matrix.specs.Made.{IsMade}
use Rattle.cap_matrix.specs.Reduced.{IsReducedBy, IsNullBasis}
use Rattle.cap_matrix.specs.declared.MatrixFault.{MatrixFault}
use Rattle.cap_matrix.specs.declared.MatrixFault.TheVariants.{TooLarge, NoMemory}
use Rattle.cap_reduce.specs.Answers.{IsNullRows}
use Rattle.cap_reduce.specs.Cleared.{IsCleared, IsSameSpan}
use Rattle.cap_reduce.specs.NullTable.{IsNullTableMade}
use Rattle.cap_reduce.proofs.Spans.{span_same, span_within}
use Rattle.cap_reduce.proofs.Kept.{span_at_end}
use Rattle.cap_reduce.proofs.Reduced.{span_of_same}
use Rattle.cap_reduce.proofs.NullRows.{turned_table, null_rows_by_transpose}

-- rising leads stand right of their numbers, so there are no more of them than columns
lead-grows : (p r m : ℕ) (t : ℕ → ℕ → ℕ) (lead : ℕ → ℕ) → IsReducedBy p r m t lead → (i : ℕ) → i < r → i ≤ lead i
lead-grows p r m t lead h zero lt = omega arith
lead-grows p r m t lead h (suc i) lt = omega (arith, lead-grows p r m t lead h i (omega arith), h.rising i (suc i) (omega arith) lt)

pub few_leads : (p r m : ℕ) (t : ℕ → ℕ → ℕ) (lead : ℕ → ℕ) → IsReducedBy p r m t lead → r ≤ m
few_leads p r m t lead h = ⊎_elim (λ z. omega arith)
    (λ ne. let last : r - 1 < r = omega arith in omega (arith, lead-grows p r m t lead h (r - 1) last, h.inside (r - 1) last))
    (cases_eq r 0)

made_basis : (m : Grid) (p k n : ℕ) (t : ℕ → ℕ → ℕ) (result : Result Grid MatrixFault) → IsNullBasis m (matrix_by p k n t) → IsMade result (matrix_by p k n t) → IsNullRows m result
made_basis m p k n t (Ok g) B h = subst (λ x. IsNullBasis m x) (sym h.0) B
made_basis m p k n t (Err (TooLarge s)) B h = record { basis = matrix_by p k n t; is = B; rows = h.0; cols = h.1; large = h.2 }
made_basis m p k n t (Err NoMemory) B h = tt

pub null_answer : {p n w : ℕ} {m : Grid} (r : ℕ) (first u : ℕ → ℕ → ℕ) (lead lead2 : ℕ → ℕ) (result : Result Grid MatrixFault) → 2 ≤ p → IsMatrixOf p n w m
    → ((j c : ℕ) → j < w → c < n → first j c ≡ turned_table n m j c)
    → IsSameSpan p w n first u → IsCleared p w n u lead r n → IsNullTableMade p r n u lead2 result → IsNullRows m result
null_answer {p} {n} {w} {m} r first u lead lead2 result big M turned span cleared made =
    let few = cleared.few in
    made_basis m p (n - r) n made.table result
    (null_rows_by_transpose big M r (n - r) u made.table lead2 made.free made.reduced
    (λ a lt. span_of_same p w n first (turned_table n m) (u a) (λ i j under below. sym (turned i j under below)) (span.there a (omega arith)))
    (λ j lt. span_same p r n u (first j) (turned_table n m j)
    (span_within p r n u w u (first j) (span_at_end p w n u lead r cleared) (span.back j lt))
    (λ c below. ap (λ y. y % p) (turned j c lt below)))
    made.is_free made.is_table)
    made.made
