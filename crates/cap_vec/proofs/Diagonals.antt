-- Writing a diagonal into zeros, row by row.
use Rattle.std.proofs.Common.{◌≡◌, ◌≢◌, ℕ, ◌+◌, ◌*◌, ◌<◌, ◌≤◌, List, length, get_or, set, sym, ap, ◌∙◌, arith, ⊎_elim}
use Rattle.std.proofs.lemmas.List.{get_or-set_same, get_or-set_other}
use Rattle.std.proofs.lemmas.Nat.{same_from_place}
use Rattle.std.proofs.lemmas.Bool.{cases_eq}
use Rattle.std.proofs.Common.{add_comm}
use Rattle.std.proofs.Math.Nat.{add-zero}
use Rattle.cap_matrix.specs.Grid.{Grid, matrix_by}
use Rattle.cap_matrix.specs.Summands.{first_in, second_in, first_out, second_out}
use Rattle.cap_matrix.proofs.Rows.{rows_by-same}
use Rattle.cap_matrix.proofs.Entries.{delta, delta-same, delta-other}
use Rattle.cap_vec.specs.Sizes.{diagonal_of}

-- the rows before row i are written, the others are zeros
pub record IsSoFar (cols row col i : ℕ) (cells : List ℕ) : Type 0 where
  pub done : (k j : ℕ) → k < i → j < cols → get_or cells (k * cols + j) 0 ≡ delta (k + col) (j + row)
  pub rest : (k j : ℕ) → i ≤ k → j < cols → get_or cells (k * cols + j) 0 ≡ 0

pub diagonal_more : (cols row col i t : ℕ) (before : List ℕ) → i + col ≡ t + row → t < cols → i * cols + t < length before
    → IsSoFar cols row col i before → IsSoFar cols row col (i + 1) (set before (i * cols + t) 1)
diagonal_more cols row col i t before here within place h =
    let now = set before (i * cols + t) 1 in
    let kept : (k j : ℕ) → j < cols → (k ≡ i → j ≢ t) → get_or now (k * cols + j) 0 ≡ get_or before (k * cols + j) 0
    = λ k j below apart. get_or-set_other before (i * cols + t) (k * cols + j) 1 0
    (λ e. let s = same_from_place k j i t cols below within e in apart s.0 s.1) in
    record {
      done = λ k j lt below. ⊎_elim
          (λ row_is. ⊎_elim
          (λ column. ap (λ y. get_or now (y * cols + j) 0) row_is ∙ ap (λ y. get_or now (i * cols + y) 0) column
          ∙ get_or-set_same before (i * cols + t) 1 0 place
          ∙ sym (ap (λ y. delta (y + col) (j + row)) row_is ∙ ap (λ y. delta (i + col) (y + row)) column ∙ ap (λ y. delta (i + col) y) (sym here) ∙ delta-same (i + col)))
          (λ apart. kept k j below (λ e. apart) ∙ h.rest k j (omega arith) below ∙ sym (delta-other (k + col) (j + row) (omega arith)))
          (cases_eq j t))
          (λ other. kept k j below (λ e. absurd (other e)) ∙ h.done k j (omega arith) below)
          (cases_eq k i);
      rest = λ k j lt below. kept k j below (λ e. absurd (omega arith)) ∙ h.rest k j (omega arith) below;
    }

pub diagonal_skip : (cols row col i : ℕ) (cells : List ℕ) → ((t : ℕ) → t < cols → i + col ≢ t + row) → IsSoFar cols row col i cells → IsSoFar cols row col (i + 1) cells
diagonal_skip cols row col i cells none h = record {
  done = λ k j lt below. ⊎_elim
      (λ row_is. h.rest k j (omega arith) below ∙ sym (delta-other (k + col) (j + row) (λ e. none j below (ap (λ y. y + col) (sym row_is) ∙ e))))
      (λ other. h.done k j (omega arith) below)
      (cases_eq k i);
  rest = λ k j lt below. h.rest k j (omega arith) below;
}

-- the block forms of a direct sum are diagonals
diagonal_same : (p n m row col : ℕ) (f : ℕ → ℕ → ℕ) → ((i j : ℕ) → delta (i + col) (j + row) ≡ f i j) → diagonal_of p n m row col ≡ matrix_by p n m f
diagonal_same p n m row col f h = ap make (rows_by-same n m (λ i j. delta (i + col) (j + row)) f (λ i j lt below. h i j)) where
  make : List (List ℕ) → Grid
  make rs = record { prime = p; row_count = n; column_count = m; entries = rs }

module _ (p a b : ℕ) where
  pub first_in-diagonal : diagonal_of p a (a + b) 0 0 ≡ first_in p a b
  first_in-diagonal = diagonal_same p a (a + b) 0 0 (λ i j. delta i j) (λ i j. ap (λ x. delta x (j + 0)) (add-zero i) ∙ ap (λ y. delta i y) (add-zero j))

  pub second_in-diagonal : diagonal_of p b (a + b) 0 a ≡ second_in p a b
  second_in-diagonal = diagonal_same p b (a + b) 0 a (λ i j. delta (a + i) j) (λ i j. ap (λ x. delta x (j + 0)) (add_comm i a) ∙ ap (λ y. delta (a + i) y) (add-zero j))

  pub first_out-diagonal : diagonal_of p (a + b) a 0 0 ≡ first_out p a b
  first_out-diagonal = diagonal_same p (a + b) a 0 0 (λ i j. delta i j) (λ i j. ap (λ x. delta x (j + 0)) (add-zero i) ∙ ap (λ y. delta i y) (add-zero j))

  pub second_out-diagonal : diagonal_of p (a + b) b a 0 ≡ second_out p a b
  second_out-diagonal = diagonal_same p (a + b) b a 0 (λ i j. delta i (a + j)) (λ i j. ap (λ x. delta x (j + a)) (add-zero i) ∙ ap (λ y. delta i y) (add_comm j a))
