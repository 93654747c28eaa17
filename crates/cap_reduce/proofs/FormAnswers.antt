-- What an elimination leaves in a buffer is the reduced form of the matrix that stood there.
use Rattle.std.proofs.Common.{◌≡◌, ℕ, ◌+◌, ◌-◌, ◌*◌, ◌%◌, ◌≤◌, cond, ltb, leb, true, ◌&&◌, List, refl, sym, ap, ◌∙◌, arith, ⊎_elim}
use Rattle.std.proofs.lemmas.Bool.{cases_lt, and_parts, leb-true, le-leb, lt-ltb, le-ltb, cond-true, cond-false}
use Rattle.std.proofs.Math.Nat.{mul-le-mul_right}
use Rattle.cap_field.proofs.Fermat.{tabled_range}
use Rattle.cap_matrix.specs.Grid.{Grid, entry, matrix_by, zero_of, stacked_of, fits_limits}
use Rattle.cap_matrix.specs.Buffer.{matrix_of}
use Rattle.cap_matrix.specs.Reduced.{IsReducedForm}
use Rattle.cap_matrix.proofs.Entries.{matrix_by-at, zero-at}
use Rattle.cap_reduce.specs.Answers.{IsReducedInPlace}
use Rattle.cap_reduce.specs.Cleared.{IsCleared, IsSameSpan}
use Rattle.cap_reduce.specs.Flat.{cell}
use Rattle.cap_reduce.proofs.Spans.{span_same, span_within}
use Rattle.cap_reduce.proofs.Kept.{reduced_at_end, span_at_end}
use Rattle.cap_reduce.proofs.Reduced.{span_of_same}
use Rattle.cap_reduce.proofs.ReducedForms.{form-from-table}
use Rattle.cap_reduce.proofs.Made.{IsHeld, matrix_of_is}

-- fewer rows keep the limits
pub fits_fewer : (a b m : ℕ) → a ≤ b → fits_limits b m ≡ true → fits_limits a m ≡ true
fits_fewer a b m le h =
    let outer = and_parts (leb b 2048 && leb m 2048) (leb (b * m) 1048576) h in
    let inner = and_parts (leb b 2048) (leb m 2048) outer.0 in
    let x : leb a 2048 ≡ true = le-leb a 2048 (omega (arith, leb-true b 2048 inner.0)) in
    let y : leb (a * m) 1048576 ≡ true = le-leb (a * m) 1048576 (omega (arith, mul-le-mul_right m le, leb-true (b * m) 1048576 outer.1)) in
    ap (λ s. s && leb m 2048 && leb (a * m) 1048576) x ∙ ap (λ s. true && s && leb (a * m) 1048576) inner.1 ∙ ap (λ s. true && true && s) y

module _ (p n w : ℕ) (m : Grid) (first now : List ℕ) (r : ℕ) (lead : ℕ → ℕ) (H : IsHeld p n w m first)
    (span : IsSameSpan p n w (cell first w) (cell now w)) (cleared : IsCleared p n w (cell now w) lead r w) where
  positive : 1 ≤ p
  positive = omega (arith, (tabled_range p H.flat.tabled).0)

  pub form_of_buffer : IsReducedForm m (matrix_by p r w (cell now w))
  form_of_buffer =
      let few = cleared.few in
      form-from-table r (cell now w) lead positive H.matrix (reduced_at_end p n w (cell now w) lead r cleared)
      (λ i lt. span_of_same p n w (cell first w) (entry m.entries) (cell now w i) (λ k j under below. H.cell_at k j under below) (span.there i (omega arith)))
      (λ i lt. span_same p r w (cell now w) (cell first w i) (entry m.entries i)
      (span_within p r w (cell now w) n (cell now w) (cell first w i) (span_at_end p n w (cell now w) lead r cleared) (span.back i lt))
      (λ j below. ap (λ y. y % p) (sym (H.cell_at i j lt below))))

  -- the rows that are not cleared, above zero rows
  stands_above : matrix_of p n w now ≡ stacked_of (matrix_by p r w (cell now w)) (zero_of p (n - r) w)
  stands_above =
      let form = matrix_by p r w (cell now w) in
      let below_form = zero_of p (n - r) w in
      let few : r + (n - r) ≡ n = omega (arith, cleared.few) in
      matrix_of_is p n w now (λ i j. cond (ltb i r) (entry form.entries i j) (entry below_form.entries (i - r) j))
      (λ i j lt under. ⊎_elim
      (λ less. sym (cond-true (ltb i r) (entry form.entries i j) (entry below_form.entries (i - r) j) (lt-ltb i r less) ∙ matrix_by-at p r w (cell now w) i j less under))
      (λ ge. cleared.under i j ge lt under
      ∙ sym (cond-false (ltb i r) (entry form.entries i j) (entry below_form.entries (i - r) j) (le-ltb i r ge) ∙ zero-at p (n - r) w (i - r) j (omega arith) under))
      (cases_lt i r))
      ∙ ap (λ x. matrix_by p x w (λ i j. cond (ltb i r) (entry form.entries i j) (entry below_form.entries (i - r) j))) (sym few)

  pub form_in_place : IsReducedInPlace m (matrix_of p n w now) r
  form_in_place = record {
    form = matrix_by p r w (cell now w);
    is = form_of_buffer;
    rows = refl;
    few = omega (arith, cleared.few, H.matrix.from);
    above = stands_above
        ∙ ap (λ x. stacked_of (matrix_by p r w (cell now w)) (zero_of x (n - r) w)) (sym H.matrix.is.prime)
        ∙ ap (λ x. stacked_of (matrix_by p r w (cell now w)) (zero_of m.prime (x - r) w)) (sym H.matrix.from)
        ∙ ap (λ x. stacked_of (matrix_by p r w (cell now w)) (zero_of m.prime (m.row_count - r) x)) (sym H.matrix.to);
  }
