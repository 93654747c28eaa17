use Rattle.std.proofs.Common.{◌≡◌, ◌≢◌, ℕ, ◌+◌, ◌*◌, ◌<◌, length, get_or, set, sym, ap, ◌∙◌, arith, ⊎_elim}
use Rattle.std.proofs.lemmas.List.{get_or-set_same, get_or-set_other}
use Rattle.std.proofs.lemmas.Nat.{mul-add-lt, same_from_place}
use Rattle.std.proofs.lemmas.Bool.{cases_eq}
use Rattle.cap_matrix.proofs.Entries.{delta, delta-same, delta-other}
use Rattle.cap_matrix.proofs.kernels.write_ones.Goals as goal

pub loop-i-preserved : goal.loop-i-preserved
loop-i-preserved c =
    let n = c.args.n in
    let i = c.loop-i.i in
    let before = c.loop-i.cells in
    let now = set before (i * n + i) 1 in
    let within : i < n = omega arith in
    let place : i * n + i < length before = omega (arith, mul-add-lt i n i n within within) in
    let kept : (k j : ℕ) → j < n → (k ≡ i → j ≢ i) → get_or now (k * n + j) 0 ≡ get_or before (k * n + j) 0
    = λ k j below apart. get_or-set_other before (i * n + i) (k * n + j) 1 0
    (λ e. let s = same_from_place k j i i n below within e in apart s.0 s.1) in
    record {
      done = λ k j lt below. ⊎_elim
          (λ row. ⊎_elim
          (λ column. ap (λ y. get_or now (y * n + j) 0) row ∙ ap (λ y. get_or now (i * n + y) 0) column
          ∙ get_or-set_same before (i * n + i) 1 0 place
          ∙ sym (ap (λ y. delta y j) row ∙ ap (λ y. delta i y) column ∙ delta-same i))
          (λ apart. kept k j below (λ e. apart) ∙ c.loop-i.invariant.rest k j (omega arith) below
          ∙ sym (delta-other k j (λ e. apart (sym e ∙ row))))
          (cases_eq j i))
          (λ other. kept k j below (λ e. absurd (other e)) ∙ c.loop-i.invariant.done k j (omega arith) below)
          (cases_eq k i);
      rest = λ k j lt below. kept k j below (λ e. absurd (omega arith)) ∙ c.loop-i.invariant.rest k j (omega arith) below;
    }
