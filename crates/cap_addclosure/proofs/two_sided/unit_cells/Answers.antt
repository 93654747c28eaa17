use Rattle.std.proofs.Common.{◌≡◌, ◌≢◌, ℕ, ◌<◌, List, get_or, set, length, replicate, sym, ap, ◌∙◌, arith, ⊎_elim}
use Rattle.std.proofs.lemmas.Bool.{cases_eq}
use Rattle.std.proofs.lemmas.List.{length-replicate, get_or-replicate, length-set, get_or-set_same, get_or-set_other}
use Rattle.cap_matrix.proofs.Rows.{row_by_is}
use Rattle.cap_matrix.proofs.Entries.{delta, delta-same, delta-other}
use Rattle.cap_homlaw.specs.Rows.{unit_row}
use Rattle.cap_addclosure.proofs.two_sided.unit_cells.Goals as goal

one-set : (n t : ℕ) (old : List ℕ) → t < n → old ≡ replicate n 0 → set old t 1 ≡ unit_row n t
one-set n t old lt e =
    let long : length old ≡ n = ap (λ (l : List ℕ). length l) e ∙ length-replicate {A = ℕ} n 0 in
    row_by_is n (λ i. delta i t) (set old t 1) (length-set old t 1 ∙ long)
    (λ i h. ⊎_elim
    (λ (s : i ≡ t). ap (λ j. get_or (set old t 1) j 0) s ∙ get_or-set_same old t 1 0 (omega (arith, lt, long)) ∙ sym (ap (λ j. delta j t) s ∙ delta-same t))
    (λ (ne : i ≢ t). get_or-set_other old t i 1 0 ne ∙ ap (λ (l : List ℕ). get_or l i 0) e ∙ get_or-replicate n i 0 0 (omega (arith, h, length-replicate {A = ℕ} n 0)) ∙ sym (delta-other i t ne))
    (cases_eq i t))

pub returns : goal.returns
returns c = one-set c.args.n c.args.t c.in_ok-row.row.items c.requires c.in_ok-row.ensures
