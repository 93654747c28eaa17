-- Each matrix is a product of one with a reduced one, which is a combination of its rows and has a right inverse.
use Rattle.std.proofs.Common.{◌≡◌, ℕ, ◌*◌, ◌%◌, ◌<◌, ◌≤◌, true, sym, ap, ◌∙◌, arith, ⊎_elim}
use Rattle.std.proofs.lemmas.Nat.{mul-mod_first}
use Rattle.std.proofs.lemmas.Bool.{cases_eq}
use Rattle.std.proofs.Math.Nat.{mod-lt, mod-eq_of_lt, mul-one, mul-zero}
use Rattle.cap_field.specs.Residue.{is_tabled}
use Rattle.cap_field.proofs.Fermat.{tabled_range}
use Rattle.cap_matrix.specs.Grid.{Grid, IsMatrixOf, entry, matrix_by, product_of, unit_of}
use Rattle.cap_matrix.specs.Reduced.{IsReducedBy}
use Rattle.cap_matrix.proofs.Sums.{total-mod, total-one}
use Rattle.cap_matrix.proofs.Entries.{matrix_ext, matrix_by-at, matrix_by-is, small-at, product-matrix, unit-matrix, product-at, unit-at, delta, delta-same, delta-other, delta-small}
use Rattle.cap_reduce.proofs.Reduced.{factors, reduced_same, span_of_same, picked, picked-matrix, by_leads}
use Rattle.cap_reduce.proofs.Eliminate.{has_reduced}
use Rattle.cap_reduce.proofs.Inverses.{inverses}
use Rattle.cap_laws.specs.Split.{HasSplit, HasSplits}
use Rattle.cap_vec_laws.specs.Vec.{vec_data}
use Rattle.cap_vec_laws.proofs.Arrows.{as-arrow, as-matrix, as-same}

-- 1 in column l of row lead l
abbrev pub section_of : ℕ → ℕ → ℕ → (ℕ → ℕ) → Grid
section_of p b k lead = matrix_by p b k (λ c l. delta c (lead l))

module _ {p k b : ℕ} {n : Grid} (lead : ℕ → ℕ) (big : 2 ≤ p) (N : IsMatrixOf p k b n) (R : IsReducedBy p k b (entry n.entries) lead) where
  pub section-matrix : IsMatrixOf p b k (section_of p b k lead)
  section-matrix = matrix_by-is p b k (λ c l. delta c (lead l)) (λ c l lt below. delta-small p c (lead l) big)

  at-leads : (i l : ℕ) → i < k → l < k → entry n.entries i (lead l) ≡ delta i l
  at-leads i l lt below = ⊎_elim
      (λ e. ap (λ x. entry n.entries i (lead x)) (sym e) ∙ R.one i lt ∙ sym (delta-same i) ∙ ap (λ x. delta i x) e)
      (λ ne. R.clear i l lt below ne ∙ sym (delta-other i l ne))
      (cases_eq i l)

  pub section-unit : product_of n (section_of p b k lead) ≡ unit_of p k
  section-unit =
      let S = section-matrix in
      matrix_ext (product-matrix (omega arith) N S) (unit-matrix p k big)
      (λ i l lt below. product-at N S i l lt below
      ∙ ap (λ s. s % p) (total-one b (lead l) (λ c. entry n.entries i c * entry (section_of p b k lead).entries c l) (R.inside l below)
      (λ c inner ne. ap (λ s. entry n.entries i c * s) (matrix_by-at p b k (λ c l. delta c (lead l)) c l inner below ∙ delta-other c (lead l) ne) ∙ mul-zero (entry n.entries i c))
      ∙ ap (λ s. entry n.entries i (lead l) * s) (matrix_by-at p b k (λ c l. delta c (lead l)) (lead l) l (R.inside l below) below ∙ delta-same (lead l))
      ∙ mul-one (entry n.entries i (lead l)) ∙ at-leads i l lt below)
      ∙ mod-eq_of_lt (delta-small p i l big)
      ∙ sym (unit-at p k i l lt below))

has_split : {p a b : ℕ} {f : Grid} → is_tabled p ≡ true → IsMatrixOf p a b f → HasSplit (vec_data p) a b f
has_split {p} {a} {b} {f} t F =
    let big : 2 ≤ p = (tabled_range p t).0 in
    let one : 1 ≤ p = omega arith in
    let h = has_reduced p a b (entry f.entries) big (inverses p t) (λ i c lt below. small-at F i c lt below) in
    let r = h.count in
    let n = matrix_by p r b h.table in
    let N = matrix_by-is p r b h.table h.reduced.residues in
    let at = matrix_by-at p r b h.table in
    let red = reduced_same p r b h.table (entry n.entries) h.lead h.reduced at in
    let x = factors p a b (entry f.entries) r h.table h.there in
    let B = matrix_by-is p r a (λ k i. x.0 k i % p) (λ k i lt below. mod-lt (x.0 k i) one) in
    let A = picked-matrix h.lead big N red F in
    let S = section-matrix h.lead big N red in
    let whole = by_leads h.lead big N red F (λ i lt. span_of_same p r b h.table (entry n.entries) (entry f.entries i) at (h.back i lt)) in
    let reached : product_of (matrix_by p r a (λ k i. x.0 k i % p)) f ≡ n =
    matrix_ext (product-matrix one B F) N
    (λ k j lt below. product-at B F k j lt below
    ∙ total-mod p a (λ i. entry (matrix_by p r a (λ k i. x.0 k i % p)).entries k i * entry f.entries i j) (λ i. x.0 k i * entry f.entries i j)
    (λ i inner. ap (λ s. (s * entry f.entries i j) % p) (matrix_by-at p r a (λ k i. x.0 k i % p) k i lt inner) ∙ mul-mod_first (x.0 k i) (entry f.entries i j) p)
    ∙ x.1 k lt j below
    ∙ mod-eq_of_lt (h.reduced.residues k j lt below)
    ∙ sym (at k j lt below)) in
    record {
      middle = r;
      left = picked p a r h.lead f;
      right = n;
      onto = matrix_by p r a (λ k i. x.0 k i % p);
      section = section_of p b r h.lead;
      left_arrow = as-arrow A;
      right_arrow = as-arrow N;
      onto_arrow = as-arrow B;
      section_arrow = as-arrow S;
      whole = as-same (product-matrix one A N) F whole;
      reached = as-same (product-matrix one B F) N reached;
      unit = as-same (product-matrix one N S) (unit-matrix p r big) (section-unit h.lead big N red);
    }

pub has_splits : (p : ℕ) → is_tabled p ≡ true → HasSplits (vec_data p)
has_splits p t = record { split = λ F. has_split t (as-matrix F) }
