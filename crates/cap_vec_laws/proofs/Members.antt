-- Canonical kernels and lifts are functions of data alone: a grid that is no matrix is first made one. And their laws.
use Rattle.std.proofs.Common.{◌≡◌, ℕ, ◌%◌, ◌≤◌, true, Option, sym, ap, ◌∙◌, subst, arith, inl, inr, ⊎_elim}
use Rattle.std.specs.Prelude.{None}
use Rattle.std.proofs.lemmas.Bool.{cases_eq}
use Rattle.std.proofs.Math.Nat.{mod-lt, mod-eq_of_lt}
use Rattle.cap_field.specs.Residue.{is_tabled}
use Rattle.cap_field.proofs.Fermat.{tabled_range}
use Rattle.cap_matrix.specs.Grid.{Grid, IsMatrix, entry, matrix_by, transposed_of}
use Rattle.cap_matrix.specs.Reduced.{IsNullBasis}
use Rattle.cap_matrix.proofs.Entries.{matrix_ext, matrix_by-at, matrix_by-is}
use Rattle.cap_reduce.proofs.ReducedForms.{null_basis_exists}
use Rattle.cap_matrix.proofs.Transpose.{transposed-matrix}
use Rattle.cap_laws.specs.Linear.{Arrow}
use Rattle.cap_laws.specs.Universal.{IsKernel, IsCokernel, IsWeakKernel, IsWeakCokernel, IsLift, IsColift}
use Rattle.cap_laws.proofs.Opposite.{opposite-linear}
use Rattle.cap_laws.proofs.Textbook.{weak-from-kernel}
use Rattle.cap_vec_laws.specs.Vec.{vec_data, map_option}
use Rattle.cap_vec_laws.specs.Laws.{IsRowLift, MembersExist}
use Rattle.cap_vec_laws.proofs.Arrows.{as-arrow, as-matrix, whole-matrix}
use Rattle.cap_vec_laws.proofs.Linear.{vec_linear}
use Rattle.cap_vec_laws.proofs.Kernels.{kernel-from-basis}
use Rattle.cap_vec_laws.proofs.Cokernels.{cokernel-from-basis, colift_by_transposes}
use Rattle.cap_vec_laws.proofs.RowLifts.{row_lift_exists, row_lift_is_lift}

-- each entry modulo p
residues_of : ℕ → Grid → Grid
residues_of p m = matrix_by p m.row_count m.column_count (λ i j. entry m.entries i j % p)

residues_of-is : (p : ℕ) → 1 ≤ p → (m : Grid) → IsMatrix p (residues_of p m)
unfolding residues_of
residues_of-is p pos m = (matrix_by-is p m.row_count m.column_count (λ i j. entry m.entries i j % p) (λ i j lt below. mod-lt (entry m.entries i j) pos)).is

residues_of-same : (p : ℕ) → 1 ≤ p → (m : Grid) → IsMatrix p m → residues_of p m ≡ m
unfolding residues_of
residues_of-same p pos m M =
    matrix_ext (matrix_by-is p m.row_count m.column_count (λ i j. entry m.entries i j % p) (λ i j lt below. mod-lt (entry m.entries i j) pos)) (whole-matrix M)
    (λ i j lt below. matrix_by-at p m.row_count m.column_count (λ i j. entry m.entries i j % p) i j lt below ∙ mod-eq_of_lt (M.residues i j lt below))

pub positive : (p : ℕ) → is_tabled p ≡ true → 1 ≤ p
positive p t = let big = (tabled_range p t).0 in omega arith

null_basis_of : (p : ℕ) → is_tabled p ≡ true → Grid → Grid
null_basis_of p t m = (null_basis_exists p t (residues_of p m) (residues_of-is p (positive p t) m)).basis

null_basis_of-is : (p : ℕ) (t : is_tabled p ≡ true) (m : Grid) → IsMatrix p m → IsNullBasis m (null_basis_of p t m)
unfolding null_basis_of
null_basis_of-is p t m M =
    subst (λ z. IsNullBasis z (null_basis_of p t m)) (residues_of-same p (positive p t) m M) (null_basis_exists p t (residues_of p m) (residues_of-is p (positive p t) m)).is

row_lift_of : (p : ℕ) → is_tabled p ≡ true → Grid → Grid → Option Grid
row_lift_of p h t f = ⊎_elim
    (λ e. (row_lift_exists p h (residues_of p t) (residues_of p f) (residues_of-is p (positive p h) t) (residues_of-is p (positive p h) f) e).0)
    (λ ne. None)
    (cases_eq (residues_of p t).column_count (residues_of p f).column_count)

row_lift_of-rows : (p : ℕ) (h : is_tabled p ≡ true) (t f : Grid) → IsMatrix p t → IsMatrix p f → t.column_count ≡ f.column_count → IsRowLift t f (row_lift_of p h t f)
unfolding row_lift_of
row_lift_of-rows p h t f T F meet =
    let et = residues_of-same p (positive p h) t T in
    let ef = residues_of-same p (positive p h) f F in
    subst (λ x. IsRowLift x f (row_lift_of p h t f)) et (subst (λ y. IsRowLift (residues_of p t) y (row_lift_of p h t f)) ef
    (elim (cases_eq (residues_of p t).column_count (residues_of p f).column_count)
    as (λ w. IsRowLift (residues_of p t) (residues_of p f)
    (⊎_elim
    (λ e. (row_lift_exists p h (residues_of p t) (residues_of p f) (residues_of-is p (positive p h) t) (residues_of-is p (positive p h) f) e).0)
    (λ ne. None) w)) [
      | inl e ↦ (row_lift_exists p h (residues_of p t) (residues_of p f) (residues_of-is p (positive p h) t) (residues_of-is p (positive p h) f) e).1
      | inr ne ↦ absurd (ne (ap (λ (g : Grid). g.column_count) et ∙ meet ∙ sym (ap (λ (g : Grid). g.column_count) ef)))
    ]))

pub members : MembersExist
members p h = record {
  kernel = null_basis_of p h;
  lift = row_lift_of p h;
  basis = null_basis_of-is p h;
  lift_rows = row_lift_of-rows p h;
}

-- the kernel and the lift that are answered, and the transposes of those of the transposes
abbrev kernel_of : (p : ℕ) → is_tabled p ≡ true → Grid → Grid
kernel_of p t = (members p t).kernel

abbrev lift_of : (p : ℕ) → is_tabled p ≡ true → Grid → Grid → Option Grid
lift_of p t = (members p t).lift

abbrev cokernel_of : (p : ℕ) → is_tabled p ≡ true → Grid → Grid
cokernel_of p t f = transposed_of (kernel_of p t (transposed_of f))

abbrev colift_of : (p : ℕ) → is_tabled p ≡ true → Grid → Grid → Option Grid
colift_of p t f x = map_option transposed_of (lift_of p t (transposed_of x) (transposed_of f))

pub kernel_of-is : (p : ℕ) (t : is_tabled p ≡ true) (m : Grid) → IsMatrix p m → IsNullBasis m (kernel_of p t m)
kernel_of-is p t m M = (members p t).basis m M

pub lift_of-rows : (p : ℕ) (h : is_tabled p ≡ true) (t f : Grid) → IsMatrix p t → IsMatrix p f → t.column_count ≡ f.column_count → IsRowLift t f (lift_of p h t f)
lift_of-rows p h t f T F meet = (members p h).lift_rows t f T F meet

-- the laws of an abelian category for them
module _ (p : ℕ) (t : is_tabled p ≡ true) where
  pub kernel_is : (a b : ℕ) (f : Grid) → Arrow (vec_data p) a b f → IsKernel (vec_data p) (kernel_of p t f).row_count a b f (kernel_of p t f)
  kernel_is a b f F = kernel-from-basis (tabled_range p t).0 (as-matrix F) (kernel_of-is p t f F.is)

  pub cokernel_is : (a b : ℕ) (f : Grid) → Arrow (vec_data p) a b f → IsCokernel (vec_data p) a b (cokernel_of p t f).column_count f (cokernel_of p t f)
  cokernel_is a b f F = cokernel-from-basis (tabled_range p t).0 (as-matrix F) (kernel_of-is p t (transposed_of f) (transposed-matrix (as-matrix F)).is)

  pub weak_kernel_is : (a b : ℕ) (f : Grid) → Arrow (vec_data p) a b f → IsWeakKernel (vec_data p) (kernel_of p t f).row_count a b f (kernel_of p t f)
  weak_kernel_is a b f F = weak-from-kernel (vec_linear p t) (kernel_is a b f F)

  pub weak_cokernel_is : (a b : ℕ) (f : Grid) → Arrow (vec_data p) a b f → IsWeakCokernel (vec_data p) a b (cokernel_of p t f).column_count f (cokernel_of p t f)
  weak_cokernel_is a b f F = weak-from-kernel (opposite-linear (vec_linear p t)) (cokernel_is a b f F)

  pub lift_is : (x a b : ℕ) (s f : Grid) → Arrow (vec_data p) x b s → Arrow (vec_data p) a b f → IsLift (vec_data p) x a b s f (lift_of p t s f)
  lift_is x a b s f S F =
      let meet : s.column_count ≡ f.column_count = S.to ∙ sym F.to in
      let l = row_lift_is_lift p t s f (lift_of p t s f) S.is F.is meet (lift_of-rows p t s f S.is F.is meet) in
      subst (λ n. IsLift (vec_data p) n a b s f (lift_of p t s f)) S.from
      (subst (λ n. IsLift (vec_data p) s.row_count n b s f (lift_of p t s f)) F.from
      (subst (λ n. IsLift (vec_data p) s.row_count f.row_count n s f (lift_of p t s f)) F.to l))

  pub colift_is : (a b x : ℕ) (f s : Grid) → Arrow (vec_data p) a b f → Arrow (vec_data p) a x s → IsColift (vec_data p) a b x f s (colift_of p t f s)
  colift_is a b x f s F S =
      let o = lift_of p t (transposed_of s) (transposed_of f) in
      let l = lift_is x b a (transposed_of s) (transposed_of f) (as-arrow (transposed-matrix (as-matrix S))) (as-arrow (transposed-matrix (as-matrix F))) in
      let here : IsLift (vec_data p) s.column_count f.column_count f.row_count (transposed_of s) (transposed_of f) o =
      subst (λ n. IsLift (vec_data p) n f.column_count f.row_count (transposed_of s) (transposed_of f) o) (sym S.to)
      (subst (λ n. IsLift (vec_data p) x n f.row_count (transposed_of s) (transposed_of f) o) (sym F.to)
      (subst (λ n. IsLift (vec_data p) x b n (transposed_of s) (transposed_of f) o) (sym F.from) l)) in
      let k = colift_by_transposes p t s f o S.is F.is (S.from ∙ sym F.from) here in
      subst (λ n. IsColift (vec_data p) n b x f s (colift_of p t f s)) F.from
      (subst (λ n. IsColift (vec_data p) f.row_count n x f s (colift_of p t f s)) F.to
      (subst (λ n. IsColift (vec_data p) f.row_count f.column_count n f s (colift_of p t f s)) S.to k))
