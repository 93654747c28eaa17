-- Kernels and cokernels by null rows, with the sizes that they meet.
use Rattle.std.proofs.Common.{◌≡◌, ℕ, ◌-◌, ◌^◌, ◌<◌, min, true, false, sym, ap, subst, rules, inr}
use Rattle.cap_field.specs.Residue.{is_tabled}
use Rattle.cap_field.proofs.Fermat.{tabled_range}
use Rattle.cap_matrix.specs.Grid.{Grid, IsMatrix, fits_limits}
use Rattle.cap_matrix.specs.Reduced.{IsNullBasis}
use Rattle.cap_names.specs.declared.faults.TooLarge.{TooLarge}
use Rattle.cap_matrix.proofs.Filled.{fits_parts}
use Rattle.cap_reduce.specs.Answers.{IsLargeNullBasis}
use Rattle.cap_reduce.proofs.NullBasis.{one_null_basis}
use Rattle.cap_laws.specs.Answers.{Size, Fits, Names, numbers}
use Rattle.cap_vec.specs.Members.{kernel_of}
use Rattle.cap_vec_laws.proofs.Members.{kernel_of-is}
use Rattle.cap_vec.specs.Sizes.{size_of, IsSizeOf, IsSizeInKernel}
use Rattle.cap_vec.proofs.Faults.{either_fits}

-- the test of the limits is what keeping them means
pub fits_size : (n m : ℕ) → fits_limits n m ≡ true → Fits (numbers n m)
fits_size n m h = let x = fits_parts n m h in record { rows = x.0; columns = x.1; cells = x.2 }

pub past_size : (n m : ℕ) → fits_limits n m ≡ false → Fits (numbers n m) → ⊥
past_size n m h f = search rules

pub size_fits : (g : Grid) → fits_limits g.row_count g.column_count ≡ true → (s : Size) → IsSizeOf g s → Fits s
size_fits g h s e = subst (λ (x : Size). Fits x) (sym e) (fits_size g.row_count g.column_count h)

pub cut : (n : ℕ) → n < 2 ^ 32 → n ≡ min n (2 ^ 32 - 1)
cut n lt = search rules

module _ (p : ℕ) (t : is_tabled p ≡ true) (f : Grid) (F : IsMatrix p f) where
  pub kernel_is : (k : Grid) → IsNullBasis f k → k ≡ kernel_of p t f
  kernel_is k B = one_null_basis p (tabled_range p t).0 f k (kernel_of p t f) F B (kernel_of-is p t f F)

  pub kernel_fits : fits_limits f.row_count f.column_count ≡ true → (k : Grid) → IsNullBasis f k → fits_limits k.row_count k.column_count ≡ true
      → (s : Size) → IsSizeInKernel p t f s → Fits s
  kernel_fits h k B l = either_fits (IsSizeOf f) (IsSizeOf (kernel_of p t f)) (size_fits f h)
      (subst (λ (x : Grid). (s : Size) → IsSizeOf x s → Fits s) (kernel_is k B) (size_fits k l))

  pub kernel_large : (size : TooLarge) → IsLargeNullBasis f size → size.rows < 2 ^ 32 → size.cols < 2 ^ 32 → Names (IsSizeInKernel p t f) size.rows size.cols
  kernel_large size l rows cols =
      let e = kernel_is l.basis l.is in
      record {
        size = size_of l.basis;
        is_met = inr (ap size_of e);
        past = past_size l.basis.row_count l.basis.column_count l.large;
        rows_named = subst (λ n. size.rows ≡ min n (2 ^ 32 - 1)) l.rows (cut size.rows rows);
        columns_named = subst (λ n. size.cols ≡ min n (2 ^ 32 - 1)) l.cols (cut size.cols cols);
      }
