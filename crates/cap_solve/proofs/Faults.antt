-- Answers of calls after others, and sizes within the limits.
use Rattle.std.proofs.Common.{◌≡◌, ◌⊎◌, ℕ, ◌+◌, ◌-◌, ◌^◌, ◌<◌, ◌≤◌, min, true, false, inl, inr, List, length, Result, Ok, Err, refl, sym, ap, subst, rules, arith}
use Rattle.std.specs.Result.{IsErrAnd}
use Rattle.cap_matrix.specs.Grid.{Grid, IsMatrix, fits_limits}
use Rattle.cap_matrix.specs.Reduced.{IsNullBasis}
use Rattle.cap_matrix.proofs.Filled.{fits_parts}
use Rattle.cap_field.specs.Residue.{is_tabled}
use Rattle.cap_field.proofs.Fermat.{tabled_range}
use Rattle.cap_names.specs.declared.faults.TooLarge.{TooLarge}
use Rattle.cap_reduce.specs.Answers.{IsLargeNullBasis}
use Rattle.cap_reduce.proofs.NullBasis.{one_null_basis}
use Rattle.cap_laws.specs.declared.faults.CatFault.{CatFault}
use Rattle.cap_laws.specs.declared.faults.CatFault.TheVariants.{TooLarge as too_large, NoMemory}
use Rattle.cap_laws.specs.Answers.{Size, Fits, Names, Answers, numbers}
use Rattle.cap_laws.specs.Systems.{Nth}
use Rattle.cap_laws.proofs.Systems.{nth-below}
use Rattle.cap_solve_laws.proofs.Solver.{null_rows_of, null_rows_of-is}
use Rattle.cap_solve.specs.Sizes.{OneMeets}
use Rattle.cap_solve.proofs.Places.{so_far_more}

-- the fault that a `?` hands on
pub err-is : {A : Type 0} (r : Result A CatFault) (e : CatFault) → IsErrAnd r (λ x. x ≡ e) → r ≡ Err e
err-is (Ok v) e h = absurd h
err-is (Err x) e h = ap Err h

-- the fault of a part is a fault of the whole
pub fault_of : {A B : Type 0} (met part : Size → Type 0) (right : A → Type 0) (first : B → Type 0) (e : CatFault) → ((s : Size) → part s → met s)
    → Answers part first (Err e) → Answers met right (Err e)
fault_of met part right first (too_large rows columns) k a = record { size = a.size; is_met = k a.size a.is_met; past = a.past; rows_named = a.rows_named; columns_named = a.columns_named }
fault_of met part right first NoMemory k a = tt

-- a part that meets only sizes within the limits names none
pub fault_never : {A B : Type 0} (met part : Size → Type 0) (right : A → Type 0) (first : B → Type 0) (e : CatFault) → ((s : Size) → part s → Fits s)
    → Answers part first (Err e) → Answers met right (Err e)
fault_never met part right first (too_large rows columns) k a = absurd (a.past (k a.size a.is_met))
fault_never met part right first NoMemory k a = tt

pub either_fits : (met met' : Size → Type 0) → ((s : Size) → met s → Fits s) → ((s : Size) → met' s → Fits s) → (s : Size) → met s ⊎ met' s → Fits s
either_fits met met' h h' s (inl m) = h s m
either_fits met met' h h' s (inr m) = h' s m

-- where each of a list fits, one that is met does
pub each_fits : {A : Type 0} (xs : List A) (P : A → Size → Type 0) → ((n : ℕ) (x : A) → Nth xs n x → (s : Size) → P x s → Fits s) → (s : Size) → OneMeets xs (λ x. P x s) → Fits s
each_fits xs P h s m = h m.number m.item m.is s m.meets

-- the test of the limits is what keeping them means
pub fits_size : (n m : ℕ) → fits_limits n m ≡ true → Fits (numbers n m)
fits_size n m h = let x = fits_parts n m h in record { rows = x.0; columns = x.1; cells = x.2 }

pub past_size : (n m : ℕ) → fits_limits n m ≡ false → Fits (numbers n m) → ⊥
past_size n m h f = search rules

pub size_fits : (n m : ℕ) → fits_limits n m ≡ true → (s : Size) → s ≡ numbers n m → Fits s
size_fits n m h s e = subst (λ (x : Size). Fits x) (sym e) (fits_size n m h)

cut : (n : ℕ) → n < 2 ^ 32 → n ≡ min n (2 ^ 32 - 1)
cut n lt = search rules

-- the null rows of a matrix, or their size
module _ (p : ℕ) (t : is_tabled p ≡ true) (m : Grid) (M : IsMatrix p m) where
  pub null_rows_are : (k : Grid) → IsNullBasis m k → k ≡ null_rows_of p m
  null_rows_are k B = one_null_basis p (tabled_range p t).0 m k (null_rows_of p m) M B (null_rows_of-is p m t M)

  pub null_rows_large : (size : TooLarge) → IsLargeNullBasis m size → size.rows < 2 ^ 32 → size.cols < 2 ^ 32
      → Names (λ s. s ≡ numbers (null_rows_of p m).row_count (null_rows_of p m).column_count) size.rows size.cols
  null_rows_large size l rows cols =
      subst (λ (g : Grid). Names (λ s. s ≡ numbers g.row_count g.column_count) size.rows size.cols) (null_rows_are l.basis l.is)
      (record {
        size = numbers l.basis.row_count l.basis.column_count;
        is_met = refl;
        past = past_size l.basis.row_count l.basis.column_count l.large;
        rows_named = subst (λ n. size.rows ≡ min n (2 ^ 32 - 1)) l.rows (cut size.rows rows);
        columns_named = subst (λ n. size.cols ≡ min n (2 ^ 32 - 1)) l.cols (cut size.cols cols);
      })

-- what the first i of a list meet fits
pub record FitSoFar {A : Type 0} (xs : List A) (P : ℕ → A → Size → Type 0) (i : ℕ) : Type 0 where
  pub each : (n : ℕ) (y : A) → Nth xs n y → n < i → (s : Size) → P n y s → Fits s

pub fit_none : {A : Type 0} (xs : List A) (P : ℕ → A → Size → Type 0) → FitSoFar xs P 0
fit_none xs P = record { each = λ n y q lt s m. absurd (omega (arith, lt)) }

pub fit_more : {A : Type 0} (xs : List A) (P : ℕ → A → Size → Type 0) (i : ℕ) (x : A) → Nth xs i x → ((s : Size) → P i x s → Fits s) → FitSoFar xs P i → FitSoFar xs P (i + 1)
fit_more xs P i x q p h = record { each = so_far_more xs (λ n y. (s : Size) → P n y s → Fits s) i x q p h.each }

pub fit_all : {A : Type 0} (xs : List A) (P : ℕ → A → Size → Type 0) (i : ℕ) → length xs ≤ i → FitSoFar xs P i → (n : ℕ) (y : A) → Nth xs n y → (s : Size) → P n y s → Fits s
fit_all xs P i all h n y q = h.each n y q (omega (arith, all, nth-below q))
