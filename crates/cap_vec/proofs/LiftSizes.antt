-- The answers of a lift, with the sizes that it meets.
use Rattle.std.proofs.Common.{◌≡◌, ℕ, true, Option, subst, inr}
use Rattle.std.specs.Prelude.{Some}
use Rattle.cap_field.specs.Residue.{is_tabled}
use Rattle.cap_matrix.specs.Grid.{Grid, IsMatrix, fits_limits}
use Rattle.cap_laws.specs.Answers.{Size, Fits}
use Rattle.cap_vec_laws.specs.Laws.{IsRowLift}
use Rattle.cap_vec_laws.proofs.RowLifts.{one_row_lift}
use Rattle.cap_vec.specs.Members.{lift_of}
use Rattle.cap_vec_laws.proofs.Members.{lift_of-rows}
use Rattle.cap_vec.specs.Sizes.{IsSizeOf, IsSizeOfSome, IsSizeInLift}
use Rattle.cap_vec.proofs.Faults.{either_fits}
use Rattle.cap_vec.proofs.Kernels.{size_fits}

module _ (p : ℕ) (t : is_tabled p ≡ true) (x f : Grid) (X : IsMatrix p x) (F : IsMatrix p f) (meet : x.column_count ≡ f.column_count) where
  pub lift_same : (o : Option Grid) → IsRowLift x f o → o ≡ lift_of p t x f
  lift_same o h = one_row_lift p t x f o (lift_of p t x f) X F meet h (lift_of-rows p t x f X F meet)

  pub lift_fits : fits_limits f.row_count f.column_count ≡ true → (o : Option Grid) → IsRowLift x f o → ((s : Size) → IsSizeOfSome o s → Fits s)
      → (s : Size) → IsSizeInLift p t x f s → Fits s
  lift_fits h o l k = either_fits (IsSizeOf f) (IsSizeOfSome (lift_of p t x f)) (size_fits f h)
      (subst (λ (q : Option Grid). (s : Size) → IsSizeOfSome q s → Fits s) (lift_same o l) k)

  pub lift_met : (u : Grid) → IsRowLift x f (Some u) → (s : Size) → IsSizeOf u s → IsSizeInLift p t x f s
  lift_met u l s m = inr (subst (λ (q : Option Grid). IsSizeOfSome q s) (lift_same (Some u) l) m)
