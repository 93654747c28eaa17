-- What the offer of the Freyd category over a valid table owes: its category is linear and abelian, its morphisms have the ends that they name,
-- and each primitive's answer has its operation's meaning and is one, with few new objects.
use Rattle.std.specs.Prelude.{◌≡◌, [], refl}
use Rattle.cap_laws.specs.Linear.{IsLinear}
use Rattle.cap_laws.specs.Universal.{IsAbelian}
use Rattle.cap_laws.specs.Table.{TableData, IsTable}
use Rattle.cap_add_laws.specs.Closure.{closure_data, closure_sum}
use Rattle.cap_add_laws.proofs.Linear.{closure-linear}
use Rattle.cap_add_laws.proofs.DirectSum.{empty-is-zero, sum-is}
use Rattle.cap_add_laws.proofs.Structure.{closure-is-hom}
use Rattle.cap_solve_laws.proofs.Solutions.{solution-answers}
use Rattle.cap_solve_laws.proofs.WeakKernels.{weak-kernel-is}
use Rattle.cap_freyd_laws.specs.Freyd.{freyd_data}
use Rattle.cap_freyd_laws.specs.Canonical.{HasSums, HasWeakKernels, HasSolver}
use Rattle.cap_freyd_laws.proofs.Linear.{freyd-linear}
use Rattle.cap_freyd_laws.proofs.Sums.{freyd-sums, freyd-zero}
use Rattle.cap_freyd_laws.proofs.Kernel.{freyd-kernel}
use Rattle.cap_freyd_laws.proofs.Cokernel.{freyd-cokernel}
use Rattle.cap_freyd_laws.proofs.Lifts.{freyd-lift, freyd-colift}
use Rattle.cap_freyd_laws.proofs.Abelian.{freyd-abelian}
use Rattle.cap_ops.specs.declared.plans.Kind.TheVariants.{Freyd}
use Rattle.cap_ops.specs.Offered.{offered_weight}
use Rattle.cap_ops.specs.Told.{HasPlainEnds}
use Rattle.cap_ops.specs.Primitives.{PrimsMean, HasOneOutcome, HasFewObjects, prime_of}
use Rattle.cap_primitives.specs.Calls.{AbelianLaws, abelian_table}
use Rattle.cap_primitives.specs.Table.{IsOffer}
use Rattle.cap_primitives.proofs.Calls.{abelian_are}
use Rattle.cap_primitives.proofs.Offers.{along_abelian, is_offer}
use Rattle.cap_encoded.specs.OfFreyd.{freyd_reading}
use Rattle.cap_encoded.specs.ReadsFreyd.{freyd_read}
use Rattle.cap_add_offer.specs.Calls.{closure_weak_kernel, closure_solution}
use Rattle.cap_freyd_offer.specs.Offer.{freyd_calls, freyd_offer}

module _ (T : TableData) (V : IsTable T) where
  sums : HasSums (closure_data T) (closure_sum T)
  sums = record { is = λ a b A B. sum-is V A B }

  weak_kernels : HasWeakKernels (closure_data T) (closure_weak_kernel T)
  weak_kernels = record { is = λ a b f F. weak-kernel-is (closure-linear V) (closure-is-hom V) (record { zero_object_is = empty-is-zero V; sum_is = sums.is }) F }

  solver : HasSolver (closure_data T) (closure_solution T)
  solver = record { is = λ s I. solution-answers (closure-linear V) (closure-is-hom V) s I }

  pub presentations_linear : IsLinear (freyd_data (closure_data T))
  presentations_linear = freyd-linear (closure-linear V)

  pub presentations_abelian : IsAbelian (freyd_data (closure_data T))
  presentations_abelian = freyd-abelian (closure-linear V) [] (empty-is-zero V).object sums weak_kernels

  freyd_laws : AbelianLaws (freyd_calls T)
  freyd_laws = record {
    additive = record {
      linear = presentations_linear;
      zero_object_is = freyd-zero (closure-linear V) [] (empty-is-zero V).object;
      sum_is = λ a b p q. (freyd-sums (closure-linear V) sums).is a b p q;
    };
    kernel_is = λ a b f F. freyd-kernel (closure-linear V) sums weak_kernels F;
    cokernel_is = λ a b f F. freyd-cokernel (closure-linear V) sums F;
    lift_is = λ x a b t f U F. freyd-lift (closure-linear V) solver U F;
    colift_is = λ a b x f t F U. freyd-colift (closure-linear V) solver F U;
  }

  pub freyd_is : IsOffer (freyd_offer T)
  unfolding freyd_offer
  freyd_is = is_offer (freyd_data (closure_data T)) freyd_reading presentations_linear (freyd_read T) Freyd (abelian_table (freyd_calls T)) (abelian_are (freyd_calls T) freyd_laws)

  pub freyd_plain : HasPlainEnds (freyd_offer T).category
  freyd_plain = freyd_is.plain_ends

  pub freyd_linear : IsLinear (freyd_offer T).category
  freyd_linear = freyd_is.linear

  pub freyd_means : PrimsMean (freyd_offer T)
  freyd_means = freyd_is.means

  pub freyd_one : HasOneOutcome (freyd_offer T)
  freyd_one = freyd_is.one

  pub freyd_few : HasFewObjects (freyd_offer T)
  freyd_few = freyd_is.few

  pub freyd_abelian : IsAbelian (freyd_offer T).category
  unfolding freyd_offer
  freyd_abelian = along_abelian (freyd_data (closure_data T)) freyd_reading presentations_linear (freyd_read T) presentations_abelian

pub freyd_kind : (T : TableData) → (freyd_offer T).kind ≡ Freyd
unfolding freyd_offer
freyd_kind T = refl

pub freyd_weights : (T : TableData) → (freyd_offer T).weight ≡ offered_weight Freyd
unfolding freyd_offer
freyd_weights T = refl

pub freyd_prime : (T : TableData) → prime_of (freyd_offer T) ≡ T.prime
unfolding freyd_offer
freyd_prime T = refl
