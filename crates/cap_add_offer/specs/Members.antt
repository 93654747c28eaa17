-- What the offer of the additive closure of a valid table owes: its category is linear, its morphisms have the ends that they name, and each primitive's answer has its operation's meaning and is one, with few new objects.
use Rattle.std.specs.Prelude.{◌≡◌, refl}
use Rattle.cap_laws.specs.Linear.{IsLinear}
use Rattle.cap_laws.specs.Table.{TableData, IsTable}
use Rattle.cap_add_laws.specs.Closure.{closure_data}
use Rattle.cap_add_laws.proofs.Linear.{closure-linear}
use Rattle.cap_add_laws.proofs.DirectSum.{empty-is-zero, sum-is}
use Rattle.cap_add_laws.proofs.Structure.{closure-is-hom}
use Rattle.cap_solve_laws.proofs.Solutions.{solution-answers}
use Rattle.cap_solve_laws.proofs.WeakKernels.{weak-kernel-is}
use Rattle.cap_solve_laws.proofs.Cokernels.{weak-cokernel-is}
use Rattle.cap_ops.specs.declared.plans.Kind.TheVariants.{Add}
use Rattle.cap_ops.specs.Offered.{offered_weight}
use Rattle.cap_ops.specs.Told.{HasPlainEnds}
use Rattle.cap_ops.specs.Primitives.{PrimsMean, HasOneOutcome, HasFewObjects, prime_of}
use Rattle.cap_primitives.specs.Calls.{ClosureLaws, closure_table}
use Rattle.cap_primitives.specs.Table.{IsOffer}
use Rattle.cap_primitives.proofs.Calls.{closure_are}
use Rattle.cap_primitives.proofs.Offers.{is_offer}
use Rattle.cap_encoded.specs.OfClosures.{closure_reading}
use Rattle.cap_encoded.specs.ReadsClosures.{closure_read}
use Rattle.cap_add_offer.specs.Offer.{list_calls, list_offer}

module _ (T : TableData) (V : IsTable T) where
  list_laws : ClosureLaws (list_calls T)
  list_laws = record {
    additive = record {
      linear = closure-linear V;
      zero_object_is = empty-is-zero V;
      sum_is = λ a b A B. sum-is V A B;
    };
    weak_kernel_is = λ a b f F. weak-kernel-is (closure-linear V) (closure-is-hom V) (record { zero_object_is = empty-is-zero V; sum_is = λ a b A B. sum-is V A B }) F;
    weak_cokernel_is = λ a b f F. weak-cokernel-is (closure-linear V) (closure-is-hom V) (record { zero_object_is = empty-is-zero V; sum_is = λ a b A B. sum-is V A B }) F;
    solves = λ s I. solution-answers (closure-linear V) (closure-is-hom V) s I;
  }

  pub list_is : IsOffer (list_offer T)
  unfolding list_offer
  list_is = is_offer (closure_data T) closure_reading (closure-linear V) (closure_read T) Add (closure_table (list_calls T)) (closure_are (list_calls T) list_laws)

  pub list_plain : HasPlainEnds (list_offer T).category
  list_plain = list_is.plain_ends

  pub list_linear : IsLinear (list_offer T).category
  list_linear = list_is.linear

  pub list_means : PrimsMean (list_offer T)
  list_means = list_is.means

  pub list_one : HasOneOutcome (list_offer T)
  list_one = list_is.one

  pub list_few : HasFewObjects (list_offer T)
  list_few = list_is.few

pub list_kind : (T : TableData) → (list_offer T).kind ≡ Add
unfolding list_offer
list_kind T = refl

pub list_weights : (T : TableData) → (list_offer T).weight ≡ offered_weight Add
unfolding list_offer
list_weights T = refl

pub list_prime : (T : TableData) → prime_of (list_offer T) ≡ T.prime
unfolding list_offer
list_prime T = refl
