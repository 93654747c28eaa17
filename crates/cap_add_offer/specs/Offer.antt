-- The offer of the additive closure of a table: its primitives on data.
use Rattle.std.specs.Prelude.{ℕ, List, []}
use Rattle.cap_laws.specs.Table.{TableData}
use Rattle.cap_add_laws.specs.Closure.{MorphismMatrix, closure_data, closure_sum}
use Rattle.cap_ops.specs.declared.plans.Kind.TheVariants.{Add}
use Rattle.cap_ops.specs.Primitives.{OfferData}
use Rattle.cap_data.specs.declared.data.ObjData.{ObjData}
use Rattle.cap_data.specs.declared.data.MorData.{MorData}
use Rattle.cap_primitives.specs.Calls.{ClosureCalls, additive_calls, closure_calls, closure_table}
use Rattle.cap_primitives.specs.Table.{offer_of}
use Rattle.cap_encoded.specs.OfClosures.{closure_reading}
use Rattle.cap_add_offer.specs.Calls.{closure_weak_kernel, closure_weak_cokernel, closure_solution, identity_sizes, compose_sizes, zero_sizes, add_sizes, scale_sizes, sum_sizes, system_sizes, weak_kernel_sizes, weak_cokernel_sizes}

module _ (T : TableData) where
  -- what its calls answer and meet
  abbrev pub list_calls : ClosureCalls (List ℕ) MorphismMatrix
  list_calls = closure_calls
      (additive_calls (closure_data T) (identity_sizes T) (compose_sizes T) (λ f g s. ⊥) (zero_sizes T) (add_sizes T) (scale_sizes T) [] (closure_sum T) (λ s. ⊥) (sum_sizes T))
      (closure_weak_kernel T) (closure_weak_cokernel T) (closure_solution T) (weak_kernel_sizes T) (weak_cokernel_sizes T) (system_sizes T)

-- the offer over a table
unfoldable pub list_offer : TableData → OfferData ObjData MorData
list_offer T = offer_of (closure_data T) closure_reading Add (closure_table (list_calls T))
