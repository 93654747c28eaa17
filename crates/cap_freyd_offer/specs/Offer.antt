-- The offer of the Freyd category of the additive closure of a table: its primitives on data.
use Rattle.std.specs.Prelude.{◌⊎◌, []}
use Rattle.cap_laws.specs.Table.{TableData}
use Rattle.cap_add_laws.specs.Closure.{MorphismMatrix, closure_data, closure_sum}
use Rattle.cap_freyd.specs.Sizes.{rows_meets, difference_meets}
use Rattle.cap_freyd_laws.specs.declared.values.Presentation.{Presentation}
use Rattle.cap_freyd_laws.specs.declared.values.PresentationMor.{PresentationMor}
use Rattle.cap_freyd_laws.specs.Freyd.{freyd_data}
use Rattle.cap_freyd_laws.specs.Canonical.{freyd_sum, kernel_of, cokernel_of, lift_of, colift_of, congruence_system, lift_system, colift_system}
use Rattle.cap_freyd_univ.specs.Sizes.{kernel_meets, cokernel_meets, lift_equations_meet, colift_equations_meet}
use Rattle.cap_ops.specs.declared.plans.Kind.TheVariants.{Freyd}
use Rattle.cap_ops.specs.Primitives.{OfferData}
use Rattle.cap_data.specs.declared.data.ObjData.{ObjData}
use Rattle.cap_data.specs.declared.data.MorData.{MorData}
use Rattle.cap_primitives.specs.Calls.{AbelianCalls, additive_calls, abelian_calls, abelian_table}
use Rattle.cap_primitives.specs.Table.{offer_of}
use Rattle.cap_encoded.specs.OfFreyd.{freyd_reading}
use Rattle.cap_add_offer.specs.Calls.{closure_weak_kernel, closure_solution, identity_sizes, compose_sizes, zero_sizes, add_sizes, scale_sizes, sum_sizes, system_sizes, weak_kernel_sizes}

module _ (T : TableData) where
  -- what its calls answer and meet
  abbrev pub freyd_calls : AbelianCalls (Presentation MorphismMatrix) (PresentationMor MorphismMatrix)
  freyd_calls =
      let K = closure_data T in
      abelian_calls
      (additive_calls (freyd_data K)
      (λ a. identity_sizes T a.relation.to)
      (λ f g. compose_sizes T f.alpha g.alpha)
      (λ f g s. (difference_meets K (scale_sizes T) (add_sizes T) f.alpha g.alpha s ⊎ identity_sizes T f.from.relation.to s) ⊎ system_sizes T (congruence_system K f.from.relation f.to.relation f.alpha g.alpha) s)
      (λ a b. zero_sizes T a.relation.to b.relation.to)
      (λ f g. add_sizes T f.alpha g.alpha)
      (λ n f. scale_sizes T n f.alpha)
      (record { relation = K.identity [] })
      (λ a b. freyd_sum K (closure_sum T) a b)
      (λ s. ⊥ ⊎ identity_sizes T [] s)
      (λ a b s.
      let r = closure_sum T a.relation.from b.relation.from in
      let d = closure_sum T a.relation.to b.relation.to in
      (((sum_sizes T a.relation.from b.relation.from s ⊎ sum_sizes T a.relation.to b.relation.to s) ⊎ compose_sizes T a.relation d.i1 s) ⊎ compose_sizes T b.relation d.i2 s)
      ⊎ rows_meets K (compose_sizes T) (add_sizes T) r.p1 r.p2 (K.compose a.relation d.i1) (K.compose b.relation d.i2) s))
      (λ f. kernel_of K (closure_sum T) (closure_weak_kernel T) f)
      (λ f. cokernel_of K (closure_sum T) f)
      (λ t f. lift_of K (closure_solution T) t f)
      (λ f t. colift_of K (closure_solution T) f t)
      (λ f s. kernel_meets K (closure_sum T) (closure_weak_kernel T) (sum_sizes T) (compose_sizes T) (add_sizes T) (weak_kernel_sizes T) f s)
      (λ f s. cokernel_meets K (closure_sum T) (sum_sizes T) (compose_sizes T) (add_sizes T) (identity_sizes T) f s)
      (λ t f s. lift_equations_meet K (identity_sizes T) (scale_sizes T) (zero_sizes T) t f s ⊎ system_sizes T (lift_system K t.from.relation f.from.relation f.to.relation t.alpha f.alpha) s)
      (λ f t s. colift_equations_meet K (identity_sizes T) (scale_sizes T) (zero_sizes T) f t s ⊎ system_sizes T (colift_system K f.from.relation f.to.relation t.to.relation f.alpha t.alpha) s)

-- the offer over a table
unfoldable pub freyd_offer : TableData → OfferData ObjData MorData
freyd_offer T = offer_of (freyd_data (closure_data T)) freyd_reading Freyd (abelian_table (freyd_calls T))
