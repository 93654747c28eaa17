use Rattle.std.proofs.Common.{refl}
use Rattle.std.specs.Prelude.{◌⊎◌}
use Rattle.cap_matrix.specs.Grid.{product_of, sum_of, scaled_of, zero_of, unit_of}
use Rattle.cap_vec_laws.specs.Vec.{vec_data}
use Rattle.cap_vec.specs.Members.{kernel_of, cokernel_of, lift_of, colift_of}
use Rattle.cap_vec.specs.Sizes.{IsSizeOf, IsSizeInSum, IsSizeInKernel, IsSizeInCokernel, IsSizeInLift, IsSizeInColift, IsSizeInPullback, IsSizeInPushout, block_sum, pullback_of, pushout_of}
use Rattle.cap_ops.specs.declared.plans.Kind.TheVariants.{Mat}
use Rattle.cap_ops.specs.Operations.{Kernel, Cokernel, Lift, Colift, Pullback, Pushout}
use Rattle.cap_data.specs.OfMatrices.{matrix_reading}
use Rattle.cap_primitives.specs.Primitives.{identity_primitive, compose_primitive, zero_primitive, add_primitive, scale_primitive, congruent_primitive, zero_object_primitive, sum_primitive, source_primitive, target_primitive, sources_primitive, targets_primitive, perhaps_primitive}
use Rattle.cap_primitives.proofs.Tables.{gives-at}
use Rattle.cap_vec_offer.specs.Offer.{vec_primitives}
use Rattle.cap_vec_offer.proofs.prim.matrix_prim.Goals as goal

pub returns-in-1 : goal.returns-in-1
returns-in-1 g c =
    let p = c.args.cat.now.field in
    let t = c.args.cat.now.tabled in
    let V = vec_data p in
    gives-at V matrix_reading Mat (vec_primitives p t) (g.B.Objects.told c.args.objects.now) (identity_primitive V (λ a s. IsSizeOf (unit_of p a) s)) _ c.args.args.now refl _ c.in-1.is c.identity.result c.identity.ensures

pub returns-in-2 : goal.returns-in-2
returns-in-2 g c =
    let p = c.args.cat.now.field in
    let t = c.args.cat.now.tabled in
    let V = vec_data p in
    gives-at V matrix_reading Mat (vec_primitives p t) (g.B.Objects.told c.args.objects.now) (compose_primitive V (λ f g s. IsSizeOf (product_of f g) s)) _ c.args.args.now refl _ c.in-2.is c.compose.result c.compose.ensures

pub returns-in-3 : goal.returns-in-3
returns-in-3 g c =
    let p = c.args.cat.now.field in
    let t = c.args.cat.now.tabled in
    let V = vec_data p in
    gives-at V matrix_reading Mat (vec_primitives p t) (g.B.Objects.told c.args.objects.now) (zero_primitive V (λ a b s. IsSizeOf (zero_of p a b) s)) _ c.args.args.now refl _ c.in-3.is c.zero.result c.zero.ensures

pub returns-in-4 : goal.returns-in-4
returns-in-4 g c =
    let p = c.args.cat.now.field in
    let t = c.args.cat.now.tabled in
    let V = vec_data p in
    gives-at V matrix_reading Mat (vec_primitives p t) (g.B.Objects.told c.args.objects.now) (add_primitive V (λ f g s. IsSizeOf (sum_of f g) s)) _ c.args.args.now refl _ c.in-4.is c.add.result c.add.ensures

pub returns-in-7 : goal.returns-in-7
returns-in-7 g c =
    let p = c.args.cat.now.field in
    let t = c.args.cat.now.tabled in
    let V = vec_data p in
    gives-at V matrix_reading Mat (vec_primitives p t) (g.B.Objects.told c.args.objects.now) (scale_primitive V (λ n f s. IsSizeOf (scaled_of n f) s)) _ c.args.args.now refl _ c.in-7.is c.scale.result c.scale.ensures

pub returns-in-8 : goal.returns-in-8
returns-in-8 g c =
    let p = c.args.cat.now.field in
    let t = c.args.cat.now.tabled in
    let V = vec_data p in
    gives-at V matrix_reading Mat (vec_primitives p t) (g.B.Objects.told c.args.objects.now) (congruent_primitive V (λ f g s. ⊥)) _ c.args.args.now refl _ c.in-8.is c.is_congruent.result c.is_congruent.ensures

pub returns-in-10 : goal.returns-in-10
returns-in-10 g c =
    let p = c.args.cat.now.field in
    let t = c.args.cat.now.tabled in
    let V = vec_data p in
    gives-at V matrix_reading Mat (vec_primitives p t) (g.B.Objects.told c.args.objects.now) (zero_object_primitive V 0 (λ s. ⊥ ⊎ IsSizeOf (unit_of p 0) s)) _ c.args.args.now refl _ c.in-10.is c.zero_object.result c.zero_object.ensures

pub returns-in-11 : goal.returns-in-11
returns-in-11 g c =
    let p = c.args.cat.now.field in
    let t = c.args.cat.now.tabled in
    let V = vec_data p in
    gives-at V matrix_reading Mat (vec_primitives p t) (g.B.Objects.told c.args.objects.now) (sum_primitive V (λ a b. block_sum p a b) (λ a b s. IsSizeInSum p a b s)) _ c.args.args.now refl _ c.in-11.is c.direct_sum.result c.direct_sum.ensures

pub returns-in-16 : goal.returns-in-16
returns-in-16 g c =
    let p = c.args.cat.now.field in
    let t = c.args.cat.now.tabled in
    let V = vec_data p in
    gives-at V matrix_reading Mat (vec_primitives p t) (g.B.Objects.told c.args.objects.now) (source_primitive V Kernel (λ f. kernel_of p t f) (λ f s. IsSizeInKernel p t f s)) _ c.args.args.now refl _ c.in-16.is c.kernel.result c.kernel.ensures

pub returns-in-18 : goal.returns-in-18
returns-in-18 g c =
    let p = c.args.cat.now.field in
    let t = c.args.cat.now.tabled in
    let V = vec_data p in
    gives-at V matrix_reading Mat (vec_primitives p t) (g.B.Objects.told c.args.objects.now) (target_primitive V Cokernel (λ f. cokernel_of p t f) (λ f s. IsSizeInCokernel p t f s)) _ c.args.args.now refl _ c.in-18.is c.cokernel.result c.cokernel.ensures

pub returns-in-22 : goal.returns-in-22
returns-in-22 g c =
    let p = c.args.cat.now.field in
    let t = c.args.cat.now.tabled in
    let V = vec_data p in
    gives-at V matrix_reading Mat (vec_primitives p t) (g.B.Objects.told c.args.objects.now) (perhaps_primitive Lift (λ x f. lift_of p t x f) (λ x f s. IsSizeInLift p t x f s)) _ c.args.args.now refl _ c.in-22.is c.lift.result c.lift.ensures

pub returns-in-23 : goal.returns-in-23
returns-in-23 g c =
    let p = c.args.cat.now.field in
    let t = c.args.cat.now.tabled in
    let V = vec_data p in
    gives-at V matrix_reading Mat (vec_primitives p t) (g.B.Objects.told c.args.objects.now) (perhaps_primitive Colift (λ f x. colift_of p t f x) (λ f x s. IsSizeInColift p t f x s)) _ c.args.args.now refl _ c.in-23.is c.colift.result c.colift.ensures

pub returns-in-34 : goal.returns-in-34
returns-in-34 g c =
    let p = c.args.cat.now.field in
    let t = c.args.cat.now.tabled in
    let V = vec_data p in
    gives-at V matrix_reading Mat (vec_primitives p t) (g.B.Objects.told c.args.objects.now) (sources_primitive V Pullback (λ f g. pullback_of p t f g) (λ f g s. IsSizeInPullback p t f g s)) _ c.args.args.now refl _ c.in-34.is c.pullback.result c.pullback.ensures

pub returns-in-35 : goal.returns-in-35
returns-in-35 g c =
    let p = c.args.cat.now.field in
    let t = c.args.cat.now.tabled in
    let V = vec_data p in
    gives-at V matrix_reading Mat (vec_primitives p t) (g.B.Objects.told c.args.objects.now) (targets_primitive V Pushout (λ f g. pushout_of p t f g) (λ f g s. IsSizeInPushout p t f g s)) _ c.args.args.now refl _ c.in-35.is c.pushout.result c.pushout.ensures
