use Rattle.std.proofs.Common.{[], ◌∷◌, refl, sym, subst}
use Rattle.std.specs.Prelude.{Option, Some}
use Rattle.cap_names.specs.declared.identifiers.Handle.{Handle}
use Rattle.cap_ops.specs.declared.keys.Arg.TheVariants.{Mor}
use Rattle.cap_ops.specs.Told.{IsArrow}
use Rattle.cap_data.specs.declared.data.ObjData.{ObjData}
use Rattle.cap_data.specs.declared.data.ObjData.TheVariants.{Dim}
use Rattle.cap_data.specs.declared.data.MorData.{MorData}
use Rattle.cap_primitives.specs.Given.{from_to}
use Rattle.cap_offer.specs.Labels.{any_offer}
use Rattle.cap_offer.proofs.Known.{more-known, arrow-known}
use Rattle.cap_bench_offer.proofs.time_size.Goals as goal

pub time_composite-requires-clause-known : goal.time_composite-requires-clause-known
time_composite-requires-clause-known c =
    let l = c.in-Ok.cat in
    let a = Dim c.args.n in
    let told : Handle → Option ObjData = λ h. Some (Dim c.args.n) in
    let Is = λ (m : MorData). IsArrow (any_offer l).category (from_to a a m) in
    let f = subst Is (sym c.arrow.ensures) c.in-Some-random_morphism.ensures in
    let g = subst Is (sym c.arrow-2.ensures) c.in-Some-random_morphism-2.ensures in
    more-known l told (Mor c.arrow.result ∷ []) (Mor c.arrow-2.result) (arrow-known l told c.arrow.result a a refl refl f) (arrow-known l told c.arrow-2.result a a refl refl g)
