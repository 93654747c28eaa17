use Rattle.std.proofs.Common.{sym, subst}
use Rattle.cap_lincat.specs.declared.table.LinTable.{LinTable}
use Rattle.cap_lincat.specs.Tables.{table_in}
use Rattle.cap_ops.specs.declared.plans.Kind.TheVariants.{Freyd}
use Rattle.cap_ops.specs.Arrows.{over, arguments}
use Rattle.cap_ops.specs.Values.{Fits}
use Rattle.cap_ops.specs.Primitives.{PrimGives}
use Rattle.cap_ops.specs.Told.{Known}
use Rattle.cap_freyd_offer.specs.Offer.{freyd_offer}
use Rattle.cap_freyd_offer.proofs.offer.FreydOfferOffer.prim.Goals as goal

pub abelian_prim-requires-clause-is_offered : goal.abelian_prim-requires-clause-is_offered
unfolding freyd_offer
abelian_prim-requires-clause-is_offered g c = c.requires.is_offered

pub abelian_prim-requires-clause-fits : goal.abelian_prim-requires-clause-fits
unfolding freyd_offer
abelian_prim-requires-clause-fits g c =
    subst (λ (W : LinTable). Fits (over W.field) c.args.op.0 (arguments c.args.args.now)) (sym c.self.view_is) c.requires.fits

pub abelian_prim-requires-clause-known : goal.abelian_prim-requires-clause-known
unfolding freyd_offer
abelian_prim-requires-clause-known g c =
    let told = g.B.Objects.told c.args.objects.now in
    subst (λ (W : LinTable). Known (freyd_offer (table_in W)).category told (arguments c.args.args.now)) (sym c.self.view_is) c.requires.known

pub returns : goal.returns
unfolding freyd_offer
returns g c =
    let told = g.B.Objects.told c.args.objects.now in
    subst (λ (W : LinTable). PrimGives (freyd_offer (table_in W)) told c.args.op.0 c.args.args.now c.abelian_prim.result) c.self.view_is (c.abelian_prim.ensures Freyd)
