use Rattle.std.proofs.Common.{sym, subst}
use Rattle.std.specs.Prelude.{IsSome}
use Rattle.cap_lincat.specs.declared.table.LinTable.{LinTable}
use Rattle.cap_ops.specs.declared.plans.Kind.TheVariants.{Add}
use Rattle.cap_ops.specs.Arrows.{over, arguments}
use Rattle.cap_ops.specs.Values.{Fits}
use Rattle.cap_ops.specs.Primitives.{PrimGives, prime_of}
use Rattle.cap_ops.specs.Told.{Known}
use Rattle.cap_lincat.specs.Tables.{table_in}
use Rattle.cap_add_offer.specs.Offer.{list_offer}
use Rattle.cap_add_offer.proofs.offer.ListOfferOffer.prim.Goals as goal

pub closure_prim-requires-clause-is_offered : goal.closure_prim-requires-clause-is_offered
unfolding list_offer
closure_prim-requires-clause-is_offered g c = c.requires.is_offered

pub closure_prim-requires-clause-fits : goal.closure_prim-requires-clause-fits
unfolding list_offer
closure_prim-requires-clause-fits g c =
    subst (λ (W : LinTable). Fits (over W.field) c.args.op.0 (arguments c.args.args.now)) (sym c.self.view_is) c.requires.fits

pub closure_prim-requires-clause-known : goal.closure_prim-requires-clause-known
unfolding list_offer
closure_prim-requires-clause-known g c =
    let told = g.B.Objects.told c.args.objects.now in
    subst (λ (W : LinTable). Known (list_offer (table_in W)).category told (arguments c.args.args.now)) (sym c.self.view_is) c.requires.known

pub returns : goal.returns
unfolding list_offer
returns g c =
    let told = g.B.Objects.told c.args.objects.now in
    subst (λ (W : LinTable). PrimGives (list_offer (table_in W)) told c.args.op.0 c.args.args.now c.closure_prim.result) c.self.view_is (c.closure_prim.ensures Add)
